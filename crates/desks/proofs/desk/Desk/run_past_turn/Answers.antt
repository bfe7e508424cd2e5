use Rattle.std.proofs.Common.{◌≡◌, subst}
use Rattle.{turns.specs.System.system_of, desks.specs.{Running.{HasRun, counted}, Watching.watched_more}}
use Rattle.desks.proofs.{RunningOn.{runs_on, still_of}, Watching.tells_on}
use Rattle.desks.proofs.desk.Desk.run_past_turn.Goals as goal

pub loop-made-preserved : goal.loop-made-preserved
loop-made-preserved g c =
    let O = system_of (g.F.Jobs.system c.args.setting.now) in
    let desk = c.loop-made.self in
    let after = c.step_past_turn.new.self in
    let one = subst (λ b. HasRun O (counted b) desk after) c.if-step_past_turn.true c.step_past_turn.ensures.run in
    let reported =
    subst (λ b. g.W.Watch.steps_watched c.step_past_turn.new.watch ≡ watched_more (counted b) (g.W.Watch.steps_watched c.loop-made.watch))
    c.if-step_past_turn.true c.step_past_turn.ensures.reported in
    record {
      reported = tells_on c.loop-made.made 1 (g.W.Watch.steps_watched c.args.watch.now) _ _ c.loop-made.invariant.reported reported;
      desk_of = still_of O _ 1 desk after c.args.room.now c.args.setting.now one c.loop-made.invariant.desk_of;
      run = runs_on O _ c.loop-made.made 1 c.args.self.now desk after c.loop-made.invariant.run one;
    }
