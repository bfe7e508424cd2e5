use Rattle.std.proofs.Common.{ap, ◌∙◌}
use Rattle.{turns.specs.{Attempt.asked_in, System.system_of}, desks.proofs.{RunningOn.{closes, comes_once, works_on}, Seating.allows_seated}}
use Rattle.desks.proofs.past_turn.step_past_turn.Goals as goal

pub make-found-requires-clause-allowed : goal.make-found-requires-clause-allowed
make-found-requires-clause-allowed g c i f at does =
    let O = system_of (g.F.Jobs.system c.args.setting.now) in
    let system = g.met.F.Jobs.is_system c.args.setting.now c.requires.right in
    allows_seated O system (λ w k number a law there. c.every_move_keeps_the_law.ensures.moves c.args.setting.now w k number a system law there)
    c.args.actor c.args.number (g.F.Jobs.attempt c.args.program.now) c.args.seat.now.me c.requires.seated c.args.shared.now.key.count _ _ i f at does

pub returns-clause-at_work : goal.returns-clause-at_work
returns-clause-at_work g c =
    let O = system_of (g.F.Jobs.system c.args.setting.now) in
    let a = g.F.Jobs.attempt c.args.program.now in
    works_on O c.args.actor c.args.number a _ c.args.seat.now.me c.make-found.new.seat.me c.make-found.result c.make-found.ensures.reported
    (c.apply_past_turn.ensures.closes ∙ closes O c.args.actor a c.in-Some.ensures.turned.0 c.make-found.result c.in-Some.ensures.turned.1)
    _ _ _ _ _ _ _ _ c.requires c.apply_past_turn.ensures.valid c.make-found.ensures.same.0 c.make-found.ensures.same.2

pub returns-clause-come : goal.returns-clause-come
returns-clause-come g c made =
    let O = system_of (g.F.Jobs.system c.args.setting.now) in
    let a = g.F.Jobs.attempt c.args.program.now in
    comes_once O c.args.actor c.args.number a _ c.args.seat.now.me c.make-found.new.seat.me c.make-found.result c.make-found.ensures.reported
    (c.apply_past_turn.ensures.closes ∙ closes O c.args.actor a c.in-Some.ensures.turned.0 c.make-found.result c.in-Some.ensures.turned.1)
    (ap asked_in c.in-Some.ensures.turned.1) c.in-Some.ensures.makes.goes_on
