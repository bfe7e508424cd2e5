use Rattle.std.proofs.Common.{◌≡◌, ap, subst, sym, ◌∙◌, false}
use Rattle.{turns.specs.{Runs.is_available, System.system_of}, workers.proofs.Freely.{run_busy, runs_freely}}
use Rattle.workers.proofs.driving.run_on.Goals as goal

pub returns-then-not-is_idle-clause-finished : goal.returns-then-not-is_idle-clause-finished
returns-then-not-is_idle-clause-finished g c = λ busy.
    let setting = c.args.setting.now in
    let desk = c.args.desk.now in
    let after = c.run.new.self in
    let run = c.run.ensures.run in
    run_busy (system_of (g.F.Jobs.system setting)) desk after c.run.result run
    (c.desks_report_their_records.ensures.made setting desk.number c.run.result desk.actor after.actor desk.seen after.seen busy run.made)
    (c.reports_are_of_assigned_jobs.ensures.made setting desk.number c.run.result desk.actor after.actor desk.seen after.seen run.made)
    (subst (λ s. is_available (system_of (g.F.Jobs.system s)) after.actor ≡ false) (ap (λ d. d.setting) run.same ∙ c.requires.desk_is)
    (sym c.is_idle.ensures ∙ c.if-not-is_idle.true))

pub returns-then-not-is_idle-clause-goes_on : goal.returns-then-not-is_idle-clause-goes_on
returns-then-not-is_idle-clause-goes_on g c = λ busy.
    let setting = c.args.setting.now in
    let laws = c.steps_are_lawful_moves.ensures in
    let after = c.run.new.self in
    let run = c.run.ensures.run in
    runs_freely (system_of (g.F.Jobs.system setting))
    (λ holder k before after seen seen_after. laws.held setting k holder before after seen seen_after)
    (λ other k before after seen seen_after. laws.preferred setting k other before after seen seen_after)
    c.run.result c.args.desk.now after run
    (subst (λ s. is_available (system_of (g.F.Jobs.system s)) after.actor ≡ false) (ap (λ d. d.setting) run.same ∙ c.requires.desk_is)
    (sym c.is_idle.ensures ∙ c.if-not-is_idle.true))
