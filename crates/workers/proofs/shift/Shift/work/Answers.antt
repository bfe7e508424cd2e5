use Rattle.std.proofs.Common.{◌≡◌, ◌≤◌, ◌+◌, ◌∙◌, ap, arith, subst, sym, vec_capacity, vec_len, true}
use Rattle.{turns.specs.{Attempt.begin, Runs.is_available, World.Does, System.system_of}, desks.specs.Desks.assigned_if, workers.specs.Workers.LogsOne}
use Rattle.workers.proofs.{Logs.at_its_job, Trying.{logged_done, on_ok}}
use Rattle.workers.proofs.shift.Shift.work.Goals as goal

pub returns-clause-done : goal.returns-clause-done
returns-clause-done g c = λ done.
    let number = c.args.number in
    let job = c.args.job in
    let desk = c.args.self.now.desk in
    let actor = c.assign.new.self.actor in
    let is =
    subst (λ s. actor ≡ assigned_if (system_of (g.F.Jobs.system s)) c.assign.result number job desk.actor) c.requires.desk.desk_is
    (ap (λ d. d.actor) c.assign.ensures.assigned) in
    subst (λ l. LogsOne l c.go_on.new.self.log.items number job) c.reserve.ensures.items
    (c.go_on.ensures.done done number job (at_its_job (system_of (g.F.Jobs.system c.args.setting.now)) number job desk.actor actor c.assign.result is
    c.if-not-assign.false))

pub returns-clause-logged : goal.returns-clause-logged
returns-clause-logged g c =
    let setting = c.args.setting.now in
    let O = system_of (g.F.Jobs.system setting) in
    let shift = c.args.self.now in
    let desk = shift.desk in
    let begun = c.assign.new.self in
    let after = c.go_on.new.self in
    let is = c.requires.desk.desk_is in
    let taken = sym c.assign.ensures.free ∙ c.if-not-assign.false in
    let begins : begun ≡ record desk { actor = Does c.args.number (begin O c.args.job) } =
    subst (λ s. begun ≡ record desk { actor = assigned_if (system_of (g.F.Jobs.system s)) true c.args.number c.args.job desk.actor }) is
    (subst (λ b. begun ≡ record desk { actor = assigned_if (system_of (g.F.Jobs.system desk.setting)) b c.args.number c.args.job desk.actor })
    c.if-not-assign.false c.assign.ensures.assigned) in
    let free = subst (λ s. is_available (system_of (g.F.Jobs.system s)) desk.actor ≡ true) is taken in
    let room : vec_len c.reserve.new.self + 1 ≤ vec_capacity c.reserve.new.self =
    on_ok c.reserve.result _ (sym c.is_err.ensures.value ∙ c.if-is_err.false) c.reserve.ensures.ok in
    logged_done O (g.B.BackOff.Answers c.args.back_off.now) (g.B.BackOff.Patience c.args.back_off.now) desk begun after.desk c.args.number c.args.job _ _
    shift.log.items c.reserve.new.self.items after.log.items c.go_on.result free begins
    (λ none. let full = none.0 in absurd (omega (arith, room, full))) c.reserve.ensures.items c.go_on.ensures.logged
