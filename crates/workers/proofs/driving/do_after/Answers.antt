use Rattle.std.proofs.Common.{◌≡◌, ◌∙◌, List, ap, refl, subst, sym, false, option_to_list, true}
use Rattle.turns.specs.{Attempt.begin, Runs.is_available, Law.IsLegal, System.system_of, World.{Does, RecordOf}}
use Rattle.{desks.specs.{Desks.assigned_if, Reports.HasWorked}, workers.specs.Workers.records}
use Rattle.workers.proofs.{Logs.{after_noted, behind_noted, comes_noted}, Trying.{done_free, not_both}}
use Rattle.workers.proofs.driving.do_after.Goals as goal

pub returns-clause-after : goal.returns-clause-after
returns-clause-after g c =
    let setting = c.args.setting.now in
    let O = system_of (g.F.Jobs.system setting) in
    let laws = c.jobs_come_after_all_that_was_seen.ensures in
    let learned = c.learn.new.self in
    let desk = c.assign.new.self in
    let after = c.persist-reported.new.desk in
    let reported = c.persist-reported.result in
    let legal =
    subst (λ s. IsLegal (system_of (g.F.Jobs.system s)) 0 (g.F.Jobs.system s).opening after.seen) c.persist-reported.ensures.desk.desk_is
    c.number-number.ensures.legal in
    let seen : c.assign.new.self.seen ≡ c.learn.new.self.seen = ap (λ d. d.seen) c.assign.ensures.assigned in
    after_noted O desk.number c.args.number c.args.job learned.actor desk.actor after.actor c.assign.result c.args.note.seen learned.seen after.seen reported
    (λ earlier r. laws.noted setting c.args.note.seen learned.seen after.seen earlier r)
    (λ reported' r. laws.after setting desk.number desk.actor after.actor learned.seen after.seen reported' r)
    c.learn.ensures.learned.note_begins (subst (λ s. desk.actor
    ≡ assigned_if (system_of (g.F.Jobs.system s)) c.assign.result c.args.number c.args.job learned.actor)
    (ap (λ d. d.setting) c.learn.ensures.same ∙ c.requires.desk.desk_is) (ap (λ d. d.actor) c.assign.ensures.assigned)) c.if-not-assign.false legal
    (subst (λ (s : List (RecordOf O)). HasWorked O desk.number desk.actor after.actor s after.seen (records (option_to_list reported))) seen
    c.persist-reported.ensures.finished.worked)

pub returns-clause-comes : goal.returns-clause-comes
returns-clause-comes g c =
    let setting = c.args.setting.now in
    let O = system_of (g.F.Jobs.system setting) in
    let laws = c.jobs_come_after_all_that_was_seen.ensures in
    let learned = c.learn.new.self in
    let desk = c.assign.new.self in
    let after = c.persist-reported.new.desk in
    let reported = c.persist-reported.result in
    let legal =
    subst (λ s. IsLegal (system_of (g.F.Jobs.system s)) 0 (g.F.Jobs.system s).opening after.seen) c.persist-reported.ensures.desk.desk_is
    c.number-number.ensures.legal in
    let seen : c.assign.new.self.seen ≡ c.learn.new.self.seen = ap (λ d. d.seen) c.assign.ensures.assigned in
    comes_noted O desk.number c.args.number c.args.job learned.actor desk.actor after.actor c.assign.result c.args.note.seen learned.seen after.seen reported
    (λ r. laws.earlier setting c.args.note.seen learned.seen after.seen r)
    (λ reported' r. laws.after setting desk.number desk.actor after.actor learned.seen after.seen reported' r)
    c.learn.ensures.learned.note_begins (subst (λ s. desk.actor
    ≡ assigned_if (system_of (g.F.Jobs.system s)) c.assign.result c.args.number c.args.job learned.actor)
    (ap (λ d. d.setting) c.learn.ensures.same ∙ c.requires.desk.desk_is) (ap (λ d. d.actor) c.assign.ensures.assigned)) c.if-not-assign.false legal
    (subst (λ (s : List (RecordOf O)). HasWorked O desk.number desk.actor after.actor s after.seen (records (option_to_list reported))) seen
    c.persist-reported.ensures.finished.worked)

pub returns-clause-behind : goal.returns-clause-behind
returns-clause-behind g c =
    let setting = c.args.setting.now in
    let O = system_of (g.F.Jobs.system setting) in
    let laws = c.jobs_come_after_all_that_was_seen.ensures in
    let learned = c.learn.new.self in
    let desk = c.assign.new.self in
    let after = c.persist-reported.new.desk in
    let reported = c.persist-reported.result in
    let legal =
    subst (λ s. IsLegal (system_of (g.F.Jobs.system s)) 0 (g.F.Jobs.system s).opening after.seen) c.persist-reported.ensures.desk.desk_is
    c.number-number.ensures.legal in
    let seen : c.assign.new.self.seen ≡ c.learn.new.self.seen = ap (λ d. d.seen) c.assign.ensures.assigned in
    behind_noted O desk.number c.args.number c.args.job learned.actor desk.actor after.actor c.assign.result c.args.note.seen learned.seen after.seen reported
    (λ reported' r. laws.after setting desk.number desk.actor after.actor learned.seen after.seen reported' r)
    c.learn.ensures.learned.note_begins (subst (λ s. desk.actor
    ≡ assigned_if (system_of (g.F.Jobs.system s)) c.assign.result c.args.number c.args.job learned.actor)
    (ap (λ d. d.setting) c.learn.ensures.same ∙ c.requires.desk.desk_is) (ap (λ d. d.actor) c.assign.ensures.assigned)) c.if-not-assign.false legal
    (subst (λ (s : List (RecordOf O)). HasWorked O desk.number desk.actor after.actor s after.seen (records (option_to_list reported))) seen
    c.persist-reported.ensures.finished.worked)

pub returns-then-not-assign-clause-done : goal.returns-then-not-assign-clause-done
returns-then-not-assign-clause-done g c =
    let setting = c.args.setting.now in
    let O = system_of (g.F.Jobs.system setting) in
    let learned = c.learn.new.self in
    let taken = sym c.assign.ensures.free ∙ c.if-not-assign.true in
    let is = ap (λ d. d.setting) c.learn.ensures.same ∙ c.requires.desk.desk_is in (
      learned,
      c.learn.ensures.same,
      c.learn.ensures.learned,
      record {
        busy =
            λ busy. (
              subst (λ b. c.assign.new.self
                  ≡ record learned { actor = assigned_if (system_of (g.F.Jobs.system learned.setting)) b c.args.number c.args.job learned.actor })
                  c.if-not-assign.true c.assign.ensures.assigned,
              refl,
            );
        tried = λ free. absurd (not_both _ free (subst (λ s. is_available (system_of (g.F.Jobs.system s)) learned.actor ≡ false) is taken));
      },
    )

pub returns-clause-done : goal.returns-clause-done
returns-clause-done g c =
    let setting = c.args.setting.now in
    let O = system_of (g.F.Jobs.system setting) in
    let learned = c.learn.new.self in
    let taken = sym c.assign.ensures.free ∙ c.if-not-assign.false in
    let is = ap (λ d. d.setting) c.learn.ensures.same ∙ c.requires.desk.desk_is in
    let begun : c.assign.new.self ≡ record learned { actor = Does c.args.number (begin O c.args.job) } =
    subst (λ s. c.assign.new.self ≡ record learned { actor = assigned_if (system_of (g.F.Jobs.system s)) true c.args.number c.args.job learned.actor }) is
    (subst (λ b. c.assign.new.self
    ≡ record learned { actor = assigned_if (system_of (g.F.Jobs.system learned.setting)) b c.args.number c.args.job learned.actor }) c.if-not-assign.false
    c.assign.ensures.assigned) in (
      learned,
      c.learn.ensures.same,
      c.learn.ensures.learned,
      done_free O (g.B.BackOff.Answers c.args.back_off.now) (g.B.BackOff.Patience c.args.back_off.now) learned c.assign.new.self c.persist-reported.new.desk
          c.args.number c.args.job c.persist-reported.result (subst (λ s. is_available (system_of (g.F.Jobs.system s)) learned.actor ≡ true) is taken) begun
          c.persist-reported.ensures.persisted,
    )
