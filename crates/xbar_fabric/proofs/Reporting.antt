-- each of a desk's own records is reported once
use Rattle.std.proofs.Common.{◌≡◌, ℕ, zero, suc, Bool, true, false, List, [], ◌∷◌, ◌++◌, append-nil, append_assoc, refl, sym, ◌∙◌, ap, subst, if◌then◌else◌}
use Rattle.{turns.specs.{Attempt.begin_with, World.Does}, desks.specs.Parts.Begins, xbar_office.specs.declared.{job.Job.Job, reply.Record.Record}}
use Rattle.{xbar_jobs.specs.Jobs.first_conn, xbar_moves.specs.{Exchange.is_idle, Moves.{given_by, restarted_work}, declared.event.Event.Event}}
use Rattle.xbar_fabric.specs.{Advances.{MarkerHasAdvanced, MarkerHasGivenBack, MarkerHasRun}, Histories.turned_of, Meetings.{MarkerHasLearned, MarkersHaveMet}}
use Rattle.xbar_fabric.{specs.{Reports.{MarkerHasWorked, ended, reported_by, unreported}, Views.{DeskView, mine}}, proofs.GrownRecords.{HasGrown, advance_ends}}
use Rattle.xbar_fabric.proofs.{GrownRecords.{advance_grown, back_adds_none, both_grown, still_grown}, Growing.{begins_same, run_begins, steps_begin}}
use Rattle.xbar_moves.specs.declared.event.Event.TheVariants as event
use Rattle.xbar_moves.specs.declared.event.Given.TheVariants as given

-- a record is reported, or is still to be reported
pub one_of_both : (idle : Bool) (l : List Record) → (if idle then l else []) ++ (if idle then [] else l) ≡ l
one_of_both true l = append-nil l
one_of_both false l = refl

-- there is none to be reported
pub none_left : (idle : Bool) (l : List Record) → l ≡ [] → (if idle then [] else l) ≡ []
none_left true l none = refl
none_left false l none = none

-- a busy desk that has grown reports what has ended
grown_worked : (before after : DeskView) → is_idle before.work ≡ false → Begins before.seen after.seen → HasGrown before after
    → MarkerHasWorked before after (ended after)
grown_worked before after busy begins grown = record {
  begins = begins;
  mine_are = λ log is.
      let left : unreported before ≡ turned_of before = ap (λ (idle : Bool). if idle then [] else turned_of before) busy in
      grown.mine_is
      ∙ ap (λ (l : List Record). l ++ grown.more) (is ∙ ap (λ (l : List Record). log ++ l) left)
      ∙ append_assoc log (turned_of before) grown.more
      ∙ ap (λ (l : List Record). log ++ l) (sym grown.turned_is ∙ sym (one_of_both (is_idle after.work) (turned_of after)));
}

pub stepped_worked : (before after : DeskView) (event : Event) → is_idle before.work ≡ false → MarkerHasAdvanced before after event
    → MarkerHasWorked before after (ended after)
stepped_worked before after event busy advanced = grown_worked before after busy advanced.grown (advance_grown before after event advanced)

-- an event reports what has ended
none_reported : (before after : DeskView) (event : Event) → MarkerHasAdvanced before after event → is_idle after.work ≡ false → reported_by event ≡ []
none_reported before after (event.Finished r) advanced goes =
    let rests = (advanced.finished r refl).0 in
    absurd cc
none_reported before after event.Idle advanced goes = refl
none_reported before after event.Moved advanced goes = refl
none_reported before after (event.Refused conn holder) advanced goes = refl
none_reported before after (event.Preferred other) advanced goes = refl

ended_reported : (before after : DeskView) (event : Event) → is_idle before.work ≡ false → MarkerHasAdvanced before after event
    → ended after ≡ reported_by event
ended_reported before after event busy advanced = by (is_idle after.work) refl where
  by : (idle : Bool) → is_idle after.work ≡ idle → (if idle then turned_of after else []) ≡ reported_by event
  by true rests =
      let told = advanced.ended busy rests in
      advance_ends before after told.0 (subst (MarkerHasAdvanced before after) told.1 advanced) ∙ sym (ap reported_by told.1)
  by false goes = sym (none_reported before after event advanced goes)

-- a desk that stays as it is has done nothing
still_worked : (before after : DeskView) → after ≡ before → MarkerHasWorked before after []
still_worked before after same = record {
  begins = begins_same before after same;
  mine_are = λ log is. ap mine same ∙ is ∙ ap (λ (d : DeskView). log ++ unreported d) (sym same);
}

pub advanced_worked : (before after : DeskView) (event : Event) → MarkerHasAdvanced before after event → MarkerHasWorked before after (reported_by event)
advanced_worked before after event advanced = by (is_idle before.work) refl where
  by : (idle : Bool) → is_idle before.work ≡ idle → MarkerHasWorked before after (reported_by event)
  by true idle =
      let none = advanced.idle idle in
      subst (MarkerHasWorked before after) (sym (ap reported_by none.1)) (still_worked before after none.0)
  by false busy = subst (MarkerHasWorked before after) (ended_reported before after event busy advanced) (stepped_worked before after event busy advanced)

run_grown : (count : ℕ) (before after : DeskView) → MarkerHasRun count before after → HasGrown before after
run_grown zero before after same = still_grown before after same
run_grown (suc count) before after (between, event, run, busy, asks, advanced) =
    both_grown before between after (run_grown count before between run) (advance_grown between after event advanced)

pub run_worked : (count : ℕ) (before after : DeskView) → is_idle before.work ≡ false → MarkerHasRun count before after
    → MarkerHasWorked before after (ended after)
run_worked count before after busy run = grown_worked before after busy (run_begins count before after run) (run_grown count before after run)

pub assigned_worked : (before : DeskView) (number : ℕ) (job : Job) → is_idle before.work ≡ true
    → MarkerHasWorked before (record before { work = Does number (begin_with (first_conn job) job) }) []
assigned_worked before number job idle = record {
  begins = ([], sym (append-nil before.seen));
  mine_are = λ log is.
      is
      ∙ ap (λ (rests : Bool). log ++ (if rests then [] else turned_of before)) idle
      ∙ ap (λ (l : List Record). log ++ l) (sym (none_left (is_idle (Does number (begin_with (first_conn job) job))) [] refl));
}

pub back_worked : (before after : DeskView) → given_by before.work ≡ given.Given → MarkerHasGivenBack before after → MarkerHasWorked before after []
back_worked before after gives back =
    let none = back_adds_none before after gives back in
    record {
      begins = steps_begin back.count (record before { work = restarted_work before.plan before.work }) after back.made;
      mine_are = λ log is.
          none.2
          ∙ is
          ∙ ap (λ (l : List Record). log ++ l) (none_left (is_idle before.work) (turned_of before) none.0)
          ∙ ap (λ (l : List Record). log ++ l) (sym (none_left (is_idle after.work) (turned_of after) none.1));
    }

-- a desk that has only seen more
seen_worked : (before after : DeskView) → after ≡ record before { seen = after.seen } → Begins before.seen after.seen → mine after ≡ mine before
    → MarkerHasWorked before after []
seen_worked before after same begins mine_are = record {
  begins = begins;
  mine_are = λ log is. mine_are ∙ is ∙ ap (λ (d : DeskView). log ++ unreported d) (sym same);
}

pub learned_worked : (before after : DeskView) (noted : List Record) → after ≡ record before { seen = after.seen } → MarkerHasLearned before noted after
    → MarkerHasWorked before after []
learned_worked before after noted same learned = seen_worked before after same learned.begins learned.mine_are

pub met_worked : (one other one_after other_after : DeskView) → one_after ≡ record one { seen = one_after.seen }
    → other_after ≡ record other { seen = other_after.seen } → MarkersHaveMet one other one_after other_after
    → MarkerHasWorked one one_after [] × MarkerHasWorked other other_after []
met_worked one other one_after other_after same other_same met =
    (seen_worked one one_after same met.one_begins met.one_mine, seen_worked other other_after other_same met.other_begins met.other_mine)

pub both_worked : (a b c : DeskView) (reported more : List Record) → MarkerHasWorked a b reported → MarkerHasWorked b c more
    → MarkerHasWorked a c (reported ++ more)
both_worked a b c reported more first second = record {
  begins = (
    first.begins.0 ++ second.begins.0,
    second.begins.1 ∙ ap (λ (l : List Record). l ++ second.begins.0) first.begins.1 ∙ append_assoc a.seen first.begins.0 second.begins.0,
  );
  mine_are = λ log is.
      let all = second.mine_are (log ++ reported) (first.mine_are log is ∙ sym (append_assoc log reported (unreported b))) in
      all
      ∙ append_assoc log reported (more ++ unreported c)
      ∙ ap (λ (l : List Record). log ++ l) (sym (append_assoc reported more (unreported c)));
}
