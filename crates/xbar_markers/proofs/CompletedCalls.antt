-- What a desk has completed once it did one job more for a call, or two.
use Rattle.std.proofs.Common.{◌≡◌, ◌∙◌, ℕ, ◌+◌, ◌*◌, ◌<◌, ◌^◌, List, [], Some, None, true, append-nil, length, length-append, sym, refl, ap, arith}
use Rattle.{std.proofs.lemmas.List.Elements.{All-head, All-nil}, desks.specs.Parts.Begins}
use Rattle.xbar_office.specs.declared.{job.Job.{Job, TheVariants.{Complete, Release}}, reply.Record.Record}
use Rattle.xbar_moves.specs.{Exchange.is_idle, Kinds.takes, declared.kinds.Kind.{Kind, TheVariants.Completing}}
use Rattle.{xbar_fabric.specs.{Meetings.MarkerHasLearned, Views.{DeskView, FabricView, mine}}, xbar_markers.specs.Calls.{HasDialTone, is_connected}}
use Rattle.xbar_markers.specs.{Notes.IsNoted, Shares.HasCompleted, Work.{HasDone, IsReady, WorkerHasWorked}, declared.call_records.CallRecords.CallRecords}
use Rattle.xbar_markers.proofs.Works.{IsShort, done_worked, short_begins, worked_on}

-- a desk that has learned a note is ready still
pub ready_learned : (before learned : DeskView) (fabric : FabricView)
    → learned ≡ record before { seen = learned.seen } → IsReady before fabric
    → IsReady learned fabric
ready_learned before learned fabric same ready = record {
  desk_of = record {
    table_is = ap (λ (d : DeskView). d.table) same ∙ ready.desk_of.table_is;
    plan_is = ap (λ (d : DeskView). d.plan) same ∙ ready.desk_of.plan_is;
  };
  idle = ap (λ (d : DeskView). is_idle d.work) same ∙ ready.idle;
}

-- and it has done no work by that
learned_worked : (before learned : DeskView) (noted : List Record) → is_idle before.work ≡ true
    → learned ≡ record before { seen = learned.seen } → MarkerHasLearned before noted learned
    → WorkerHasWorked before learned []
learned_worked before learned noted idle same has =
    let work : learned.work ≡ before.work = ap (λ (d : DeskView). d.work) same in
    record {
      same = same ∙ (λ i. record before { work = sym work i; seen = learned.seen });
      idle = ap is_idle work ∙ idle;
      seen = has.begins;
      mine_are = has.mine_are ∙ sym (append-nil (mine before));
      taken = All-nil (λ r. takes before.kind r.job ≡ true);
    }

-- a job comes after one that is noted, if its desk has learned the note before
comes_later : (learned after : DeskView) (noted : List Record) (number : ℕ) (job : Job)
    (dial r : Record) → Begins noted learned.seen → IsNoted noted dial
    → HasDone learned after number job r → length after.seen < 2 ^ 64 → dial.turn < r.turn
comes_later learned after noted number job dial r begins is_noted done short =
    let earlier = short_begins learned after done.seen short in
    let long : length learned.seen ≡ length noted + length begins.0 =
    ap (λ (l : List Record). length l) begins.1 ∙ length-append noted begins.0 in
    let first = is_noted (omega (arith, earlier, long)) in
    let own = done.turn short in
    omega (arith, first, own.0, long)

-- a call is completed, and is not to be released
pub completed_alone : (before learned after : DeskView) (c : CallRecords) (complete : Record)
    (noted : List Record) → is_idle before.work ≡ true
    → learned ≡ record before { seen = learned.seen } → MarkerHasLearned before noted learned
    → IsNoted noted c.dial → before.kind ≡ Completing → HasDialTone c
    → HasDone learned after (3 * c.call.call_no + 1) (Complete c.call.line c.call.digits) complete
    → ¬ ((c.call.release ≡ true) × (is_connected complete.reply.end ≡ true))
    → HasCompleted before after c
    record { call = c.call; dial = c.dial; complete = Some complete; release = None }
completed_alone before learned after c complete noted idle same has is_noted kind tone done not = record {
  call_is = refl;
  dial_is = refl;
  served_all = record {
    dialled = tone.dialled.dialled;
    completed = (
      tone.tone,
      record { number = done.number_is; job_is = done.job_is },
      λ short.
          comes_later learned after noted _ _ c.dial complete has.note_begins is_noted done
          (All-head IsShort after [] short),
    );
    released = not;
  };
  worked = worked_on (learned_worked before learned noted idle same has)
      (done_worked done
      (ap (λ (k : Kind). takes k (Complete c.call.line c.call.digits))
      (ap (λ (d : DeskView). d.kind) same ∙ kind)));
}

-- a call is completed, and then released
pub completed_released : (before learned between after : DeskView) (c : CallRecords)
    (complete release : Record) (noted : List Record) → is_idle before.work ≡ true
    → learned ≡ record before { seen = learned.seen } → MarkerHasLearned before noted learned
    → IsNoted noted c.dial → before.kind ≡ Completing → HasDialTone c
    → HasDone learned between (3 * c.call.call_no + 1) (Complete c.call.line c.call.digits) complete
    → HasDone between after (3 * c.call.call_no + 2) (Release c.call.line) release
    → c.call.release ≡ true → is_connected complete.reply.end ≡ true
    → HasCompleted before after c
    record { call = c.call; dial = c.dial; complete = Some complete; release = Some release }
completed_released before learned between after c complete release noted idle same has is_noted kind tone first second asked connected =
    let its_kind : learned.kind ≡ Completing = ap (λ (d : DeskView). d.kind) same ∙ kind in
    let same_kind : between.kind ≡ Completing = ap (λ (d : DeskView). d.kind) first.same ∙ its_kind in
    let same_marker : between.marker ≡ learned.marker = ap (λ (d : DeskView). d.marker) first.same in
    record {
      call_is = refl;
      dial_is = refl;
      served_all = record {
        dialled = tone.dialled.dialled;
        completed = (
          tone.tone,
          record { number = first.number_is; job_is = first.job_is },
          λ short.
              comes_later learned between noted _ _ c.dial complete has.note_begins is_noted first
              (short_begins between after second.seen (All-head IsShort after [] short)),
        );
        released = (
          (asked, connected),
          record { number = second.number_is; job_is = second.job_is },
          record {
            marker = second.marker ∙ (same_marker ∙ sym first.marker);
            later = λ short.
                let last = All-head IsShort after [] short in
                let earlier = short_begins between after second.seen last in
                let one = first.turn earlier in
                let two = second.turn last in
                omega (arith, one.1, two.0);
          },
        );
      };
      worked = worked_on
          (worked_on (learned_worked before learned noted idle same has)
          (done_worked first (ap (λ (k : Kind). takes k (Complete c.call.line c.call.digits)) its_kind)))
          (done_worked second (ap (λ (k : Kind). takes k (Release c.call.line)) same_kind));
    }
