-- once its own path was traced, a completing job tests line junctor switches in their rows alone
use Rattle.std.proofs.Common.{◌≡◌, ℕ, suc, Bool, true, false, List, [], ◌∷◌, refl, sym, ◌∙◌, arith, Option, Some, None, Err, IfSome, is_some, slice_get}
use Rattle.turns.{specs.{Script.{Ends, TestThen, SeizeThen, ◌>>=◌, read_with, value_read}, declared.wanted.Wanted.TheVariants.Test}, proofs.Room.read_before}
use Rattle.{turns.proofs.Walks.walk_goes_on, attempts.{specs.Points.{Extends, GoesOnTo, seen_with}, proofs.Points.gone_through}, xbar_equip.specs.Conn.conn_eq}
use Rattle.xbar_equip.{specs.{Dialled.{code_of, number_of}, Len.{Line, IsLine, line_eq}, declared.path.Path.Path}, proofs.PathTests.conn_eq-itself}
use Rattle.xbar_plan.{specs.{Lawful.IsLawful, Tables.{Tables, lines_of, route_of}, declared.group.MemberPlace.MemberPlace}, proofs.LawfulLookups.lines_of-range}
use Rattle.xbar_office.specs.{Legal.IsJob, Trunks.leads_inside, declared.{aim.Aim.TheVariants.Connected, job.Job.{Job, TheVariants.{Dial, Complete, Release}}}}
use Rattle.xbar_jobs.specs.{Closing.{leave_effects, leave_of, value_after}, Completing.{call, call_by, call_from, call_line, call_number, call_without}}
use Rattle.xbar_jobs.specs.{Completing.{complete_from, complete_steps, hunt, register_at, unless_busy, unless_calling}, Connecting.alone}
use Rattle.xbar_jobs.specs.{Jobs.{TestsRows, job_line, script}, Script.{Script, Seen, as_if_made, walk}, Sides.{IsNextJunctor, party_after}}
use Rattle.xbar_jobs.specs.{Tracing.{HasTraced, ResumePointIsValid, approach, channel_of, trace}, declared.decision.{Decision.Decision, Leave.Leave}}
use Rattle.xbar_jobs.specs.declared.{party.Party.Party, walk.WalkProgress.{WalkProgress, TheVariants.{Begun, Approached, Traced}}}
use Rattle.xbar_jobs.proofs.{Items.if_found, JunctorRows.{BeginsWith, KeepsRows, connect_rows, dial_rows, row_goes_on, rows_bind}}

begins_read_with : {A : Type 0} (number : ℕ) (change : ℕ → ℕ → ℕ) (script : Script A) → BeginsWith number script → BeginsWith number (read_with change script)
unfolding read_with
begins_read_with number change (Ends found) begins = absurd begins
begins_read_with number change (TestThen word script) begins = begins
begins_read_with number change (SeizeThen conn script) begins = absurd begins

-- also as effects will leave the words
rows_read_with : {A : Type 0} (change : ℕ → ℕ → ℕ) (script : Script A) → KeepsRows script → KeepsRows (read_with change script)
unfolding KeepsRows read_with
rows_read_with change (Ends found) rows = tt
rows_read_with change (TestThen word script) rows = (
  λ next is value. begins_read_with next change (script (change word value)) (rows.0 next is (change word value)),
  λ value. rows_read_with change (script (change word value)) (rows.1 (change word value)),
)
rows_read_with change (SeizeThen conn script) rows = rows_read_with change script rows

-- no row begins with a line switch
approach_rows : (line : Line) → IsLine line → KeepsRows (approach line)
unfolding KeepsRows approach ◌>>=◌
approach_rows line range = (λ next is value. absurd (omega (arith, is.this, is.channel_range, range.switch)), λ word. tt)

busy_rows : (party : Party) (next : Script (Option Party)) (channel : Option ℕ) → KeepsRows next → KeepsRows (unless_busy party next channel)
unfolding KeepsRows unless_busy
busy_rows party next None rows = tt
busy_rows party next (Some channel) rows = rows

calling_rows : (line : Line) (next : Script (Option Party)) (same : Bool) → IsLine line → KeepsRows next → KeepsRows (unless_calling line next same)
unfolding unless_calling
calling_rows line next true range rows = rows
calling_rows line next false range rows = rows_bind (approach line) _ (approach_rows line range) (λ party. busy_rows party next (channel_of party) rows)

-- each of some lines is there
abbrev AreLines : List Line → Type 0
AreLines lines = (k : ℕ) (line : Line) → slice_get lines k ≡ Some line → IsLine line

hunt_rows : (calling : Line) (lines : List Line) → AreLines lines → KeepsRows (hunt calling lines)
unfolding KeepsRows hunt
hunt_rows calling [] ranges = tt
hunt_rows calling (line ∷ lines) ranges =
    calling_rows line (hunt calling lines) (line_eq line calling) (ranges 0 line refl) (hunt_rows calling lines (λ k other is. ranges (suc k) other is))

-- what was traced stays traced as more is read and seized
still_traced : (line : Line) (calling : Party) (own : Option Path) (seen more : Seen) → Extends conn_eq seen more → HasTraced line calling own seen
    → HasTraced line calling own more
still_traced line calling own seen more extends has = record {
  approached = gone_through conn_eq seen more (approach line) calling extends has.approached;
  traced = gone_through conn_eq seen more (trace calling) own extends has.traced;
}

pub known_on : (line : Line) (point : WalkProgress) (seen more : Seen) → Extends conn_eq seen more → ResumePointIsValid line point seen
    → ResumePointIsValid line point more
known_on line Begun seen more extends valid_point = tt
known_on line (Approached calling) seen more extends valid_point = gone_through conn_eq seen more (approach line) calling extends valid_point
known_on line (Traced calling own) seen more extends valid_point = still_traced line calling own seen more extends valid_point

-- what is left of a completing job, once its own path was traced
pub from_path : (plan : Tables) (line : Line) (dialled : ℕ) (calling : Party) (own : Option Path) (seen : Seen) → HasTraced line calling own seen
    → walk seen (complete_steps plan line dialled) ≡ walk seen (complete_from plan calling dialled own)
unfolding complete_steps
from_path plan line dialled calling own seen has =
    walk_goes_on conn_eq seen (approach line) _ calling has.approached ∙ walk_goes_on conn_eq seen (trace calling) _ own has.traced

module _ (plan : Tables) (laws : IsLawful plan) where
  call_line_rows : (calling : Party) (groups : List ℕ) (called : Option Party) → KeepsRows (call_line plan calling groups called)
  unfolding KeepsRows call_line
  call_line_rows calling groups None = tt
  call_line_rows calling groups (Some called) = connect_rows plan Connected (record { calling = calling; called = Some called }) groups

  call_number_rows : (calling : Party) (groups : List ℕ) (lines : Option (List Line)) → IfSome lines (λ lines. AreLines lines)
      → KeepsRows (call_number plan calling groups lines)
  unfolding KeepsRows call_number
  call_number_rows calling groups None ranges = tt
  call_number_rows calling groups (Some lines) ranges =
      rows_bind (hunt calling.line lines) _ (hunt_rows calling.line lines ranges) (λ called. call_line_rows calling groups called)

  call_by_rows : (calling : Party) (dialled : ℕ) (groups : List ℕ) (inside : Bool) → KeepsRows (call_by plan calling dialled groups inside)
  unfolding call_by
  call_by_rows calling dialled groups true =
      let lines = lines_of plan (number_of dialled) in
      call_number_rows calling groups lines (if_found lines (λ found is. lines_of-range plan laws (number_of dialled) found is))
  call_by_rows calling dialled groups false = connect_rows plan Connected (alone calling) groups

  call_rows : (calling : Party) (dialled : ℕ) (groups : Option (List ℕ)) → KeepsRows (call plan calling dialled groups)
  unfolding KeepsRows call
  call_rows calling dialled None = tt
  call_rows calling dialled (Some groups) = call_by_rows calling dialled groups (leads_inside plan groups)

  without_rows : (calling : Party) (dialled : ℕ) (leave : Leave) → KeepsRows (call_without plan calling dialled leave)
  unfolding KeepsRows call_without ◌>>=◌
  without_rows calling dialled leave =
      let after : Script Decision = call plan (party_after (leave_effects leave) calling) dialled (route_of plan (code_of dialled)) in
      rows_bind (as_if_made (leave_effects leave) after) _
      (rows_read_with (value_after (leave_effects leave)) after
      (call_rows (party_after (leave_effects leave) calling) dialled (route_of plan (code_of dialled)))) (λ decision. tt)

  from_rows : (calling : Party) (dialled : ℕ) (own : Path) (found : Option MemberPlace) → KeepsRows (call_from plan calling dialled own found)
  unfolding KeepsRows call_from
  from_rows calling dialled own None = tt
  from_rows calling dialled own (Some found) = without_rows calling dialled (leave_of own None found)

  complete_from_rows : (calling : Party) (dialled : ℕ) (own : Option Path) → KeepsRows (complete_from plan calling dialled own)
  unfolding KeepsRows complete_from
  complete_from_rows calling dialled None = tt
  complete_from_rows calling dialled (Some own) = from_rows calling dialled own (register_at plan own)

  traced_goes_on : (seen : Seen) (line : Line) (dialled word next : ℕ) (calling : Party) (own : Option Path) → IsNextJunctor word next
      → value_read seen.readings next ≡ None → HasTraced line calling own seen → walk seen (complete_steps plan line dialled) ≡ Err (Test word)
      → GoesOnTo conn_eq seen (complete_steps plan line dialled) word next
  traced_goes_on seen line dialled word next calling own is unread has wants = λ value.
      let more : Seen = seen_with seen word value in
      let extends : Extends conn_eq seen more =
      record { held = λ c e. e; readings = λ w v e. read_before conn_eq conn_eq-itself seen.readings (record { word = word; value = value }) w v e } in
      from_path plan line dialled calling own more (still_traced line calling own seen more extends has)
      ∙ row_goes_on seen word next (complete_from plan calling dialled own) (complete_from_rows calling dialled own) is unread
      (sym (from_path plan line dialled calling own seen has) ∙ wants) value

pub not_some : (o : Option ℕ) → is_some o ≡ false → o ≡ None
not_some None e = refl
not_some (Some n) e = absurd cc

-- a job that tests its rows in order goes on in a row, whatever a line junctor switch shows
goes_in_row : (plan : Tables) (laws : IsLawful plan) (seen : Seen) (job : Job) (point : WalkProgress) (word next : ℕ) → IsJob job → TestsRows job point
    → ResumePointIsValid (job_line job) point seen → IsNextJunctor word next → value_read seen.readings next ≡ None
    → walk seen (script plan job) ≡ Err (Test word) → GoesOnTo conn_eq seen (script plan job) word next
unfolding script
goes_in_row plan laws seen (Dial line) point word next range rows valid_point is unread wants =
    row_goes_on seen word next _ (dial_rows plan line range) is unread wants
goes_in_row plan laws seen (Complete line dialled) Begun word next range rows valid_point is unread wants = absurd rows
goes_in_row plan laws seen (Complete line dialled) (Approached calling) word next range rows valid_point is unread wants = absurd rows
goes_in_row plan laws seen (Complete line dialled) (Traced calling own) word next range rows valid_point is unread wants =
    traced_goes_on plan laws seen line dialled word next calling own is unread valid_point wants
goes_in_row plan laws seen (Release line) point word next range rows valid_point is unread wants = absurd rows

-- the job goes on to the word that was found, if one was
pub row_found : (plan : Tables) (laws : IsLawful plan) (seen : Seen) (job : Job) (point : WalkProgress) (word : ℕ) (found : Option ℕ) → IsJob job
    → TestsRows job point → ResumePointIsValid (job_line job) point seen → walk seen (script plan job) ≡ Err (Test word)
    → IfSome found (λ next. IsNextJunctor word next) → IfSome found (λ next. value_read seen.readings next ≡ None)
    → IfSome found (GoesOnTo conn_eq seen (script plan job) word)
row_found plan laws seen job point word None range rows valid_point wants is unread = tt
row_found plan laws seen job point word (Some next) range rows valid_point wants is unread =
    goes_in_row plan laws seen job point word next range rows valid_point is unread wants
