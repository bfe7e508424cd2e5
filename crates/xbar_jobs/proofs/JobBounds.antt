-- how much each job asks for at most
use Rattle.std.proofs.Common.{ℕ, ◌≤◌, List, [], ◌∷◌, ◌++◌, length, arith, Option, Some, None}
use Rattle.turns.specs.{Bounds.{AreBounded, AllEndsHave}, Script.{Ends, TestThen, SeizeThen, ◌>>=◌}, System.KeepsTo}
use Rattle.xbar_equip.specs.{Len.Line, Ten.TrunkPlace, declared.{conn.Conn.Conn, path.Path.Path}}
use Rattle.xbar_plan.specs.{Lawful.IsLawful, Tables.{Tables, member_place, register_group}, declared.group.MemberPlace.MemberPlace}
use Rattle.xbar_office.specs.declared.{aim.Aim.TheVariants.DialTone, job.Job.{Job, TheVariants.{Dial, Complete, Release}}}
use Rattle.xbar_jobs.specs.{Closing.effects, Connecting.alone, Jobs.{dial_steps, script, serve_idle_line}, Office.office, Others.SeizesOthers}
use Rattle.xbar_jobs.specs.{Releasing.{release_from, release_member, release_steps, trace_other}, Script.Script, Standing.{most_effects, most_others}}
use Rattle.xbar_jobs.specs.{Standing.{most_seizings, most_readings}, Tracing.{approach, channel_of, trace}, declared.party.Party.Party}
use Rattle.xbar_jobs.proofs.{AskBounds.{Asks, asks_at_most, asks_end, asks_more, asks_then, seizes_others}, JobKeeps.job_keeps, HeldEffects.IsWellCovered}
use Rattle.xbar_jobs.proofs.{TrialBounds.connect_asks, CompleteBounds.complete_asks, TracingBounds.{approach_asks, trace_asks, trace_back_asks}}

module _ (plan : Tables) where
  serve_asks : (calling : Party) (channel : Option ℕ) → Asks 25 3 3 (serve_idle_line plan calling channel)
  unfolding Asks serve_idle_line
  serve_asks calling (Some channel) = tt
  serve_asks calling None = connect_asks plan DialTone (alone calling) (register_group plan ∷ []) 1 (omega arith)

  -- a dial tone job has 26 tests and four seizings, three of them besides line link frames
  dial_asks : (line : Line) → Asks 26 4 3 (dial_steps plan line)
  unfolding dial_steps
  dial_asks line = asks_then 1 1 0 25 3 3 (approach line) _ (approach_asks line) (λ calling. serve_asks calling (channel_of calling))

  trace_other_asks : (other : Option TrunkPlace) → Asks 4 1 0 (trace_other other)
  unfolding Asks trace_other
  trace_other_asks None = tt
  trace_other_asks (Some place) = trace_back_asks place

  release_member_asks : (own : Path) (found : Option MemberPlace) → Asks 4 2 1 (release_member own found)
  unfolding Asks release_member ◌>>=◌
  release_member_asks own None = tt
  release_member_asks own (Some found) = (omega arith, asks_end 4 1 0 (trace_other found.other) _ (trace_other_asks found.other) (λ other. tt))

  release_from_asks : (own : Option Path) → Asks 4 2 1 (release_from plan own)
  unfolding Asks release_from
  release_from_asks None = tt
  release_from_asks (Some own) = release_member_asks own (member_place plan own.place)

  -- a release has eight tests and four seizings, two of them besides line link frames
  release_asks : (line : Line) → Asks 8 4 2 (release_steps plan line)
  unfolding release_steps
  release_asks line =
      asks_then 1 1 0 7 3 2 (approach line) _ (approach_asks line)
      (λ party. asks_then 3 1 1 4 2 1 (trace party) _ (trace_asks party) (λ own. release_from_asks own))

-- no job's script has more than 42 tests and 19 seizings, eight of them besides line link frames
script_asks : (plan : Tables) (job : Job) → IsLawful plan → Asks most_readings most_seizings most_others (script plan job)
unfolding script
script_asks plan (Dial line) laws = asks_more 26 4 3 42 19 8 (dial_steps plan line) (omega arith) (omega arith) (omega arith) (dial_asks plan line)
script_asks plan (Complete line dialled) laws = complete_asks plan laws line dialled
script_asks plan (Release line) laws = asks_more 8 4 2 42 19 8 (release_steps plan line) (omega arith) (omega arith) (omega arith) (release_asks plan line)

pub job_seizes : (plan : Tables) (job : Job) → IsLawful plan → SeizesOthers most_others (script plan job)
job_seizes plan job laws = seizes_others most_readings most_seizings most_others (script plan job) (script_asks plan job laws)

-- what fits wherever a script ends holds of its ends
pub ends_as_kept : (plan : Tables) {A : Type 0} (Fits : List Conn → A → Type 0) (Has : A → Type 0) (held : List Conn) (script : Script A)
    → ((conns : List Conn) (found : A) → Fits conns found → Has found) → KeepsTo (office plan) Fits held script → AllEndsHave Has script
unfolding AllEndsHave KeepsTo
ends_as_kept plan Fits Has held (Ends found) has keeps = has held found keeps
ends_as_kept plan Fits Has held (TestThen word script) has keeps = λ value fits. ends_as_kept plan Fits Has held (script value) has (keeps.1 value fits)
ends_as_kept plan Fits Has held (SeizeThen conn script) has keeps = ends_as_kept plan Fits Has (held ++ conn ∷ []) script has keeps.1

-- a job tests and seizes no more than there is room for, and has no more effects
pub jobs_bounded : (plan : Tables) → IsLawful plan → AreBounded (office plan) most_readings most_seizings most_effects
jobs_bounded plan laws = record {
  asks = λ job in_range. asks_at_most most_readings most_seizings most_others (script plan job) (script_asks plan job laws);
  effects =
      λ job in_range. ends_as_kept plan (IsWellCovered plan) (λ decision. length (effects decision) ≤ most_effects) [] (script plan job)
      (λ held decision good. good.few) (job_keeps plan laws job in_range);
}
