-- each job's script tests only what is held by then, and what it decides is covered
use Rattle.std.proofs.Common.{◌≡◌, ℕ, zero, suc, List, [], ◌∷◌, arith, Option, Some, None}
use Rattle.{std.proofs.lemmas.Option.slice_get_within, turns.{specs.System.KeepsTo, proofs.Keeping.keeps_map}}
use Rattle.{xbar_equip.specs.{Len.{Line, IsLine}, declared.conn.Conn.Conn}, xbar_plan.specs.{Lawful.IsLawful, Tables.{Tables, register_group, AreGroups}}}
use Rattle.{xbar_plan.proofs.LawfulLookups.register_group-is, xbar_office.specs.{Legal.IsJob, declared.{aim.Aim.TheVariants.DialTone, job.Job.Job}}}
use Rattle.xbar_office.specs.declared.{job.Job.TheVariants.{Dial, Complete, Release}, reply.End.TheVariants.LineBusy}
use Rattle.xbar_jobs.specs.{Connecting.alone, Jobs.{dial_steps, script, serve_idle_line}, Keeping.IsCovered, Office.office, Tracing.{approach, channel_of}}
use Rattle.xbar_jobs.specs.declared.party.Party.{Party}
use Rattle.xbar_jobs.proofs.{CompleteKeeps.complete_keeps, ConnectKeeps.connect_keeps, HeldEffects.{IsTaking, IsWellCovered, refused_takes, taking_covered}}
use Rattle.xbar_jobs.proofs.{HeldWords.keeps_then, ReleaseKeeps.release_keeps, TracingKeeps.{HoldsLine, approach_keeps}}

module _ (plan : Tables) (laws : IsLawful plan) where
  register_group_there : AreGroups plan (register_group plan ∷ [])
  register_group_there zero number is =
      let group = register_group-is plan laws in
      let same : register_group plan ≡ number = cc in
      let within = slice_get_within plan.groups (register_group plan) group.0 group.1 in
      omega (arith, within, same)
  register_group_there (suc k) number is = absurd cc

  serve_keeps : (held : List Conn) (calling : Party) (channel : Option ℕ) → HoldsLine held calling
      → KeepsTo (office plan) IsTaking held (serve_idle_line plan calling channel)
  unfolding KeepsTo serve_idle_line
  serve_keeps held calling (Some channel) own = refused_takes held LineBusy
  serve_keeps held calling None own =
      connect_keeps plan laws held DialTone (alone calling) (register_group plan ∷ []) (record { calling = own; called = tt }) register_group_there

  dial_takes : (line : Line) → IsLine line → KeepsTo (office plan) IsTaking [] (dial_steps plan line)
  unfolding dial_steps
  dial_takes line range =
      keeps_then plan HoldsLine IsTaking [] (approach line) _ (approach_keeps plan [] line range)
      (λ held calling among own. serve_keeps held calling (channel_of calling) own)

  -- a dial tone job's script tests what is protected, and what it decides is covered
  pub dial_keeps : (line : Line) → IsLine line → KeepsTo (office plan) (IsWellCovered plan) [] (dial_steps plan line)
  dial_keeps line range =
      keeps_map (office plan) IsTaking (IsWellCovered plan) [] (dial_steps plan line) (λ held decision taking. taking_covered plan held decision taking)
      (dial_takes line range)

  -- and so does each job's script, with no more effects than there is room for
  pub job_keeps : (job : Job) → IsJob job → KeepsTo (office plan) (IsWellCovered plan) [] (script plan job)
  unfolding script
  job_keeps (Dial line) range = dial_keeps line range
  job_keeps (Complete line dialled) range = complete_keeps plan laws line dialled range.0
  job_keeps (Release line) range = release_keeps plan laws line range

pub script_keeps : (plan : Tables) (job : Job) → IsLawful plan → IsJob job → KeepsTo (office plan) (IsCovered plan) [] (script plan job)
script_keeps plan job laws range =
    keeps_map (office plan) (IsWellCovered plan) (IsCovered plan) [] (script plan job) (λ held decision good. good.covered) (job_keeps plan laws job range)
