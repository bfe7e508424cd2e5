-- connecting parties by a group's member tests what is held by then, and takes what is held
use Rattle.std.proofs.Common.{ℕ, suc, ◌<◌, List, [], ◌∷◌, ◌++◌, refl, arith, Option, Some, None, IfSome, option_map}
use Rattle.{turns.{specs.{Among.IsIn, Script.◌>>=◌, System.KeepsTo}, proofs.Lists.in_last}, xbar_equip.specs.declared.conn.Conn.{Conn, TheVariants.Group}}
use Rattle.xbar_plan.{specs.{Lawful.IsLawful, Tables.{Tables, AreGroups}}, proofs.LawfulPlans.group_count-range}
use Rattle.{xbar_office.specs.declared.{aim.Aim.Aim, trial.{Choice.Choice, Trials.Trials}}, xbar_jobs.specs.Closing.{take_of, tried}}
use Rattle.xbar_jobs.specs.{Connecting.{busy_end, connect, try_trunk}, Office.office, Script.Script, Trunks.{find_trunk, first_clear, idle_or, trunks_of}}
use Rattle.xbar_jobs.{specs.declared.{party.CallParties.CallParties, trunks.IdleGroup.IdleGroup}, proofs.HeldEffects.{IsHeldTake, IsTaking, refused_takes}}
use Rattle.xbar_jobs.proofs.{HeldWords.{group_under, keeps_then}, TrialKeeps.{AreHeldParties, HoldsTrials, IsHeldChoice, parties_held, two_trials_keep}}

-- a group that was found is there, and its connector is held
record IsHeldGroup (held : List Conn) (idle : IdleGroup) : Type 0 where
  range : idle.group < 16
  own : IsIn (Group idle.group) held

abbrev HoldsGroup : List Conn → Option IdleGroup → Type 0
HoldsGroup held found = IfSome found (λ idle. IsHeldGroup held idle)

-- what trials on a group chose may be taken with it held
tried_takes : (held : List Conn) (aim : Aim) (number : ℕ) (trials : Trials) → number < 16 → IsIn (Group number) held → HoldsTrials held trials
    → IsTaking held (tried aim number trials)
tried_takes held aim number trials below own chosen = record { stays = refl; take = of trials.choice chosen } where
  of : (choice : Option Choice) → IfSome choice (λ choice. IsHeldChoice held choice)
      → IfSome (option_map (take_of number) choice) (λ take. IsHeldTake held take)
  of None none = tt
  of (Some choice) good = record { paths = good.paths; member = record { own = own; numbers = (below, good.index) } }

module _ (plan : Tables) (laws : IsLawful plan) where
  idle_keeps : (held : List Conn) (group word : ℕ) (next : Script (Option IdleGroup)) (found : Option ℕ) → group < 16 → IsIn (Group group) held
      → KeepsTo (office plan) HoldsGroup held next → KeepsTo (office plan) HoldsGroup held (idle_or group word next found)
  unfolding KeepsTo idle_or
  idle_keeps held group word next None below own keeps = keeps
  idle_keeps held group word next (Some first) below own keeps = record { range = below; own = own }

  -- a group's word is tested with the group held, and the group found is held
  find_keeps : (held : List Conn) (groups : List ℕ) → AreGroups plan groups → KeepsTo (office plan) HoldsGroup held (find_trunk plan groups)
  unfolding KeepsTo find_trunk ◌>>=◌
  find_keeps held [] there = tt
  find_keeps held (group ∷ groups) there =
      let here = there 0 group refl in
      let count = group_count-range plan laws in
      let below : group < 16 = omega (arith, here, count.1) in
      let more : List Conn = held ++ Group group ∷ [] in
      let own : IsIn (Group group) more = in_last (Group group) held in (
        below,
        (
          group_under plan more group own below,
          λ word fits. idle_keeps more group word (find_trunk plan groups) (first_clear (trunks_of plan group word)) below own
              (find_keeps more groups (λ k number is. there (suc k) number is)),
        ),
      )

  try_keeps : (held : List Conn) (aim : Aim) (parties : CallParties) (idle : Option IdleGroup) → AreHeldParties held parties → HoldsGroup held idle
      → KeepsTo (office plan) IsTaking held (try_trunk plan aim parties idle)
  unfolding KeepsTo try_trunk
  try_keeps held aim parties None lines own = refused_takes held (busy_end aim)
  try_keeps held aim parties (Some idle) lines own =
      keeps_then plan HoldsTrials IsTaking held _ _ (two_trials_keep plan laws idle.group held parties idle.word idle.first lines)
      (λ conns trials among chosen. tried_takes conns aim idle.group trials own.range (among (Group idle.group) own.own) chosen)

  -- with the parties' lines held, they may be connected by groups that are there
  pub connect_keeps : (held : List Conn) (aim : Aim) (parties : CallParties) (groups : List ℕ) → AreHeldParties held parties → AreGroups plan groups
      → KeepsTo (office plan) IsTaking held (connect plan aim parties groups)
  unfolding connect
  connect_keeps held aim parties groups lines there =
      keeps_then plan HoldsGroup IsTaking held (find_trunk plan groups) _ (find_keeps held groups there)
      (λ conns idle among own. try_keeps conns aim parties idle (parties_held held conns parties among lines) own)
