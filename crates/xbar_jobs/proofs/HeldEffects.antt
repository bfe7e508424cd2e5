-- what may be let go and taken with these connectors held, and that its effects are covered then
use Rattle.std.proofs.Common.{◌≡◌, ℕ, ◌+◌, ◌<◌, ◌≤◌, List, [], ◌∷◌, ◌++◌, length, map, inl, inr, refl, sym, subst, arith, length-append, Option, Some, None}
use Rattle.std.proofs.Common.{IfSome}
use Rattle.{std.{specs.Option.option_map_or, proofs.lemmas.Option.IfSome_then}, turns.{specs.{Among.IsIn, System.{AreUnder, IsUnder}}, proofs.Keeping.AreAmong}}
use Rattle.{turns.proofs.Lists.in_either, xbar_equip.specs.{Crosspoint.crosspoints, Len.{Line, IsLine}, Path.IsPath, Ten.{TrunkPlace, IsTrunkPlace}}}
use Rattle.xbar_equip.specs.declared.{conn.Conn.{Conn, TheVariants.{Llf, Tlf, Group}}, crosspoint.Crosspoint.Crosspoint, path.Path.Path}
use Rattle.{xbar_plan.specs.Tables.Tables, xbar_match.{specs.Effects.IsCrosspoint, proofs.PathEffects.{crosspoint_line, crosspoint_line_junctor}}}
use Rattle.xbar_match.proofs.PathEffects.{crosspoint_trunk_junctor, crosspoint_trunk, line_of, line_junctor_of, trunk_junctor_of, trunk_of}
use Rattle.xbar_office.specs.declared.{reply.End.End, trial.CallPaths.CallPaths}
use Rattle.xbar_jobs.specs.Closing.{called_closes, effect_word, effects, leave_effects, leaving, other_opens, path_closes, path_opens, refused, released}
use Rattle.xbar_jobs.specs.{Closing.take_effects, Keeping.{IsEffect, AreEffects, IsCovered}, Office.office, Standing.most_effects}
use Rattle.xbar_jobs.specs.declared.{decision.{Decision.Decision, Leave.Leave, Take.Take}, effect.Effect.{Effect, TheVariants.{Close, Open, SetBit, ClearBit}}}
use Rattle.xbar_jobs.proofs.HeldWords.{group_under, line_junctor_under, line_switch_under, trunk_junctor_under, trunk_switch_under}

-- a line, a trunk place, a path between the two, and a member of a group: they are in range, and their connectors are held
pub record IsHeldLine (held : List Conn) (line : Line) : Type 0 where
  pub range : IsLine line
  pub own : IsIn (Llf line.frame) held

pub record IsHeldPlace (held : List Conn) (place : TrunkPlace) : Type 0 where
  pub range : IsTrunkPlace place
  pub own : IsIn (Tlf place.frame) held

pub record IsHeldPath (held : List Conn) (path : Path) : Type 0 where
  pub line : IsHeldLine held path.line
  pub channel : path.channel < 10
  pub place : IsHeldPlace held path.place

pub record IsHeldMember (held : List Conn) (group index : ℕ) : Type 0 where
  pub own : IsIn (Group group) held
  pub numbers : (group < 16) × (index < 40)

abbrev pub IsHeldIfAny : List Conn → Option Path → Type 0
IsHeldIfAny held found = IfSome found (λ path. IsHeldPath held path)

-- the paths of a call, what is let go, and what is taken
pub record IsHeldCall (held : List Conn) (call : CallPaths) : Type 0 where
  pub calling : IsHeldPath held call.calling
  pub called : IsHeldIfAny held call.called

pub record IsHeldLeave (held : List Conn) (leave : Leave) : Type 0 where
  pub own : IsHeldPath held leave.own
  pub other : IsHeldIfAny held leave.other
  pub member : IsHeldMember held leave.group leave.index

pub record IsHeldTake (held : List Conn) (take : Take) : Type 0 where
  pub paths : IsHeldCall held take.paths
  pub member : IsHeldMember held take.group take.index

-- with more connectors held they are still held
module _ (held more : List Conn) (among : AreAmong held more) where
  pub line_held : (line : Line) → IsHeldLine held line → IsHeldLine more line
  line_held line own = record { range = own.range; own = among (Llf line.frame) own.own }

  pub place_held : (place : TrunkPlace) → IsHeldPlace held place → IsHeldPlace more place
  place_held place own = record { range = own.range; own = among (Tlf place.frame) own.own }

  pub path_held : (path : Path) → IsHeldPath held path → IsHeldPath more path
  path_held path own = record { line = line_held path.line own.line; channel = own.channel; place = place_held path.place own.place }

  pub member_held : (group index : ℕ) → IsHeldMember held group index → IsHeldMember more group index
  member_held group index own = record { own = among (Group group) own.own; numbers = own.numbers }

  pub leave_held : (leave : Leave) → IsHeldLeave held leave → IsHeldLeave more leave
  leave_held leave own = record {
    own = path_held leave.own own.own;
    other = IfSome_then leave.other own.other path_held;
    member = member_held leave.group leave.index own.member;
  }

-- effects of the office, on words that these connectors protect
record AreCovered (plan : Tables) (held : List Conn) (some : List Effect) : Type 0 where
  are : AreEffects some
  under : AreUnder (office plan) held some

module _ (plan : Tables) (held : List Conn) where
  none_covered : AreCovered plan held []
  none_covered = record { are = λ effect none. absurd none; under = λ effect none. absurd none }

  first_covered : (effect : Effect) (others : List Effect) → IsEffect effect → IsUnder (office plan) held (effect_word effect) → AreCovered plan held others
      → AreCovered plan held (effect ∷ others)
  first_covered first others is under covered = record { are = each; under = each_under } where
    each : AreEffects (first ∷ others)
    each effect (inl e) = subst IsEffect (sym e) is
    each effect (inr within) = covered.are effect within

    each_under : AreUnder (office plan) held (first ∷ others)
    each_under effect (inl e) = subst (λ (x : Effect). IsUnder (office plan) held (effect_word x)) (sym e) under
    each_under effect (inr within) = covered.under effect within

  both_covered : (some others : List Effect) → AreCovered plan held some → AreCovered plan held others → AreCovered plan held (some ++ others)
  both_covered some others first second = record {
    are = λ effect within. elim (in_either effect some others within) [ inl front ↦ first.are effect front | inr back ↦ second.are effect back ];
    under = λ effect within. elim (in_either effect some others within) [ inl front ↦ first.under effect front | inr back ↦ second.under effect back ];
  }

  -- effects at a path's four crosspoints are covered, if the path is held
  module _ (change : Crosspoint → Effect) (is : (c : Crosspoint) → IsCrosspoint c → IsEffect (change c))
      (at : (c : Crosspoint) → IsUnder (office plan) held c.word → IsUnder (office plan) held (effect_word (change c))) where
    path_covered : (path : Path) → IsHeldPath held path → AreCovered plan held (map change (crosspoints path))
    path_covered path own =
        let line = own.line in
        let place = own.place in
        let range : IsPath path = record { line = line.range; channel = own.channel; place = place.range } in
        first_covered _ _ (is _ (crosspoint_line path range))
        (at (line_of path) (line_switch_under plan held path.line.frame path.line.switch line.own line.range.frame line.range.switch))
        (first_covered _ _ (is _ (crosspoint_line_junctor path range))
        (at (line_junctor_of path) (line_junctor_under plan held path.line.frame path.channel line.own line.range.frame own.channel))
        (first_covered _ _ (is _ (crosspoint_trunk_junctor path range))
        (at (trunk_junctor_of path) (trunk_junctor_under plan held path.place.frame path.channel place.own place.range.frame own.channel))
        (first_covered _ _ (is _ (crosspoint_trunk path range))
        (at (trunk_of path) (trunk_switch_under plan held path.place.frame path.place.switch place.own place.range.frame place.range.switch))
        none_covered)))

  closes_covered : (path : Path) → IsHeldPath held path → AreCovered plan held (path_closes path)
  closes_covered = path_covered Close (λ c is. is) (λ c under. under)

  opens_covered : (path : Path) → IsHeldPath held path → AreCovered plan held (path_opens path)
  opens_covered = path_covered Open (λ c is. is) (λ c under. under)

  called_covered : (called : Option Path) → IsHeldIfAny held called → AreCovered plan held (called_closes called)
  called_covered None own = none_covered
  called_covered (Some path) own = closes_covered path own

  other_covered : (other : Option Path) → IsHeldIfAny held other → AreCovered plan held (other_opens other)
  other_covered None own = none_covered
  other_covered (Some path) own = opens_covered path own

  take_covered : (take : Take) → IsHeldTake held take → AreCovered plan held (take_effects take)
  take_covered take own =
      let member = own.member in
      both_covered _ _ (closes_covered take.paths.calling own.paths.calling)
      (both_covered _ _ (called_covered take.paths.called own.paths.called)
      (first_covered (SetBit take.group take.index) [] member.numbers (group_under plan held take.group member.own member.numbers.0) none_covered))

  leave_covered : (leave : Leave) → IsHeldLeave held leave → AreCovered plan held (leave_effects leave)
  leave_covered leave own =
      let member = own.member in
      both_covered _ _ (opens_covered leave.own own.own)
      (both_covered _ _ (other_covered leave.other own.other)
      (first_covered (ClearBit leave.group leave.index) [] member.numbers (group_under plan held leave.group member.own member.numbers.0) none_covered))

-- a path has four effects, another one four more, and a member one
take_few : (take : Take) → length (take_effects take) ≤ 9
take_few take = of take.paths.called where
  of : (called : Option Path) → length (path_closes take.paths.calling ++ called_closes called ++ SetBit take.group take.index ∷ []) ≤ 9
  of None = omega arith
  of (Some path) = omega arith

leave_few : (leave : Leave) → length (leave_effects leave) ≤ 9
leave_few leave = of leave.other where
  of : (other : Option Path) → length (path_opens leave.own ++ other_opens other ++ ClearBit leave.group leave.index ∷ []) ≤ 9
  of None = omega arith
  of (Some path) = omega arith

leave_alone_few : (leave : Leave) → leave.other ≡ None → length (leave_effects leave) ≤ 5
leave_alone_few leave alone = of leave.other alone where
  of : (other : Option Path) → other ≡ None → length (path_opens leave.own ++ other_opens other ++ ClearBit leave.group leave.index ∷ []) ≤ 5
  of None is = omega arith
  of (Some path) is = absurd cc

taken_few : (taken : Option Take) → length (option_map_or take_effects taken []) ≤ 9
taken_few None = omega arith
taken_few (Some take) = take_few take

none_left : (left : Option Leave) → left ≡ None → length (option_map_or leave_effects left []) ≤ 0
none_left None is = omega arith
none_left (Some leave) is = absurd cc

few_together : (most more : ℕ) (some others : List Effect) → length some ≤ most → length others ≤ more → most + more ≤ most_effects
    → length (some ++ others) ≤ most_effects
few_together most more some others few few_others fit = let sum = length-append some others in omega arith

-- a decision's effects are covered by what is held, and there is room for them
pub record IsWellCovered (plan : Tables) (held : List Conn) (decision : Decision) : Type 0 where
  pub covered : IsCovered plan held decision
  pub few : length (effects decision) ≤ most_effects

-- a decision that lets nothing go, and takes what is held if it takes anything
pub record IsTaking (held : List Conn) (decision : Decision) : Type 0 where
  pub stays : decision.leave ≡ None
  pub take : IfSome decision.take (λ take. IsHeldTake held take)

module _ (plan : Tables) (held : List Conn) where
  taken_covered : (taken : Option Take) → IfSome taken (λ take. IsHeldTake held take) → AreCovered plan held (option_map_or take_effects taken [])
  taken_covered None own = none_covered plan held
  taken_covered (Some take) own = take_covered plan held take own

  none_left_covered : (left : Option Leave) → left ≡ None → AreCovered plan held (option_map_or leave_effects left [])
  none_left_covered None is = none_covered plan held
  none_left_covered (Some leave) is = absurd cc

  well_covered : (decision : Decision) → AreCovered plan held (option_map_or leave_effects decision.leave [])
      → AreCovered plan held (option_map_or take_effects decision.take []) → length (effects decision) ≤ most_effects → IsWellCovered plan held decision
  well_covered decision left taken few = let all = both_covered plan held _ _ left taken in
      record { covered = record { effects = all.are; under = all.under }; few = few }

  -- what lets nothing go is well covered
  pub taking_covered : (decision : Decision) → IsTaking held decision → IsWellCovered plan held decision
  taking_covered decision taking =
      well_covered decision (none_left_covered decision.leave taking.stays) (taken_covered decision.take taking.take)
      (few_together 0 9 _ _ (none_left decision.leave taking.stays) (taken_few decision.take) (omega arith))

  -- and so is what lets go a member with one path first
  pub leaving_covered : (leave : Leave) (decision : Decision) → leave.other ≡ None → IsHeldLeave held leave → IsTaking held decision
      → IsWellCovered plan held (leaving leave decision)
  leaving_covered leave decision alone own taking =
      well_covered (leaving leave decision) (leave_covered plan held leave own) (taken_covered decision.take taking.take)
      (few_together 5 9 (leave_effects leave) _ (leave_alone_few leave alone) (taken_few decision.take) (omega arith))

  -- and what lets a call go
  pub released_covered : (leave : Leave) → IsHeldLeave held leave → IsWellCovered plan held (released leave)
  released_covered leave own =
      well_covered (released leave) (leave_covered plan held leave own) (none_covered plan held)
      (few_together 9 0 (leave_effects leave) [] (leave_few leave) (omega arith) (omega arith))

-- a refusal takes nothing
pub refused_takes : (held : List Conn) (end : End) → IsTaking held (refused end)
refused_takes held end = record { stays = refl; take = tt }
