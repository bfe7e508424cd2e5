-- the effects on paths and members that are in range are effects of the office
use Rattle.std.proofs.Common.{◌<◌, List, [], ◌∷◌, ◌++◌, map, inl, inr, sym, subst, Option, Some, None, IfSome}
use Rattle.{turns.proofs.Lists.in_either, xbar_equip.specs.{Crosspoint.crosspoints, Path.IsPath, declared.{crosspoint.Crosspoint.Crosspoint, path.Path.Path}}}
use Rattle.xbar_match.{specs.Effects.IsCrosspoint, proofs.PathEffects.{crosspoint_line, crosspoint_line_junctor, crosspoint_trunk_junctor, crosspoint_trunk}}
use Rattle.xbar_jobs.specs.{Closing.{leave_effects, other_opens, path_closes, path_opens}, Keeping.{AreEffects, IsEffect}, declared.effect.Effect.Effect}
use Rattle.xbar_jobs.specs.declared.{effect.Effect.TheVariants.{Close, Open, ClearBit}, decision.Leave.Leave}

-- the effects of both lists are in range, if those of each are
pub both_range : (effects others : List Effect) → AreEffects effects → AreEffects others → AreEffects (effects ++ others)
both_range effects others front back effect within =
    elim (in_either effect effects others within) [ inl own ↦ front effect own | inr other ↦ back effect other ]

-- what is made of each crosspoint of a path
made_range : (make : Crosspoint → Effect) → ((c : Crosspoint) → IsCrosspoint c → IsEffect (make c)) → (path : Path) → IsPath path
    → AreEffects (map make (crosspoints path))
made_range make may path range effect (inl e) = subst IsEffect (sym e) (may _ (crosspoint_line path range))
made_range make may path range effect (inr (inl e)) = subst IsEffect (sym e) (may _ (crosspoint_line_junctor path range))
made_range make may path range effect (inr (inr (inl e))) = subst IsEffect (sym e) (may _ (crosspoint_trunk_junctor path range))
made_range make may path range effect (inr (inr (inr (inl e)))) = subst IsEffect (sym e) (may _ (crosspoint_trunk path range))
made_range make may path range effect (inr (inr (inr (inr none)))) = absurd none

-- closing a path
pub closes_range : (path : Path) → IsPath path → AreEffects (path_closes path)
closes_range path range = made_range Close (λ c is. is) path range

-- opening a path
pub opens_range : (path : Path) → IsPath path → AreEffects (path_opens path)
opens_range path range = made_range Open (λ c is. is) path range

others_range : (other : Option Path) → IfSome other IsPath → AreEffects (other_opens other)
others_range None range = λ effect none. absurd none
others_range (Some path) range = opens_range path range

-- letting go of a member and of the paths that lead to it
pub leave_range : (leave : Leave) → IsPath leave.own → IfSome leave.other IsPath → leave.group < 16 → leave.index < 40 → AreEffects (leave_effects leave)
leave_range leave own other group index =
    both_range (path_opens leave.own) _ (opens_range leave.own own)
    (both_range (other_opens leave.other) (ClearBit leave.group leave.index ∷ []) (others_range leave.other other) bit) where
      bit : AreEffects (ClearBit leave.group leave.index ∷ [])
      bit effect (inl e) = subst IsEffect (sym e) (group, index)
      bit effect (inr none) = absurd none
