-- effects of the office put no more than 64 bits into their words
use Rattle.std.proofs.Common.{◌≤◌, ◌^◌, List, [], ◌∷◌, map, inl, inr, sym, subst, pow_mono, arith, ◌⊎◌, Option, Some, None, ◌-◌}
use Rattle.turns.{specs.{Among.IsIn, Operations.FitsWord, System.{DecidesUnder, FitWords}}, proofs.{Lists.in_either, Words.{MakesWords, made_below}}}
use Rattle.xbar_equip.specs.{Crosspoint.crosspoints, declared.{conn.Conn.Conn, crosspoint.Crosspoint.Crosspoint, path.Path.Path}}
use Rattle.{xbar_switch.{specs.Field.close_bits_of, proofs.Fields.above_fields-close_bits}, xbar_match.specs.Switches.shape_at}
use Rattle.{xbar_match.proofs.OneCrosspoint.no_more-lt, xbar_plan.specs.Tables.Tables}
use Rattle.xbar_jobs.specs.{Closing.{leave_effects, value_after, operation_of, other_opens, path_opens}, Keeping.{IsCovered, IsEffect}, Office.office}
use Rattle.xbar_jobs.specs.declared.{decision.{Decision.Decision, Leave.Leave}, effect.Effect.{Effect, TheVariants.{Close, Open, SetBit, ClearBit}}}

-- a close sets bits of its switch's ten fields, and a member's bit is one of the first forty
effect_fits : (effect : Effect) → IsEffect effect → FitsWord (operation_of effect)
effect_fits (Close c) is =
    let shape = shape_at c.word in
    no_more-lt shape (close_bits_of shape c.field (c.value - 1))
    (above_fields-close_bits shape c.field (c.value - 1) is.field (omega (arith, is.closed, is.place)))
effect_fits (Open c) is = tt
effect_fits (SetBit number index) is =
    let below : 2 ^ index ≤ 2 ^ 39 = pow_mono {i = index} {j = 39} (omega arith) in omega arith
effect_fits (ClearBit number index) is = tt

-- so a decision that is covered may be made
pub may_make : (plan : Tables) (held : List Conn) (decision : Decision) → IsCovered plan held decision →
    DecidesUnder (office plan) held decision
may_make plan held decision covered = record {
  under = covered.under;
  fit = λ effect within. effect_fits effect (covered.effects effect within);
}

-- to let go is to keep some bits of each word
opens_fit : (closed : List Crosspoint) (effect : Effect) → IsIn effect (map Open closed) → FitsWord (operation_of effect)
opens_fit [] effect none = absurd none
opens_fit (c ∷ closed) effect (inl e) = subst (λ (x : Effect). FitsWord (operation_of x)) (sym e) tt
opens_fit (c ∷ closed) effect (inr later) = opens_fit closed effect later

others_fit : (other : Option Path) (effect : Effect) → IsIn effect (other_opens other) → FitsWord (operation_of effect)
others_fit None effect none = absurd none
others_fit (Some path) effect within = opens_fit (crosspoints path) effect within

module _ (plan : Tables) (leave : Leave) where
  leave_fits : FitWords (office plan) (leave_effects leave)
  leave_fits effect within = elim (in_either effect (path_opens leave.own) _ within) [
    | inl own ↦ opens_fit (crosspoints leave.own) effect own
    | inr later ↦ after (in_either effect (other_opens leave.other) (ClearBit leave.group leave.index ∷ []) later)
  ] where
    bit : IsIn effect (ClearBit leave.group leave.index ∷ []) → FitsWord (operation_of effect)
    bit (inl e) = subst (λ (x : Effect). FitsWord (operation_of x)) (sym e) tt
    bit (inr none) = absurd none

    after : IsIn effect (other_opens leave.other) ⊎ IsIn effect (ClearBit leave.group leave.index ∷ []) →
        FitsWord (operation_of effect)
    after (inl other) = others_fit leave.other effect other
    after (inr last) = bit last

  -- and what that leaves of words is words
  pub leave_words : MakesWords (value_after (leave_effects leave))
  leave_words = made_below (office plan) (leave_effects leave) leave_fits
