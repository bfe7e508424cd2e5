use Rattle.std.proofs.Common.{◌≡◌, ◌≢◌, ℕ, ◌-◌, ◌≤◌, bit_and, Some, sym, ap, ◌∙◌, subst, arith, w64}
use Rattle.{std.specs.Int.trailing_zeros, turns.specs.Sharings.{lower_request as lower_request_of}}
use Rattle.turns.proofs.FirstRequests.{masked_first, masked_none, shifted, shifted_from}
use Rattle.turns.proofs.judgement.lower_request.Goals as goal

pub overflow_sub-below : goal.overflow_sub-below
overflow_sub-below c = shifted_from c.args.actor c.requires

pub overflow_sub-result : goal.overflow_sub-result
overflow_sub-result c =
    subst (λ (high : ℕ). bit_and c.args.word (high - 256) ≢ 0 → 8 ≤ trailing_zeros w64 (bit_and c.args.word (high - 256)))
    (sym (shifted c.args.actor c.requires))
    (λ some. (masked_first c.args.actor c.args.word c.ranges.word.fits (omega arith)).0)
    c.if-below-eq0.false

pub returns-then-below-eq0 : goal.returns-then-below-eq0
returns-then-below-eq0 c =
    sym (masked_none c.args.actor c.args.word (ap (λ (high : ℕ). bit_and c.args.word (high - 256)) (sym (shifted c.args.actor c.requires))
    ∙ c.if-below-eq0.true))

pub returns-else-below-eq0 : goal.returns-else-below-eq0
returns-else-below-eq0 c =
    subst (λ (high : ℕ). bit_and c.args.word (high - 256) ≢ 0 → Some (trailing_zeros w64 (bit_and c.args.word (high - 256)) - 8)
    ≡ lower_request_of c.args.actor c.args.word) (sym (shifted c.args.actor c.requires))
    (λ some. sym (masked_first c.args.actor c.args.word c.ranges.word.fits (omega arith)).1)
    c.if-below-eq0.false
