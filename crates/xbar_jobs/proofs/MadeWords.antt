-- what effects make of the number in a word, one effect after another
use Rattle.std.proofs.Common.{◌≡◌, ℕ, ◌+◌, ◌<◌, nat_eq, Bool, List, ◌∷◌, length, slice_index_or, drop, sym, ◌∙◌, ap, if◌then◌else◌}
use Rattle.{std.proofs.lemmas.List.at_drop_more, xbar_jobs.specs.{Closing.{effect_on, effect_word, value_after}, declared.effect.Effect.Effect}}

-- the value after all effects is that after the others, made on what the first one leaves
pub next_made : (effects : List Effect) (at : ℕ) (effect : Effect) (word value number next : ℕ) (hit : Bool) → effect ≡ slice_index_or effects at effect
    → at < length effects → number ≡ effect_word effect → hit ≡ nat_eq number word → next ≡ (if hit then effect_on effect value else value)
    → value_after (drop (at + 1) effects) word next ≡ value_after (drop at effects) word value
next_made effects at effect word value number next hit is below named tested left =
    ap (value_after (drop (at + 1) effects) word) (left
    ∙ ap (λ (b : Bool). if b then effect_on effect value else value) (tested ∙ ap (λ (n : ℕ). nat_eq n word) named))
    ∙ ap (λ (e : Effect). value_after (e ∷ drop (at + 1) effects) word value) is
    ∙ sym (at_drop_more (λ (es : List Effect). value_after es word value) effects at effect below)
