-- what the tests of a frame's line junctor switches find in the words, and what effects make of it
use Rattle.std.proofs.Common.{◌≡◌, ℕ, zero, suc, ◌+◌, ◌<◌, List, [], ◌∷◌, length, refl, ◌∙◌, ap, arith, slice_index}
use Rattle.{turns.{specs.Script.{◌>>=◌, run}, proofs.Walks.run_bind}, xbar_equip.specs.Word.{word_number, LineJunctor}, xbar_match.specs.Switches.word_of}
use Rattle.xbar_jobs.specs.{Closing.value_after, Sides.{junctors_after, test_junctors}, declared.effect.Effect.Effect}

junctors_first : (words : List ℕ) (frame channel count : ℕ)
    → run words (test_junctors frame channel (suc count)) ≡ word_of words (LineJunctor frame channel) ∷ run words (test_junctors frame (channel + 1) count)
unfolding run test_junctors ◌>>=◌
junctors_first words frame channel count = run_bind words (test_junctors frame (channel + 1) count) _

-- as many words as switches
pub length-junctors : (words : List ℕ) (frame channel count : ℕ) → length (run words (test_junctors frame channel count)) ≡ count
unfolding run test_junctors
length-junctors words frame channel zero = refl
length-junctors words frame channel (suc count) =
    ap (length {A = ℕ}) (junctors_first words frame channel count) ∙ ap suc (length-junctors words frame (channel + 1) count)

-- and each of them is the switch's
pub junctors_run : (words : List ℕ) (frame channel count n : ℕ) → n < count
    → slice_index (run words (test_junctors frame channel count)) n ≡ word_of words (LineJunctor frame (channel + n))
junctors_run words frame channel zero n below = absurd (omega arith)
junctors_run words frame channel (suc count) zero below =
    ap (λ (found : List ℕ). slice_index found zero) (junctors_first words frame channel count)
    ∙ ap (λ (k : ℕ). word_of words (LineJunctor frame k)) (omega arith)
junctors_run words frame channel (suc count) (suc n) below =
    let later : channel + 1 + n ≡ channel + suc n = omega arith in
    ap (λ (found : List ℕ). slice_index found (suc n)) (junctors_first words frame channel count)
    ∙ junctors_run words frame (channel + 1) count n (omega arith) ∙ ap (λ (k : ℕ). word_of words (LineJunctor frame k)) later

-- effects don't change the number of words
pub length-junctors_after : (effects : List Effect) (frame channel : ℕ) (words : List ℕ) → length (junctors_after effects frame channel words) ≡ length words
length-junctors_after effects frame channel [] = refl
length-junctors_after effects frame channel (word ∷ words) = ap suc (length-junctors_after effects frame (channel + 1) words)

-- and each of them is what effects make of it
pub junctors_after-index : (effects : List Effect) (frame channel : ℕ) (words : List ℕ) (n : ℕ) → n < length words
    → slice_index (junctors_after effects frame channel words) n ≡ value_after effects (word_number (LineJunctor frame (channel + n))) (slice_index words n)
junctors_after-index effects frame channel [] n below = absurd (omega arith)
junctors_after-index effects frame channel (word ∷ words) zero below =
    let same : channel ≡ channel + zero = omega arith in
    ap (λ (at : ℕ). value_after effects (word_number (LineJunctor frame at)) word) same
junctors_after-index effects frame channel (word ∷ words) (suc n) below =
    let same : channel + 1 + n ≡ channel + suc n = omega arith in
    junctors_after-index effects frame (channel + 1) words n (omega arith)
    ∙ ap (λ (at : ℕ). value_after effects (word_number (LineJunctor frame at)) (slice_index words n)) same
