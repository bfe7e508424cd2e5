-- a frame's line junctor switches as effects will leave them
use Rattle.std.proofs.Common.{◌≡◌, ℕ, ◌+◌, ◌<◌, List, [], ◌∷◌, ◌++◌, length, take, drop, set, slice_set, slice_index, length-set, append-nil, append_assoc, sym}
use Rattle.std.proofs.Common.{◌∙◌, ap, subst, arith, drop-set-lt, take_all}
use Rattle.{std.proofs.lemmas.List.{at_drop_all, drop_more, take_more_set}, xbar_equip.specs.Word.{LineJunctor, word_number}}
use Rattle.xbar_jobs.specs.{Closing.value_after, Sides.junctors_after, declared.effect.Effect.Effect}

-- as far as a loop has come: the words below a channel are as they will be left, and the others as they were
pub record AreMade (effects : List Effect) (frame channel : ℕ) (junctors words : List ℕ) : Type 0 where
  pub size : length words ≡ 10
  pub so_far : take channel words ++ junctors_after effects frame channel (drop channel words) ≡ junctors_after effects frame 0 junctors

module _ (effects : List Effect) (frame channel : ℕ) (junctors words : List ℕ) where
  -- the word of a channel is the next one to be made
  one_left : channel < length words
      → junctors_after effects frame channel (drop channel words) ≡ value_after effects (word_number (LineJunctor frame channel)) (slice_index words channel)
      ∷ junctors_after effects frame (channel + 1) (drop (channel + 1) words)
  unfolding junctors_after
  one_left below = ap (junctors_after effects frame channel) (drop_more words channel 0 below)

  here_made : (word : ℕ) → AreMade effects frame channel junctors words → channel < 10
      → word ≡ value_after effects (word_number (LineJunctor frame channel)) (slice_index words channel)
      → AreMade effects frame (channel + 1) junctors (set words channel word)
  here_made word are below is =
      let within : channel < length words = omega (arith, are.size) in
      record {
        size = length-set words channel word ∙ are.size;
        so_far =
            rw (
              take_more_set words channel word within,
              drop-set-lt (channel + 1) words channel word (omega arith),
              append_assoc (take channel words) (word ∷ []) (junctors_after effects frame (channel + 1) (drop (channel + 1) words)),
              is,
            )
            (ap (λ (rest : List ℕ). take channel words ++ rest) (sym (one_left within)) ∙ are.so_far);
      }

  -- with that one made
  pub one_more_made : (at number word : ℕ) → at ≡ channel → AreMade effects frame channel junctors words → channel < 10
      → number ≡ word_number (LineJunctor frame channel) → word ≡ value_after effects number (slice_index words at)
      → AreMade effects frame (channel + 1) junctors (slice_set words at word)
  one_more_made at number word place are below named is =
      subst (λ (k : ℕ). AreMade effects frame (channel + 1) junctors (set words k word)) (sym place)
      (here_made word are below (is ∙ ap (λ (n : ℕ). value_after effects n (slice_index words at)) named
      ∙ ap (λ (k : ℕ). value_after effects (word_number (LineJunctor frame channel)) (slice_index words k)) place))

  -- with all made
  pub all_made : AreMade effects frame channel junctors words → channel ≡ 10 → words ≡ junctors_after effects frame 0 junctors
  all_made are at_end =
      let whole : take channel words ≡ words = take_all channel words (omega (arith, are.size)) in
      let none = at_drop_all (junctors_after effects frame channel) words channel (omega (arith, are.size)) in
      sym (sym are.so_far ∙ ap (λ (rest : List ℕ). take channel words ++ rest) none ∙ append-nil (take channel words) ∙ whole)
