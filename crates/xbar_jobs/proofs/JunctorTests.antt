use Rattle.std.proofs.Common.{◌≡◌, ℕ, suc, ◌+◌, ◌-◌, ◌<◌, List, [], ◌∷◌, ◌++◌, length, take, set, length-set, append-nil, refl, sym, ◌∙◌, ap, subst}
use Rattle.std.proofs.Common.{append_assoc, arith, take_all, Result, Ok, Err}
use Rattle.{std.proofs.lemmas.List.take_more_set, turns.specs.Script.Ends, attempts.proofs.WalksOnWords.{live_bind, live_end}, xbar_equip.specs.Conn.conn_eq}
use Rattle.{xbar_equip.specs.Word.LineJunctor, xbar_jobs.specs.{Closing.value_after, Script.{WalkOutcome, WalkState, Wanted, conn_word, walk_on_words, test}}}
use Rattle.xbar_jobs.{specs.{Sides.test_junctors, declared.effect.Effect.Effect}, proofs.WalksOnWords.{comes, goes_on, stops, then_live}}

-- the words read before, and then those found
abbrev pub behind : List ℕ → List ℕ → WalkState → List ℕ → WalkOutcome (List ℕ)
behind before rest state words = comes (Ok (before ++ rest)) state words

-- the word read, and then those found
abbrev ahead : ℕ → List ℕ → WalkState → List ℕ → WalkOutcome (List ℕ)
ahead word rest state words = comes (Ok (word ∷ rest)) state words

module _ (made : List Effect) where
  none_before : (found : Result (List ℕ) Wanted) (state : WalkState) (words : List ℕ)
      → then_live made (comes found state words) (behind []) ≡ comes found state words
  none_before (Ok row) state words = refl
  none_before (Err wanted) state words = refl

  pub then_none : (come : WalkOutcome (List ℕ)) → then_live made come (behind []) ≡ come
  then_none come = none_before come.found come.state come.words

  one_ahead : (before : List ℕ) (word : ℕ) (found : Result (List ℕ) Wanted) (state : WalkState) (words : List ℕ)
      → then_live made (then_live made (comes found state words) (ahead word)) (behind before)
      ≡ then_live made (comes found state words) (behind (before ++ word ∷ []))
  one_ahead before word (Ok row) state words = rw (append_assoc before (word ∷ []) row) refl
  one_ahead before word (Err wanted) state words = refl

  one_more : (before : List ℕ) (word : ℕ) (come : WalkOutcome (List ℕ))
      → then_live made (then_live made come (ahead word)) (behind before) ≡ then_live made come (behind (before ++ word ∷ []))
  one_more before word come = one_ahead before word come.found come.state come.words

  module _ (frame channel count : ℕ) (state more : WalkState) (words after : List ℕ) where
    -- a word that was read is added to those before it
    pub next_word : (before : List ℕ) (word : ℕ) → walk_on_words made (test (LineJunctor frame channel)) state words ≡ comes (Ok word) more after
        → then_live made (walk_on_words made (test_junctors frame channel (suc count)) state words) (behind before)
        ≡ then_live made (walk_on_words made (test_junctors frame (channel + 1) count) more after) (behind (before ++ word ∷ []))
    unfolding test_junctors
    next_word before word is =
        ap (λ (come : WalkOutcome (List ℕ)). then_live made come (behind before))
        (goes_on made (test (LineJunctor frame channel)) _ state more words after word is
        ∙ live_bind conn_eq conn_word 42 19 (value_after made) (test_junctors frame (channel + 1) count) _ more after
        ∙ ends (walk_on_words made (test_junctors frame (channel + 1) count) more after))
        ∙ one_more before word (walk_on_words made (test_junctors frame (channel + 1) count) more after) where
          ends_at : (found : Result (List ℕ) Wanted) (state : WalkState) (words : List ℕ)
              → then_live made (comes found state words) (λ row. walk_on_words made (Ends (word ∷ row))) ≡ then_live made (comes found state words) (ahead word)
          ends_at (Ok row) state words = live_end conn_eq conn_word 42 19 (value_after made) (word ∷ row) state words
          ends_at (Err wanted) state words = refl

          ends : (come : WalkOutcome (List ℕ)) → then_live made come (λ row. walk_on_words made (Ends (word ∷ row))) ≡ then_live made come (ahead word)
          ends come = ends_at come.found come.state come.words

    -- a word that was not read is needed next
    pub wanted_word : (before : List ℕ) (wanted : Wanted) → walk_on_words made (test (LineJunctor frame channel)) state words ≡ comes (Err wanted) more after
        → then_live made (walk_on_words made (test_junctors frame channel (suc count)) state words) (behind before) ≡ comes (Err wanted) more after
    unfolding test_junctors
    wanted_word before wanted is =
        ap (λ (come : WalkOutcome (List ℕ)). then_live made come (behind before))
        (stops made (test (LineJunctor frame channel)) _ state more words after wanted is)

  -- after the last word there is none
  pub no_more_words : (frame channel : ℕ) (state : WalkState) (words : List ℕ) (before : List ℕ)
      → then_live made (walk_on_words made (test_junctors frame channel 0) state words) (behind before) ≡ comes (Ok (before ++ [])) state words
  unfolding test_junctors
  no_more_words frame channel state words before =
      ap (λ (come : WalkOutcome (List ℕ)). then_live made come (behind before))
      (live_end conn_eq conn_word 42 19 (value_after made) {A = List ℕ} [] state words)

-- the state of a loop: the words below a channel were read, and the others are found after them
pub record HasRead (made : List Effect) (frame : ℕ) (from : WalkState) (first : List ℕ) (channel : ℕ) (row : List ℕ) (state : WalkState) (words : List ℕ) : Type
    0 where
  pub size : length row ≡ 10
  pub so_far : walk_on_words made (test_junctors frame 0 10) from first
      ≡ then_live made (walk_on_words made (test_junctors frame channel (10 - channel)) state words) (behind (take channel row))

module _ (made : List Effect) (frame : ℕ) (from : WalkState) (first : List ℕ) (channel : ℕ) (row : List ℕ) (state more : WalkState) (words after : List ℕ) where
  here_read : (word : ℕ) → HasRead made frame from first channel row state words → channel < 10
      → walk_on_words made (test (LineJunctor frame channel)) state words ≡ comes (Ok word) more after
      → HasRead made frame from first (channel + 1) (set row channel word) more after
  here_read word have below read =
      let count : 10 - channel ≡ suc (10 - (channel + 1)) = omega arith in
      let within : channel < length row = omega (arith, have.size) in
      record {
        size = length-set row channel word ∙ have.size;
        so_far =
            have.so_far
            ∙ ap (λ (n : ℕ). then_live made (walk_on_words made (test_junctors frame channel n) state words) (behind (take channel row))) count
            ∙ next_word made frame channel (10 - (channel + 1)) state more words after (take channel row) word read
            ∙ ap (λ (before : List ℕ). then_live made (walk_on_words made (test_junctors frame (channel + 1) (10 - (channel + 1))) more after) (behind before))
            (sym (take_more_set row channel word within));
      }

  -- with one word more
  pub one_more_read : (at word : ℕ) → at ≡ channel → HasRead made frame from first channel row state words → channel < 10
      → walk_on_words made (test (LineJunctor frame channel)) state words ≡ comes (Ok word) more after
      → HasRead made frame from first (channel + 1) (set row at word) more after
  one_more_read at word same have below read =
      subst (λ (k : ℕ). HasRead made frame from first (channel + 1) (set row k word) more after) (sym same) (here_read word have below read)

  -- up to a word that is needed next
  pub wanted_there : (wanted : Wanted) → HasRead made frame from first channel row state words → channel < 10
      → walk_on_words made (test (LineJunctor frame channel)) state words ≡ comes (Err wanted) more after
      → walk_on_words made (test_junctors frame 0 10) from first ≡ comes (Err wanted) more after
  wanted_there wanted have below stops =
      let count : 10 - channel ≡ suc (10 - (channel + 1)) = omega arith in
      have.so_far
      ∙ ap (λ (n : ℕ). then_live made (walk_on_words made (test_junctors frame channel n) state words) (behind (take channel row))) count
      ∙ wanted_word made frame channel (10 - (channel + 1)) state more words after (take channel row) wanted stops

-- with all words
pub all_read : (made : List Effect) (frame : ℕ) (from : WalkState) (first : List ℕ) (channel : ℕ) (row : List ℕ) (state : WalkState) (words : List ℕ)
    → HasRead made frame from first channel row state words → channel ≡ 10
    → comes (Ok row) state words ≡ walk_on_words made (test_junctors frame 0 10) from first
all_read made frame from first channel row state words have at_end =
    let none : 10 - channel ≡ 0 = omega arith in
    let whole : take channel row ++ [] ≡ row = append-nil (take channel row) ∙ take_all channel row (omega (arith, have.size)) in
    sym (
    have.so_far
    ∙ ap (λ (n : ℕ). then_live made (walk_on_words made (test_junctors frame channel n) state words) (behind (take channel row))) none
    ∙ no_more_words made frame channel state words (take channel row)
    ∙ ap (λ (all : List ℕ). comes (Ok all) state words) whole
    )
