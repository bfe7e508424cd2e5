-- what an attempt has seen: its fields, as its methods have them, and its view
use Rattle.std.proofs.Common.{◌≡◌, ℕ, ◌-◌, Bool, true, false, List, [], ◌∷◌, ◌++◌, length, refl, sym, ◌∙◌, ap, subst, slice_set, Option, Some, None, Ok, Err}
use Rattle.std.proofs.Common.{slice_get}
use Rattle.std.specs.Prelude.{⊤}
use Rattle.turns.specs.{Script.{Ends, is_held, seize, test, value_read}, declared.{reading.Reading.Reading, wanted.Wanted.TheVariants.{Seize, Test}}}
use Rattle.attempts.specs.WalkOnWords.{WalkState, WalkOutcome, walk_on_words, walk_on_words_seize, walk_on_words_test, may_seize, read_at_once, with_lock}

module _ {Lock : Type 0} (same : Lock → Lock → Bool) (reads seizes : ℕ) (word_of : Lock → ℕ) (change : ℕ → ℕ → ℕ) (p now : WalkState Lock) (inside : p ≡ now)
    (words : List ℕ) where
  -- the walk from a seize on
  module _ (lock : Lock) (at : ℕ) (own : word_of lock ≡ at) where
    abbrev by_tests : Bool → Bool → WalkOutcome Lock ⊤
    by_tests held may = walk_on_words_seize same word_of reads seizes change (walk_on_words same word_of reads seizes change (Ends tt)) lock p words held may

    seizing : (held may : Bool) → is_held same p.seen.held lock ≡ held → may_seize p.left (seizes - length p.seen.held) (slice_get words at) ≡ may
        → walk_on_words same word_of reads seizes change (seize lock) p words ≡ by_tests held may
    unfolding walk_on_words
    seizing held may is can =
        ap (λ (b : Bool). by_tests b (may_seize p.left (seizes - length p.seen.held) (slice_get words (word_of lock)))) is
        ∙ ap (by_tests held) (ap (λ (n : ℕ). may_seize p.left (seizes - length p.seen.held) (slice_get words n)) own ∙ can)

    pub seizes_held : is_held same p.seen.held lock ≡ true
        → record { found = Ok tt; state = now; words = words } ≡ walk_on_words same word_of reads seizes change (seize lock) now words
    unfolding walk_on_words walk_on_words_seize
    seizes_held held =
        sym (subst (λ (x : WalkState Lock). walk_on_words same word_of reads seizes change (seize lock) p words
        ≡ record { found = Ok tt; state = x; words = words }) inside (seizing true _ held refl))
        ∙ ap (λ (x : WalkState Lock). walk_on_words same word_of reads seizes change (seize lock) x words) inside

    pub seizes_none : is_held same p.seen.held lock ≡ false → may_seize p.left (seizes - length p.seen.held) (slice_get words at) ≡ false
        → record { found = Err (Seize lock); state = now; words = words } ≡ walk_on_words same word_of reads seizes change (seize lock) now words
    unfolding walk_on_words walk_on_words_seize
    seizes_none held may =
        sym (subst (λ (x : WalkState Lock). walk_on_words same word_of reads seizes change (seize lock) p words
        ≡ record { found = Err (Seize lock); state = x; words = words }) inside (seizing false false held may))
        ∙ ap (λ (x : WalkState Lock). walk_on_words same word_of reads seizes change (seize lock) x words) inside

    pub seizes_now : (more : List Lock) → more ≡ p.seen.held ++ lock ∷ [] → is_held same p.seen.held lock ≡ false
        → may_seize p.left (seizes - length p.seen.held) (slice_get words at) ≡ true
        → record {
          found = Ok tt;
          state = record { seen = record { held = more; readings = p.seen.readings }; left = p.left - 2; held_word = p.held_word };
          words = slice_set words at p.held_word;
        } ≡ walk_on_words same word_of reads seizes change (seize lock) now words
    unfolding walk_on_words walk_on_words_seize
    seizes_now more pushed held may =
        ap (λ (h : List Lock).
        record {
          found = Ok tt;
          state = record { seen = record { held = h; readings = p.seen.readings }; left = p.left - 2; held_word = p.held_word };
          words = slice_set words at p.held_word;
        }) pushed
        ∙ ap (λ (n : ℕ). record { found = Ok tt; state = with_lock p lock; words = slice_set words n p.held_word }) (sym own)
        ∙ sym (seizing false true held may)
        ∙ ap (λ (x : WalkState Lock). walk_on_words same word_of reads seizes change (seize lock) x words) inside

  -- the walk from a test on
  module _ (word : ℕ) where
    abbrev by_values : Option ℕ → Option ℕ → WalkOutcome Lock ℕ
    by_values read found =
        walk_on_words_test same word_of reads seizes change (λ value. walk_on_words same word_of reads seizes change (Ends value)) word p words read found

    testing : (read found : Option ℕ) → value_read p.seen.readings word ≡ read → read_at_once p.left (reads - length p.seen.readings) words word ≡ found
        → walk_on_words same word_of reads seizes change (test word) p words ≡ by_values read found
    unfolding walk_on_words
    testing read found is there =
        ap (λ (o : Option ℕ). by_values o (read_at_once p.left (reads - length p.seen.readings) words word)) is ∙ ap (by_values read) there

    pub tests_read : (value : ℕ) → value_read p.seen.readings word ≡ Some value
        → record { found = Ok (change word value); state = p; words = words } ≡ walk_on_words same word_of reads seizes change (test word) now words
    unfolding walk_on_words walk_on_words_test
    tests_read value read =
        sym (testing (Some value) _ read refl) ∙ ap (λ (x : WalkState Lock). walk_on_words same word_of reads seizes change (test word) x words) inside

    pub tests_none : value_read p.seen.readings word ≡ None → read_at_once p.left (reads - length p.seen.readings) words word ≡ None
        → record { found = Err (Test word); state = p; words = words } ≡ walk_on_words same word_of reads seizes change (test word) now words
    unfolding walk_on_words walk_on_words_test
    tests_none read found =
        sym (testing None None read found) ∙ ap (λ (x : WalkState Lock). walk_on_words same word_of reads seizes change (test word) x words) inside

    pub tests_now : (value : ℕ) (more : List (Reading ℕ)) → more ≡ p.seen.readings ++ record { word = word; value = value } ∷ []
        → value_read p.seen.readings word ≡ None → read_at_once p.left (reads - length p.seen.readings) words word ≡ Some value
        → record {
          found = Ok (change word value);
          state = record { seen = record { held = p.seen.held; readings = more }; left = p.left - 1; held_word = p.held_word };
          words = words;
        } ≡ walk_on_words same word_of reads seizes change (test word) now words
    unfolding walk_on_words walk_on_words_test
    tests_now value more noted read found =
        ap (λ (rs : List (Reading ℕ)).
        record {
          found = Ok (change word value);
          state = record { seen = record { held = p.seen.held; readings = rs }; left = p.left - 1; held_word = p.held_word };
          words = words;
        }) noted
        ∙ sym (testing None (Some value) read found)
        ∙ ap (λ (x : WalkState Lock). walk_on_words same word_of reads seizes change (test word) x words) inside
