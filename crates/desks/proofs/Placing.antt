-- a table that has a system's words at places of their own, as the words alone
use Rattle.std.proofs.Common.{◌≡◌, ◌≢◌, ℕ, zero, suc, ◌+◌, ◌<◌, ◌≤◌, List, [], ◌∷◌, ◌++◌, length, slice_index, slice_set, length-set, refl, sym, ap, ap₂, ◌∙◌}
use Rattle.std.proofs.Common.{subst, arith}
use Rattle.{atomic_table.specs.Table.{Allows, Final, Joins, Me, Seen, Splits, State}, turns.specs.{System.{System, IsSystem}, Places.{ArePlaces, Places}}}
use Rattle.{turns.{specs.Places.{in_place, words_from, words_in}, proofs.Lists.{index_other, index_same}}, desks.specs.{Kept.KnownOf, Rule.{Rule, RuleOfWords}}}
use mathlib.Core.Option.{some, some-injective, some-ne-none}
use lib.ListN.{get_elem?}

module _ (P : Places) where
  pub from_length : (word count : ℕ) (table : List ℕ) → length (words_from P word count table) ≡ count
  from_length word zero table = refl
  from_length word (suc count) table = ap suc (from_length (suc word) count table)

  -- a word of them is what its place has
  pub from_index : (word count n : ℕ) (table : List ℕ) → n < count → slice_index (words_from P word count table) n ≡ slice_index table (P.place (word + n))
  from_index word zero n table below = absurd (omega arith)
  from_index word (suc count) zero table below = let same : word ≡ word + zero = omega arith in ap (λ (w : ℕ). slice_index table (P.place w)) same
  from_index word (suc count) (suc n) table below =
      let same : suc word + n ≡ word + suc n = omega arith in
      from_index (suc word) count n table (omega arith) ∙ ap (λ (w : ℕ). slice_index table (P.place w)) same

  -- a place of none of these words is set
  from_other : (word count at value : ℕ) (table : List ℕ) → ((w : ℕ) → word ≤ w → w < word + count → P.place w ≢ at)
      → words_from P word count (slice_set table at value) ≡ words_from P word count table
  from_other word zero at value table apart = refl
  from_other word (suc count) at value table apart =
      ap₂ (λ (n : ℕ) (rest : List ℕ). n ∷ rest) (index_other table at (P.place word) value (apart word (omega arith) (omega arith)))
      (from_other (suc word) count at value table (λ w from below. apart w (omega arith) (omega arith)))

  -- the place of one of them is set
  from_set : (word count n value : ℕ) (table : List ℕ) → n < count → P.place (word + n) < length table
      → ((w : ℕ) → word ≤ w → w < word + count → w ≢ word + n → P.place w ≢ P.place (word + n))
      → words_from P word count (slice_set table (P.place (word + n)) value) ≡ slice_set (words_from P word count table) n value
  from_set word zero n value table below there apart = absurd (omega arith)
  from_set word (suc count) zero value table below there apart =
      let here : word + zero ≡ word = omega arith in
      ap₂ (λ (m : ℕ) (rest : List ℕ). m ∷ rest)
      (ap (λ (w : ℕ). slice_index (slice_set table (P.place w) value) (P.place word)) here
      ∙ index_same table (P.place word) value (subst (λ (w : ℕ). P.place w < length table) here there))
      (from_other (suc word) count (P.place (word + zero)) value table (λ w from below. apart w (omega arith) (omega arith) (omega (arith, from))))
  from_set word (suc count) (suc n) value table below there apart =
      let next : word + suc n ≡ suc word + n = omega arith in
      ap₂ (λ (m : ℕ) (rest : List ℕ). m ∷ rest)
      (index_other table (P.place (word + suc n)) (P.place word) value (apart word (omega arith) (omega arith) (omega arith)))
      (ap (λ (w : ℕ). words_from P (suc word) count (slice_set table (P.place w) value)) next
      ∙ from_set (suc word) count n value table (omega arith) (subst (λ (w : ℕ). P.place w < length table) next there)
      (λ w from until other. subst (λ (x : ℕ). P.place w ≢ P.place x) next (apart w (omega arith) (omega (arith, until)) (λ e. other (e ∙ next)))))

  -- one word more
  pub from_more : (word count : ℕ) (table : List ℕ)
      → words_from P word (count + 1) table ≡ words_from P word count table ++ slice_index table (P.place (word + count)) ∷ []
  from_more word zero table = let same : word ≡ word + 0 = omega arith in ap (λ (w : ℕ). slice_index table (P.place w) ∷ []) same
  from_more word (suc count) table =
      let one : suc count + 1 ≡ suc (count + 1) = omega arith in
      let same : suc word + count ≡ word + suc count = omega arith in
      ap (λ (n : ℕ). words_from P word n table) one
      ∙ ap (λ (rest : List ℕ). slice_index table (P.place word) ∷ rest)
      (from_more (suc word) count table ∙ ap (λ (w : ℕ). words_from P (suc word) count table ++ slice_index table (P.place w) ∷ []) same)

  -- the first of the words and one more
  pub one_more : (count : ℕ) (table : List ℕ) → words_in P (count + 1) table ≡ words_in P count table ++ slice_index table (P.place count) ∷ []
  one_more count table = let same : 0 + count ≡ count = omega arith in
      from_more 0 count table ∙ ap (λ (w : ℕ). words_in P count table ++ slice_index table (P.place w) ∷ []) same

  -- words that have their places are those of the table
  pub from_same : (word : ℕ) (words table : List ℕ) → ((n : ℕ) → n < length words → slice_index table (P.place (word + n)) ≡ slice_index words n)
      → words_from P word (length words) table ≡ words
  from_same word [] table same = refl
  from_same word (x ∷ words) table same =
      let here : word + 0 ≡ word = omega arith in
      ap₂ (λ (n : ℕ) (rest : List ℕ). n ∷ rest) (ap (λ (w : ℕ). slice_index table (P.place w)) (sym here) ∙ same 0 (omega arith))
      (from_same (suc word) words table (λ n below. let next : suc word + n ≡ word + suc n = omega arith in
      ap (λ (w : ℕ). slice_index table (P.place w)) next ∙ same (suc n) (omega arith)))

  module _ (size : ℕ) (are : ArePlaces P size) where
    pub word_in : (n : ℕ) (table : List ℕ) → n < size → slice_index (words_in P size table) n ≡ slice_index table (P.place n)
    word_in n table below = from_index 0 size n table below ∙ ap (λ (w : ℕ). slice_index table (P.place w)) (omega arith)

    pub set_in : (n value : ℕ) (table : List ℕ) → length table ≡ P.count → n < size
        → words_in P size (slice_set table (P.place n) value) ≡ slice_set (words_in P size table) n value
    set_in n value table long below =
        let same : 0 + n ≡ n = omega arith in
        let there : P.place (0 + n) < length table = subst (λ (w : ℕ). P.place w < length table) (sym same) (omega (arith, long, are.within n below)) in
        ap (λ (w : ℕ). words_in P size (slice_set table (P.place w) value)) (sym same)
        ∙ from_set 0 size n value table below there
        (λ w from until other e. other (are.apart w n (omega (arith, until)) below (e ∙ ap P.place same) ∙ sym same))

-- each word in the place of its number
pub in_place_are : (size : ℕ) → ArePlaces (in_place size) size
in_place_are size = record { within = λ word below. below; apart = λ a b one other same. same }

-- there are places if there are words
pub some_places : (O : System) (P : Places) → IsSystem O → ArePlaces P O.size → 0 < P.count
some_places O P system are = let h = are.within O.turn_word system.words.turn_there in omega arith

-- what is at an index of a list
pub index_is : (xs : List ℕ) (i x : ℕ) → get_elem? xs i ≡ some x → slice_index xs i ≡ x
index_is [] i x at = absurd (some-ne-none x (sym at))
index_is (y ∷ xs) zero x at = some-injective y x at
index_is (y ∷ xs) (suc i) x at = index_is xs i x at

module _ (O : System) (P : Places) where
  -- the table's words alone
  abbrev pub placed : State (Unit {0}) (KnownOf O) → State (Unit {0}) (KnownOf O)
  placed s = record { words = words_in P O.size s.words; homes = s.homes; views = s.views }

  pub splits_placed : (count id : ℕ) (v left right : KnownOf O) → Splits (RuleOfWords O count) id v left right → Splits (Rule O P count) id v left right
  splits_placed count id v left right splits s holds at = (holds.0, splits (placed s) holds.1 at)

  pub joins_placed : (count id : ℕ) (v : KnownOf O) (other : ℕ) (w both spent : KnownOf O) → Joins (RuleOfWords O count) id v other w both spent
      → Joins (Rule O P count) id v other w both spent
  joins_placed count id v other w both spent joins s holds at apart its = (holds.0, joins (placed s) holds.1 at apart its)

  pub final_placed : (count id : ℕ) (v : KnownOf O) (words : List ℕ) (slots : List (Unit {0})) → Final (Seen (Rule O P count) id v) words slots
      → Final (Seen (RuleOfWords O count) id v) (words_in P O.size words) slots
  final_placed count id v words slots final = (placed final.0, (final.1.0.1, final.1.1), ap (words_in P O.size) final.2, final.3, final.4)

  module _ (are : ArePlaces P O.size) where
    -- what is allowed on a word is allowed on its place
    pub allows_placed : (count slots id : ℕ) (me : Me (Unit {0}) (KnownOf O)) (i : ℕ) (f : ℕ → ℕ) (then : ℕ → Me (Unit {0}) (KnownOf O) → Type 0) → i < O.size
        → Allows (RuleOfWords O count) slots id me i f then → Allows (Rule O P count) slots id me (P.place i) f then
    allows_placed count slots id me i f then below allows s holds homes at range =
        let found : slice_index (words_in P O.size s.words) i ≡ slice_index s.words (P.place i) = word_in P O.size are i s.words below in
        let one = allows (placed s) holds.1 homes at (subst (λ (n : ℕ). n < 18446744073709551616) (sym found) range) in (
          one.0,
          one.1,
          one.2,
          (
            length-set s.words (P.place i) (f (slice_index s.words (P.place i))) ∙ holds.0,
            rw (set_in P O.size are i (f (slice_index s.words (P.place i))) s.words holds.0 below) (rw (sym found) one.3),
          ),
          rw (sym found) one.4,
        )
