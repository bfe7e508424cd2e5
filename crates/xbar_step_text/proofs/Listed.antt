-- texts listed one by one
use Rattle.std.proofs.Common.{◌≡◌, ℕ, zero, suc, ◌+◌, Bool, true, false, List, [], ◌∷◌, ◌++◌, append_assoc, append-nil, refl, sym, ◌∙◌, ap, arith, ◌||◌, codes}
use Rattle.std.proofs.Common.{filter, map, if◌then◌else◌}
use Rattle.{std.{specs.List.range_with_len, proofs.lemmas.Grind.common_steps}, xbar_equip.proofs.Logic.{or_true, or_false}}
use Rattle.xbar_json.specs.Json.{listed as listed_values}
use Rattle.xbar_step_text.specs.{Shown.{has_any, is_shown, item_at, listed, positions, shown, shown_at, shown_to}, declared.place.Place.Place}

-- one number more
range_more : (a n : ℕ) → range_with_len a (suc n) ≡ range_with_len a n ++ (a + n) ∷ []
range_more a zero = ap (λ (k : ℕ). k ∷ []) (omega arith)
range_more a (suc n) =
    let next : a + 1 + n ≡ a + suc n = omega arith in
    ap (λ (rest : List ℕ). a ∷ rest) (range_more (a + 1) n ∙ ap (λ (k : ℕ). range_with_len (a + 1) n ++ k ∷ []) next)

pub next_number : (n : ℕ) → range_with_len 0 (n + 1) ≡ range_with_len 0 n ++ n ∷ []
next_number n =
    let more : n + 1 ≡ suc n = omega arith in
    let same : 0 + n ≡ n = omega arith in
    ap (range_with_len 0) more ∙ range_more 0 n ∙ ap (λ (k : ℕ). range_with_len 0 n ++ k ∷ []) same

module _ {A : Type 0} (test : ℕ → Bool) (of : ℕ → A) where
  abbrev pub picked : ℕ → List A
  picked n = map of (filter test (range_with_len 0 n))

  picked_more : (n : ℕ) → picked (n + 1) ≡ picked n ++ map of (filter test (n ∷ []))
  picked_more n = ap (λ (all : List ℕ). map of (filter test all)) (next_number n) ∙ grind (arith, common_steps)

  pub one_picked : (n : ℕ) → test n ≡ true → picked (n + 1) ≡ picked n ++ of n ∷ []
  one_picked n holds = picked_more n ∙ ap (λ (b : Bool). picked n ++ map of (if b then n ∷ [] else [])) holds

  pub none_picked : (n : ℕ) → test n ≡ false → picked (n + 1) ≡ picked n
  none_picked n fails = picked_more n ∙ ap (λ (b : Bool). picked n ++ map of (if b then n ∷ [] else [])) fails ∙ append-nil (picked n)

any_behind : (texts : List (List ℕ)) (text : List ℕ) → has_any (texts ++ text ∷ []) ≡ true
any_behind [] text = refl
any_behind (first ∷ texts) text = refl

none_without : (texts : List (List ℕ)) → has_any texts ≡ false → texts ≡ []
none_without [] e = refl
none_without (text ∷ texts) e = absurd cc

-- one more text comes after the head, or after a separator
listed_more : (head separator : List ℕ) (texts : List (List ℕ)) (text : List ℕ)
    → listed [] head separator (texts ++ text ∷ []) ≡ listed [] head separator texts ++ (if has_any texts then separator else head) ++ text
unfolding listed
listed_more head separator [] text = grind (arith, common_steps)
listed_more head separator (first ∷ texts) text = grind (arith, common_steps)

-- the text for an empty list counts only if the list is empty
listed_any : (none head separator : List ℕ) (texts : List (List ℕ)) → has_any texts ≡ true → listed none head separator texts ≡ listed [] head separator texts
unfolding listed
listed_any none head separator [] e = absurd cc
listed_any none head separator (text ∷ texts) e = refl

-- the invariant of listing the texts of the positions that pass a test
pub record IsListed (test : ℕ → Bool) (of : ℕ → List ℕ) (n : ℕ) (head separator first now : List ℕ) (any : Bool) : Type 0 where
  pub any_is : any ≡ has_any (picked test of n)
  pub text_is : now ≡ first ++ listed [] head separator (picked test of n)

module _ (test : ℕ → Bool) (of : ℕ → List ℕ) (head separator first now : List ℕ) (any : Bool) where
  pub begins_list : any ≡ false → now ≡ first → IsListed test of 0 head separator first now any
  unfolding listed
  begins_list none same = record { any_is = none; text_is = same ∙ sym (append-nil first) }

  module _ (n : ℕ) (so_far : IsListed test of n head separator first now any) where
    passes : (next : List ℕ) (some : Bool) → test n ≡ false → some ≡ any → next ≡ now → IsListed test of (n + 1) head separator first next some
    passes next some fails stays same =
        let none = none_picked test of n fails in
        record {
          any_is = stays ∙ so_far.any_is ∙ ap has_any (sym none);
          text_is = same ∙ so_far.text_is ∙ ap (λ (texts : List (List ℕ)). first ++ listed [] head separator texts) (sym none);
        }

    adds_one : (next : List ℕ) (some : Bool) → test n ≡ true → some ≡ true → next ≡ now ++ ((if any then separator else head) ++ of n)
        → IsListed test of (n + 1) head separator first next some
    adds_one next some holds is adds =
        let item = of n in
        let texts = picked test of n in
        let so_long = listed [] head separator texts in
        let more = one_picked test of n holds in
        record {
          any_is = is ∙ sym (ap has_any more ∙ any_behind texts item);
          text_is =
              adds ∙ ap (λ (text : List ℕ). text ++ ((if any then separator else head) ++ item)) so_far.text_is
              ∙ append_assoc first so_long ((if any then separator else head) ++ item)
              ∙ ap (λ (b : Bool). first ++ (so_long ++ ((if b then separator else head) ++ item))) so_far.any_is
              ∙ ap (λ (text : List ℕ). first ++ text) (sym (append_assoc so_long (if has_any texts then separator else head) item))
              ∙ ap (λ (text : List ℕ). first ++ text) (sym (listed_more head separator texts item))
              ∙ ap (λ (all : List (List ℕ)). first ++ listed [] head separator all) (sym more);
        }

    -- one position more
    pub one_listed : (next : List ℕ) (some : Bool) → some ≡ (any || test n) → next ≡ now ++ (if test n then (if any then separator else head) ++ of n else [])
        → IsListed test of (n + 1) head separator first next some
    one_listed next some is adds = by (test n) refl where
      by : (b : Bool) → test n ≡ b → IsListed test of (n + 1) head separator first next some
      by true shows =
          adds_one next some shows (is ∙ ap (λ (b : Bool). any || b) shows ∙ or_true any)
          (adds ∙ ap (λ (b : Bool). now ++ (if b then (if any then separator else head) ++ of n else [])) shows)
      by false shows =
          passes next some shows (is ∙ ap (λ (b : Bool). any || b) shows ∙ or_false any)
          (adds ∙ ap (λ (b : Bool). now ++ (if b then (if any then separator else head) ++ of n else [])) shows ∙ append-nil now)

    pub ends_list : (count : ℕ) → n ≡ count → (any ≡ has_any (picked test of count)) × (now ≡ first ++ listed [] head separator (picked test of count))
    ends_list count all = (
      so_far.any_is ∙ ap (λ (k : ℕ). has_any (picked test of k)) all,
      so_far.text_is ∙ ap (λ (k : ℕ). first ++ listed [] head separator (picked test of k)) all,
    )

-- the items that a word shows are listed so
module _ (place : Place) (word : ℕ) (head separator first now : List ℕ) (any : Bool) (n : ℕ) where
  abbrev pub IsShownTo : Type 0
  IsShownTo = IsListed (is_shown place word) (item_at place word) n head separator first now any

  pub next_shown : IsShownTo → (next : List ℕ) (some : Bool) → some ≡ (any || is_shown place word n)
      → next ≡ now ++ shown_at place word n (if any then separator else head)
      → IsListed (is_shown place word) (item_at place word) (n + 1) head separator first next some
  unfolding shown_at
  next_shown so_far = one_listed (is_shown place word) (item_at place word) head separator first now any n so_far

  pub all_shown : IsShownTo → n ≡ positions place → (any ≡ has_any (shown place word)) × (now ≡ first ++ listed [] head separator (shown place word))
  unfolding shown_to
  all_shown so_far all = ends_list (is_shown place word) (item_at place word) head separator first now any n so_far (positions place) all

-- values of an array are listed so too
array_listed : (values : List (List ℕ)) → listed [] [] (codes ",") values ≡ listed_values values
unfolding listed listed_values
array_listed [] = refl
array_listed (value ∷ values) = refl

pub all_values : (test : ℕ → Bool) (of : ℕ → List ℕ) (first now : List ℕ) (any : Bool) (n count : ℕ) → IsListed test of n [] (codes ",") first now any
    → n ≡ count → now ≡ first ++ listed_values (picked test of count)
all_values test of first now any n count so_far all =
    (ends_list test of [] (codes ",") first now any n so_far count all).1 ∙ ap (λ (text : List ℕ). first ++ text) (array_listed (picked test of count))

-- what was listed is all, if there is any
module _ (none head separator first now : List ℕ) (texts : List (List ℕ)) (all : now ≡ first ++ listed [] head separator texts) where
  pub ends_with_some : true ≡ has_any texts → now ≡ first ++ listed none head separator texts
  ends_with_some is = all ∙ ap (λ (text : List ℕ). first ++ text) (sym (listed_any none head separator texts (sym is)))

  -- else the text for an empty list is added
  pub ends_with_none : (next : List ℕ) → false ≡ has_any texts → next ≡ now ++ none → next ≡ first ++ listed none head separator texts
  unfolding listed
  ends_with_none next is adds =
      let empty = none_without texts (sym is) in
      adds
      ∙ ap (λ (text : List ℕ). text ++ none) (all ∙ ap (λ (these : List (List ℕ)). first ++ listed [] head separator these) empty ∙ append-nil first)
      ∙ ap (λ (these : List (List ℕ)). first ++ listed none head separator these) (sym empty)

-- texts after others
pub listed_on : (head separator : List ℕ) (texts more : List (List ℕ))
    → listed [] head separator (texts ++ more) ≡ listed [] head separator texts ++ listed [] (if has_any texts then separator else head) separator more
unfolding listed
listed_on head separator [] more = refl
listed_on head separator (text ∷ texts) [] = grind (arith, common_steps)
listed_on head separator (text ∷ texts) (next ∷ more) = grind (arith, common_steps)

pub any_on : (texts more : List (List ℕ)) → has_any (texts ++ more) ≡ (has_any texts || has_any more)
any_on [] more = refl
any_on (text ∷ texts) more = refl
