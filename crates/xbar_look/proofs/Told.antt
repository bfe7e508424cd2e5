-- values told one by one, with commas between them
use Rattle.std.proofs.Common.{◌≡◌, ℕ, ◌+◌, Bool, true, false, List, [], ◌∷◌, ◌++◌, ◌≤◌, append_assoc, append-nil, length, map, take, refl, sym, ◌∙◌, ap, subst}
use Rattle.std.proofs.Common.{arith, ◌||◌, Some, codes, filter, slice_get, if◌then◌else◌, take_all}
use Rattle.std.{specs.List.range_with_len, proofs.lemmas.{Grind.common_steps, List.{map-append, take_more, Elements.filter-append}}}
use Rattle.{std.proofs.lemmas.Option.{get_or_from_slice_get, slice_get_within}, xbar_equip.proofs.Logic.{or_true, or_false}, xbar_json.specs.Json.listed}
use Rattle.xbar_step_text.proofs.Listed.{next_number}

-- whether there are any values
abbrev pub has_any : List (List ℕ) → Bool
has_any [] = false
has_any (value ∷ values) = true

-- the invariant of a loop that tells values: these are told, after the text that was there first
pub record AreTold (values : List (List ℕ)) (first now : List ℕ) (any : Bool) : Type 0 where
  pub any_is : any ≡ has_any values
  pub text_is : now ≡ first ++ listed values

pub none_told : (first : List ℕ) → AreTold [] first first false
unfolding listed
none_told first = record { any_is = refl; text_is = sym (append-nil first) }

-- one value more, if a test passes
abbrev pub one_if : {A : Type 0} → Bool → A → List A
one_if passes value = if passes then value ∷ [] else []

listed_more : (values : List (List ℕ)) (value : List ℕ) → listed (values ++ value ∷ []) ≡ listed values ++ (if has_any values then codes "," else []) ++ value
unfolding listed
listed_more [] value = grind (arith, common_steps)
listed_more (first ∷ values) value = grind (arith, common_steps)

any_more : (values : List (List ℕ)) (value : List ℕ) → has_any (values ++ value ∷ []) ≡ true
any_more [] value = refl
any_more (first ∷ values) value = refl

module _ (values : List (List ℕ)) (first now : List ℕ) (any : Bool) (so_far : AreTold values first now any) (value next : List ℕ) (some : Bool) where
  pub one_told : (passes : Bool) → some ≡ (any || passes) → next ≡ now ++ (if passes then (if any then codes "," else []) ++ value else [])
      → AreTold (values ++ one_if passes value) first next some
  one_told true is adds = record {
    any_is = is ∙ or_true any ∙ sym (any_more values value);
    text_is =
        adds
        ∙ ap (λ (text : List ℕ). text ++ ((if any then codes "," else []) ++ value)) so_far.text_is
        ∙ append_assoc first (listed values) ((if any then codes "," else []) ++ value)
        ∙ ap (λ (b : Bool). first ++ (listed values ++ ((if b then codes "," else []) ++ value))) so_far.any_is
        ∙ ap (λ (text : List ℕ). first ++ text) (sym (append_assoc (listed values) (if has_any values then codes "," else []) value))
        ∙ ap (λ (text : List ℕ). first ++ text) (sym (listed_more values value));
  }
  one_told false is adds = record {
    any_is = is ∙ or_false any ∙ so_far.any_is ∙ ap has_any (sym (append-nil values));
    text_is = adds ∙ append-nil now ∙ so_far.text_is ∙ ap (λ (all : List (List ℕ)). first ++ listed all) (sym (append-nil values));
  }

-- the values of the items that pass a test, with one item more
pub picked_more : {A : Type 0} (passes : A → Bool) (of : A → List ℕ) (items : List A) (item : A)
    → map of (filter passes (items ++ item ∷ [])) ≡ map of (filter passes items) ++ one_if (passes item) (of item)
picked_more passes of items item =
    ap (map of) (filter-append passes items (item ∷ []))
    ∙ map-append of (filter passes items) (filter passes (item ∷ []))
    ∙ ap (λ (rest : List (List ℕ)). map of (filter passes items) ++ rest) (one (passes item)) where
      one : (b : Bool) → map of (if b then item ∷ [] else []) ≡ one_if b (of item)
      one true = refl
      one false = refl

-- the values of the items of a list that pass a test, as far as they are told
module _ {A : Type 0} (passes : A → Bool) (of : A → List ℕ) (items : List A) where
  abbrev pub told_to : ℕ → List (List ℕ)
  told_to n = map of (filter passes (take n items))

  module _ (n : ℕ) (first now : List ℕ) (any : Bool) (so_far : AreTold (told_to n) first now any) where
    pub next_item : (item : A) (next : List ℕ) (some : Bool) → slice_get items n ≡ Some item → some ≡ (any || passes item)
        → next ≡ now ++ (if passes item then (if any then codes "," else []) ++ of item else []) → AreTold (told_to (n + 1)) first next some
    next_item item next some found is adds =
        let more : take (n + 1) items ≡ take n items ++ item ∷ [] =
        take_more items n item (slice_get_within items n item found)
        ∙ ap (λ (last : A). take n items ++ last ∷ []) (get_or_from_slice_get items n item item found) in
        subst (λ (values : List (List ℕ)). AreTold values first next some)
        (sym (ap (λ (all : List A). map of (filter passes all)) more ∙ picked_more passes of (take n items) item))
        (one_told (told_to n) first now any so_far (of item) next some (passes item) is adds)

    pub all_items : length items ≤ n → now ≡ first ++ listed (map of (filter passes items))
    all_items all = so_far.text_is ∙ ap (λ (told : List A). first ++ listed (map of (filter passes told))) (take_all n items all)

-- the values of the numbers below n that pass a test
module _ (passes : ℕ → Bool) (of : ℕ → List ℕ) where
  abbrev pub told_below : ℕ → List (List ℕ)
  told_below n = map of (filter passes (range_with_len 0 n))

  module _ (n : ℕ) (first now : List ℕ) (any : Bool) (so_far : AreTold (told_below n) first now any) where
    pub next_told : (next : List ℕ) (some : Bool) → some ≡ (any || passes n) → next ≡ now ++ (if passes n then (if any then codes "," else []) ++ of n else [])
        → AreTold (told_below (n + 1)) first next some
    next_told next some is adds =
        subst (λ (values : List (List ℕ)). AreTold values first next some)
        (sym (ap (λ (numbers : List ℕ). map of (filter passes numbers)) (next_number n) ∙ picked_more passes of (range_with_len 0 n) n))
        (one_told (told_below n) first now any so_far (of n) next some (passes n) is adds)

    pub all_told : (count : ℕ) → n ≡ count → now ≡ first ++ listed (told_below count)
    all_told count all = so_far.text_is ∙ ap (λ (k : ℕ). first ++ listed (told_below k)) all
