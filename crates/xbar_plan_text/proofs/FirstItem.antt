use Rattle.std.proofs.Common.{◌≡◌, ℕ, zero, suc, ◌+◌, ◌<◌, Bool, true, false, cond, List, [], ◌∷◌, ◌++◌, length, map, get_or, take, refl, sym, ◌∙◌, ap, subst}
use Rattle.std.proofs.Common.{arith, Bor, Option, Some, None, is_none, option_map, option_and_then, slice_get, position, nat_lt, lt-ltb, le-ltb, get_or-take}
use Rattle.std.proofs.Common.{length-take-le}
use Rattle.std.proofs.lemmas.{List.{length-map, Sums.position_or_len_is}, Option.{slice_get-map, slice_get-get_or, get_or_from_slice_get}}
use Rattle.xbar_plan.specs.{Tables.first_with, declared.table_fault.PlanList.PlanList}
use Rattle.xbar_plan_text.specs.{Texts.read_all, Refusal.{Item, item_at, first_unread, IsMalformed, IsUnread}, declared.read.item_error.ItemError.ItemError}
use Rattle.xbar_plan_text.{specs.declared.refusal.PlanRefusal.PlanRefusal, proofs.ReadAll.read_more}
use Rattle.xbar_plan_text.specs.declared.read.item_error.ItemError.TheVariants as error
use Rattle.xbar_plan_text.specs.declared.refusal.PlanRefusal.TheVariants as refusal

-- the bytes that the parts refer to
abbrev pub bytes_of : List (Bor (List ℕ)) → List (List ℕ)
bytes_of parts = map (λ text. text.now) parts

-- an item of a list of references, as the text that it points to
pub item_text : (texts : List (Bor (List ℕ))) (i : ℕ) (d : Bor (List ℕ)) → i < length texts → get_or (bytes_of texts) i [] ≡ (get_or texts i d).now
item_text texts i d within =
    let now : Bor (List ℕ) → List ℕ = λ text. text.now in
    get_or_from_slice_get (map now texts) i (get_or texts i d).now [] (slice_get-map now texts i ∙ ap (option_map now) (slice_get-get_or texts i d within))

-- if no item before passes a test, the first item that passes it is this one
first_at : {X : Type 0} (p : X → Bool) (xs : List X) (i : ℕ) (d : X) → i < length xs → ((k : ℕ) → k < i → p (get_or xs k d) ≡ false) → p (get_or xs i d) ≡ true
    → first_with p xs ≡ Some (i, get_or xs i d)
first_at {X} p xs i d within before here =
    let place = position_or_len_is p xs i d (omega arith) before (λ _. here) in
    let found : position p xs ≡ Some i =
    ap (λ (n : ℕ). cond (nat_lt n (length xs)) (Some n) None) place ∙ ap (λ (b : Bool). cond b (Some i) None) (lt-ltb i (length xs) within) in
    ap (λ (o : Option ℕ). option_and_then (λ number. option_map (λ item. (number, item)) (slice_get xs number)) o) found
    ∙ ap (λ (o : Option X). option_map {U = ℕ × X} (λ item. (i, item)) o) (slice_get-get_or xs i d within)

first_none : {X : Type 0} (p : X → Bool) (xs : List X) (d : X) → ((k : ℕ) → k < length xs → p (get_or xs k d) ≡ false) → first_with p xs ≡ None
first_none {X} p xs d none =
    let place = position_or_len_is p xs (length xs) d (omega arith) none (λ past. absurd (omega (arith, past))) in
    let found : position p xs ≡ None =
    ap (λ (n : ℕ). cond (nat_lt n (length xs)) (Some n) None) place
    ∙ ap (λ (b : Bool). cond b (Some (length xs)) None) (le-ltb (length xs) (length xs) (omega arith)) in
    ap (λ (o : Option ℕ). option_and_then (λ number. option_map (λ item. (number, item)) (slice_get xs number)) o) found

-- if a list is read, each of its items is
each_read : {X Y : Type 0} (f : X → Option Y) (xs : List X) (ys : List Y) (d : X) → read_all f xs ≡ Some ys → (k : ℕ) → k < length xs
    → is_none (f (get_or xs k d)) ≡ false
each_read f [] ys d read k below = absurd (omega (arith, below))
each_read {X} {Y} f (x ∷ xs) ys d read k below = of (f x) refl (read_all f xs) refl (λ rest others j. each_read f xs rest d others j) read k below where
  of : (o : Option Y) → f x ≡ o → (p : Option (List Y)) → read_all f xs ≡ p
      → ((rest : List Y) → read_all f xs ≡ Some rest → (j : ℕ) → j < length xs → is_none (f (get_or xs j d)) ≡ false)
      → option_and_then (λ first. option_map {U = List Y} (λ others. first ∷ others) p) o ≡ Some ys → (j : ℕ) → j < length (x ∷ xs)
      → is_none (f (get_or (x ∷ xs) j d)) ≡ false
  of None first p others later e j within = cc
  of (Some y) first None others later e j within = cc
  of (Some y) first (Some rest) others later e zero within = ap is_none first
  of (Some y) first (Some rest) others later e (suc j) within = later rest others j (omega (arith, within))

module _ {A : Type 0} (list : PlanList) (f : List ℕ → Option A) (texts : List (List ℕ)) where
  -- all items of a list are read
  pub all_read : (items : List A) → read_all f texts ≡ Some items → first_unread list f texts ≡ None
  all_read items read =
      ap (λ (o : Option (ℕ × List ℕ)). option_map {U = Item} (item_at list) o) (first_none (λ text. is_none (f text)) texts [] (each_read f texts items [] read))

  -- an item is found that can't be read
  pub not_all_read : (item : Item) → first_unread list f texts ≡ Some item → read_all f texts ≡ None
  not_all_read item found = of (read_all f texts) refl where
    of : (o : Option (List A)) → read_all f texts ≡ o → o ≡ None
    of None e = refl
    of (Some items) e = let no : None ≡ Some item = sym (all_read items e) ∙ found in cc

  -- an item can't be read, and those before it are
  pub unread_at : (i : ℕ) (items : List A) → i < length texts → read_all f (take i texts) ≡ Some items → f (get_or texts i []) ≡ None
      → first_unread list f texts ≡ Some (record { list = list; index = i; text = get_or texts i [] })
  unread_at i items within before here =
      let size = length-take-le i texts (omega (arith, within)) in
      ap (λ (o : Option (ℕ × List ℕ)). option_map {U = Item} (item_at list) o)
      (first_at (λ text. is_none (f text)) texts i [] within
      (λ k below. ap (λ (text : List ℕ). is_none (f text)) (sym (get_or-take i texts k [] below))
      ∙ each_read f (take i texts) items [] before k (omega (arith, size, below))) (ap is_none here))

module _ {A : Type 0} (list : PlanList) (f : List ℕ → Option A) (texts : List (Bor (List ℕ))) (i : ℕ) (d : Bor (List ℕ)) (items : List A)
    (within : i < length texts) (before : read_all f (take i (bytes_of texts)) ≡ Some items) where
  there : i < length (bytes_of texts)
  there = let size = length-map texts (λ (text : Bor (List ℕ)). text.now) in omega (arith, size, within)

  -- one more item is read
  pub one_more : (item : A) → f (get_or texts i d).now ≡ Some item → read_all f (take (i + 1) (bytes_of texts)) ≡ Some (items ++ item ∷ [])
  one_more item here = read_more f (bytes_of texts) items i [] item there before (ap f (item_text texts i d within) ∙ here)

  module _ (told : PlanRefusal) (here : IsMalformed (Some (record { list = list; index = i; text = (get_or texts i d).now })) told) where
    -- a list is refused for the first item that can't be read
    pub refused_here : f (get_or texts i d).now ≡ None → IsMalformed (first_unread list f (bytes_of texts)) told
    refused_here none =
        let text = item_text texts i d within in
        let is = unread_at list f (bytes_of texts) i items there before (ap f text ∙ none)
        ∙ ap (λ (own : List ℕ). Some (record { list = list; index = i; text = own })) text in
        subst (λ (own : Option Item). IsMalformed own told) (sym is) here

    pub refused : (wrong : ItemError) → IsUnread (f (get_or texts i d).now) wrong → (wrong ≡ error.Memory → told ≡ refusal.Memory)
        → IsMalformed (first_unread list f (bytes_of texts)) told
    refused (error.Part number expected) none memory = refused_here none
    refused (error.Whole expected) none memory = refused_here none
    refused error.Memory none memory = subst (λ (own : PlanRefusal). IsMalformed (first_unread list f (bytes_of texts)) own) (sym (memory refl)) tt
