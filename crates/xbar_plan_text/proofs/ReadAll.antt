use Rattle.std.proofs.Common.{◌≡◌, ℕ, ◌+◌, ◌<◌, ◌≤◌, List, [], ◌∷◌, ◌++◌, length, take, drop, get_or, map, refl, sym, ◌∙◌, ap, Option, Some, None, option_map}
use Rattle.std.proofs.Common.{option_and_then, take_all, take-append-drop}
use Rattle.{std.proofs.lemmas.List.take_more, xbar_plan_text.specs.Texts.read_all}

-- items read one by one
snoc : {X Y : Type 0} (f : X → Option Y) (xs : List X) (ys : List Y) (x : X) (y : Y) → read_all f xs ≡ Some ys → f x ≡ Some y
    → read_all f (xs ++ x ∷ []) ≡ Some (ys ++ y ∷ [])
snoc {X} {Y} f [] ys x y before here =
    let none : [] ≡ ys = some_is [] ys before in
    ap (λ (o : Option Y). option_and_then (λ first. option_map {U = List Y} (λ others. first ∷ others) (Some [])) o) here
    ∙ ap (λ (zs : List Y). Some (zs ++ y ∷ [])) none where
      some_is : (before after : List Y) → Some before ≡ Some after → before ≡ after
      some_is before after e = cc
snoc {X} {Y} f (a ∷ xs) ys x y before here = of (f a) refl (read_all f xs) refl (λ bs others. snoc f xs bs x y others here) before where
  of : (o : Option Y) → f a ≡ o → (p : Option (List Y)) → read_all f xs ≡ p
      → ((bs : List Y) → read_all f xs ≡ Some bs → read_all f (xs ++ x ∷ []) ≡ Some (bs ++ y ∷ []))
      → option_and_then (λ first. option_map {U = List Y} (λ others. first ∷ others) p) o ≡ Some ys → read_all f ((a ∷ xs) ++ x ∷ []) ≡ Some (ys ++ y ∷ [])
  of None first p others later e = cc
  of (Some b) first None others later e = cc
  of (Some b) first (Some bs) others later e =
      let is : b ∷ bs ≡ ys = cc in
      let rest = later bs others in
      ap (λ (o : Option Y). option_and_then (λ head. option_map {U = List Y} (λ tail. head ∷ tail) (read_all f (xs ++ x ∷ []))) o) first
      ∙ ap (λ (p : Option (List Y)). option_map {U = List Y} (λ tail. b ∷ tail) p) rest ∙ ap (λ (zs : List Y). Some (zs ++ y ∷ [])) is

-- if one item cannot be read, the list cannot
fails : {X Y : Type 0} (f : X → Option Y) (xs zs : List X) (x : X) → f x ≡ None → read_all f (xs ++ x ∷ zs) ≡ None
fails {X} {Y} f [] zs x here = ap (λ (o : Option Y). option_and_then (λ first. option_map {U = List Y} (λ others. first ∷ others) (read_all f zs)) o) here
fails {X} {Y} f (a ∷ xs) zs x here =
    ap (λ (p : Option (List Y)). option_and_then (λ first. option_map {U = List Y} (λ others. first ∷ others) p) (f a)) (fails f xs zs x here)
    ∙ none (f a) where
      none : (o : Option Y) → option_and_then (λ first. option_map {U = List Y} (λ others. first ∷ others) None) o ≡ None
      none None = refl
      none (Some b) = refl

split_at : {X : Type 0} (xs : List X) (i : ℕ) (d : X) → i < length xs → take i xs ++ get_or xs i d ∷ drop (i + 1) xs ≡ xs
split_at {X} xs i d within =
    sym (joined (take i xs) (get_or xs i d ∷ []) (drop (i + 1) xs))
    ∙ ap (λ (zs : List X). zs ++ drop (i + 1) xs) (sym (take_more xs i d within))
    ∙ take-append-drop (i + 1) xs where
      joined : (zs bs cs : List X) → (zs ++ bs) ++ cs ≡ zs ++ (bs ++ cs)
      joined [] bs cs = refl
      joined (a ∷ zs) bs cs = ap (λ (all : List X). a ∷ all) (joined zs bs cs)

-- one step of a loop that reads the items
pub read_more : {X Y : Type 0} (f : X → Option Y) (xs : List X) (ys : List Y) (i : ℕ) (d : X) (y : Y) → i < length xs → read_all f (take i xs) ≡ Some ys
    → f (get_or xs i d) ≡ Some y → read_all f (take (i + 1) xs) ≡ Some (ys ++ y ∷ [])
read_more f xs ys i d y within before here = ap (read_all f) (take_more xs i d within) ∙ snoc f (take i xs) ys (get_or xs i d) y before here

pub read_fails : {X Y : Type 0} (f : X → Option Y) (xs : List X) (i : ℕ) (d : X) → i < length xs → f (get_or xs i d) ≡ None → read_all f xs ≡ None
read_fails f xs i d within here =
    ap (read_all f) (sym (split_at xs i d within)) ∙ fails f (take i xs) (drop (i + 1) xs) (get_or xs i d) here

pub read_whole : {X Y : Type 0} (f : X → Option Y) (xs : List X) (ys : List Y) (i : ℕ) → length xs ≤ i → read_all f (take i xs) ≡ Some ys
    → read_all f xs ≡ Some ys
read_whole f xs ys i past before = ap (read_all f) (sym (take_all i xs past)) ∙ before

-- reading the items that a function gives
pub read_map : {W X Y : Type 0} (f : X → Option Y) (g : W → X) (ws : List W) → read_all f (map g ws) ≡ read_all (λ w. f (g w)) ws
read_map f g [] = refl
read_map {W} {X} {Y} f g (w ∷ ws) =
    ap (λ (p : Option (List Y)). option_and_then (λ first. option_map {U = List Y} (λ others. first ∷ others) p) (f (g w))) (read_map f g ws)
