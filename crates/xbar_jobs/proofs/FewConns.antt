-- distinct connectors are at most ten line link frames, and the others
use Rattle.std.proofs.Common.{◌≡◌, ℕ, ◌+◌, ◌<◌, ◌≤◌, Bool, true, false, List, [], ◌∷◌, ◌++◌, length, map, eqb, inl, inr, refl, sym, ap, subst, arith, ◌||◌}
use Rattle.std.proofs.Common.{eqb-true}
use Rattle.std.{specs.List.{AllByRecursion, IsDistinct, list_any}, proofs.lemmas.{List.length-map, Map.Steps.length-le_from_distinct_below}}
use Rattle.{turns.specs.Among.{IsIn, AreDistinct}, xbar_equip.specs.declared.conn.Conn.{Conn, TheVariants.{Llf, Tlf, Group}}}
use Rattle.xbar_jobs.specs.{Others.{others, others_in}, Standing.{AreConns, most_held, most_others}}

-- distinct items, each at a place of its own, are no more than there are places
module _ {A : Type 0} (place : A → ℕ) where
  none_at : (items : List A) (item : A) → ((other : A) → IsIn other items → place item ≡ place other → ⊥)
      → AllByRecursion (λ n. eqb (place item) n ≡ false) (map place items)
  none_at [] item apart = tt
  none_at (first ∷ items) item apart = (by (eqb (place item) (place first)) refl, none_at items item (λ other within. apart other (inr within))) where
    by : (same : Bool) → eqb (place item) (place first) ≡ same → eqb (place item) (place first) ≡ false
    by false is = is
    by true is = absurd (apart first (inl refl) (eqb-true _ _ is))

  abbrev HaveOwnPlaces : List A → Type 0
  HaveOwnPlaces items = (one other : A) → IsIn one items → IsIn other items → place one ≡ place other → one ≡ other

  places_distinct : (items : List A) → HaveOwnPlaces items → AreDistinct items → IsDistinct eqb (map place items)
  unfolding IsDistinct
  places_distinct [] own apart = tt
  places_distinct (item ∷ items) own apart = (
    none_at items item (λ other within same. apart.0 (subst (λ (it : A). IsIn it items) (sym (own item other (inl refl) (inr within) same)) within)),
    places_distinct items (λ one other here there. own one other (inr here) (inr there)) apart.1,
  )

  places_below : (items : List A) (most n : ℕ) → ((item : A) → IsIn item items → place item < most) → list_any (eqb n) (map place items) ≡ true → n < most
  places_below [] most n below among = absurd cc
  places_below (item ∷ items) most n below among =
      by (eqb n (place item)) refl among (λ later. places_below items most n (λ other within. below other (inr within)) later) where
        by : (here : Bool) → eqb n (place item) ≡ here → (here || list_any (eqb n) (map place items)) ≡ true
            → (list_any (eqb n) (map place items) ≡ true → n < most) → n < most
        by true is found later = let here = below item (inl refl) in let same = eqb-true n (place item) is in omega (arith, here, same)
        by false is found later = later found

  pub few_distinct : (items : List A) (most : ℕ) → HaveOwnPlaces items → ((item : A) → IsIn item items → place item < most) → AreDistinct items
      → length items ≤ most
  few_distinct items most own below apart =
      let few = length-le_from_distinct_below (map place items) most (places_distinct items own apart) (λ n among. places_below items most n below among) in
      let size = length-map items place in
      omega (arith, few, size)

-- the numbers of the line link frames among some connectors
abbrev frames_in : List Conn → List ℕ
frames_in [] = []
frames_in (Llf frame ∷ conns) = frame ∷ frames_in conns
frames_in (Tlf frame ∷ conns) = frames_in conns
frames_in (Group group ∷ conns) = frames_in conns

counted : (conns : List Conn) → length conns ≡ length (frames_in conns) + others_in conns
counted [] = refl
counted (Llf frame ∷ conns) = omega (arith, counted conns)
counted (Tlf frame ∷ conns) = omega (arith, counted conns)
counted (Group group ∷ conns) = omega (arith, counted conns)

-- each of them is a connector of these
frame_there : (conns : List Conn) (frame : ℕ) → IsIn frame (frames_in conns) → IsIn (Llf frame) conns
frame_there [] frame within = absurd within
frame_there (Llf own ∷ conns) frame (inl same) = inl (ap Llf same)
frame_there (Llf own ∷ conns) frame (inr within) = inr (frame_there conns frame within)
frame_there (Tlf own ∷ conns) frame within = inr (frame_there conns frame within)
frame_there (Group own ∷ conns) frame within = inr (frame_there conns frame within)

frames_distinct : (conns : List Conn) → AreDistinct conns → AreDistinct (frames_in conns)
frames_distinct [] apart = tt
frames_distinct (Llf frame ∷ conns) apart = ((λ within. apart.0 (frame_there conns frame within)), frames_distinct conns apart.1)
frames_distinct (Tlf frame ∷ conns) apart = frames_distinct conns apart.1
frames_distinct (Group group ∷ conns) apart = frames_distinct conns apart.1

-- so there are few if the others are few
pub few_conns : (conns : List Conn) → AreConns conns → AreDistinct conns
    → others_in conns ≤ most_others → length conns ≤ most_held
few_conns conns are apart few =
    let frames : length (frames_in conns) ≤ 10 =
    few_distinct (λ frame. frame) (frames_in conns) 10 (λ one other here there same. same) (λ frame within. are (Llf frame) (frame_there conns frame within))
    (frames_distinct conns apart) in
    omega (arith, frames, counted conns, few)

-- one more at the end
pub others_with : (conns : List Conn) (last : Conn)
    → others_in (conns ++ last ∷ []) ≡ others_in conns + others last
others_with [] last = omega arith
others_with (conn ∷ conns) last = omega (arith, others_with conns last)
