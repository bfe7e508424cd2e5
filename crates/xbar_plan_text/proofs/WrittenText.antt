use Rattle.std.proofs.Common.{◌≡◌, ◌≤◌, ℕ, true, List, [], ◌∷◌, length, take, map, String, Global, Ordering, Less, Equal, Greater, string_bytes, refl, ◌∙◌, ap}
use Rattle.std.proofs.Common.{arith, take_all, IsUtf8, is_lt, string_cmp}
use Rattle.std.{proofs.lemmas.Str.IsUtf8-string_bytes, specs.{Ordering.match_ordering, BTreeMap.insert_entry}}
use Rattle.toml.specs.{Data.{Data, string, array, Items, member, is_before, items_depth, members_depth}, View.{view, items_of, items_view, members_view}}
use Rattle.{toml.specs.declared.value.Value.Value, xbar_plan.specs.Tables.Tables}
use Rattle.{xbar_plan_text.specs.Written.{array_of, document_in_version_2, group_text, station_text, route_text}, xbar_equip.specs.Link.link_text}

abbrev Entry : Type 0
Entry = String Global × Value

put_at : (o : Ordering) (k : String Global) (v : Value) (e : Entry) (es others : List Entry) → is_lt o ≡ true
    → members_view (match_ordering o ((k, v) ∷ e ∷ es) ((e.0, v) ∷ es) others) ≡ member (string_bytes k) (view v) (members_view (e ∷ es))
put_at Less k v e es others before = refl
put_at Equal k v e es others before = cc
put_at Greater k v e es others before = cc

-- a value inserted under a key before all others comes first
pub put_before : (es : List Entry) (k : String Global) (name : List ℕ) (v : Value) → string_bytes k ≡ name → is_before name (members_view es) ≡ true
    → members_view (insert_entry string_cmp es k v) ≡ member name (view v) (members_view es)
put_before [] k name v same before = ap (λ (n : List ℕ). member n (view v) (members_view [])) same
put_before (e ∷ es) k name v same before =
    put_at (string_cmp k e.0) k v e es (e ∷ insert_entry string_cmp es k v) (rw same before)
    ∙ ap (λ (n : List ℕ). member n (view v) (members_view (e ∷ es))) same

-- an array of values with these texts
pub array_seen : {A : Type 0} (f : A → List ℕ) (vs : List Value) (xs : List A) → map view vs ≡ map (λ x. string (f x)) xs
    → items_view vs ≡ items_of (map (λ text. string text) (map f xs))
array_seen {A} f vs xs seen = ap items_of (seen ∙ both xs) where
  both : (ys : List A) → map (λ y. string (f y)) ys ≡ map (λ text. string text) (map f ys)
  both [] = refl
  both (y ∷ ys) = ap (λ (ds : List Data). string (f y) ∷ ds) (both ys)

-- an array of values with the texts of all items
pub array_listed : {A : Type 0} (f : A → List ℕ) (vs : List Value) (xs : List A) (i : ℕ) → length xs ≤ i → map view vs ≡ map (λ x. string (f x)) (take i xs)
    → array (items_view vs) ≡ array_of (map f xs)
array_listed {A} f vs xs i past seen =
    ap (λ (ds : Items). array ds) (array_seen f vs xs (seen ∙ ap (λ (ys : List A). map (λ x. string (f x)) ys) (take_all i xs past)))

flat : (texts : List (List ℕ)) → items_depth (items_of (map (λ text. string text) texts)) ≡ 0
flat [] = refl
flat (text ∷ texts) = rw (flat texts)

-- a plan's document has arrays that contain only strings
pub document_is_shallow : (plan : Tables) → members_depth (document_in_version_2 plan) ≤ 80
document_is_shallow plan =
    rw (
      flat (map (route_text plan.groups) plan.routes),
      flat (map link_text plan.faults),
      flat (map group_text plan.groups),
      flat (map station_text plan.stations),
    ) (omega arith)

-- the bytes of a string are UTF-8
pub bytes_are_text : (s : String Global) → IsUtf8 (string_bytes s)
bytes_are_text = IsUtf8-string_bytes
