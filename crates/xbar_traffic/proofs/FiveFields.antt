use Rattle.std.proofs.Common.{◌≡◌, ◌<◌, ℕ, List, [], ◌∷◌, length, get_or, refl, sym, ap, ◌∙◌, arith, Option, Some, None, IsSome, option_map}
use Rattle.csv.{specs.Records.field_at, proofs.RecordFacts.{field-get, field-there}}

-- a list of five is its items, in their order
pub list_of_five : {A : Type 0} (xs : List A) (d : A) → length xs ≡ 5
    → xs ≡ get_or xs 0 d ∷ get_or xs 1 d ∷ get_or xs 2 d ∷ get_or xs 3 d ∷ get_or xs 4 d ∷ []
list_of_five [] d e = absurd (omega arith)
list_of_five (a ∷ []) d e = absurd (omega arith)
list_of_five (a ∷ b ∷ []) d e = absurd (omega arith)
list_of_five (a ∷ b ∷ c ∷ []) d e = absurd (omega arith)
list_of_five (a ∷ b ∷ c ∷ f ∷ []) d e = absurd (omega arith)
list_of_five (a ∷ b ∷ c ∷ f ∷ g ∷ []) d e = refl
list_of_five (a ∷ b ∷ c ∷ f ∷ g ∷ h ∷ xs) d e = absurd (omega arith)

-- a field below the number of fields is there
pub field_is_there : {A : Type 0} (now : A → List ℕ) (fields : List (List ℕ)) (i : ℕ) (found : Option A) → i < length fields
    → option_map now found ≡ field_at fields i → IsSome found
field_is_there now fields i None below e = absurd (field-there fields i below (sym e))
field_is_there now fields i (Some x) below e = refl

-- what was found at a place is the field there
pub field_found : {A : Type 0} (now : A → List ℕ) (fields : List (List ℕ)) (i : ℕ) (found : Option A) (x : A)
    → option_map now found ≡ field_at fields i → found ≡ Some x → now x ≡ get_or fields i []
field_found now fields i found x e same = sym (field-get fields i (now x) (sym e ∙ ap (option_map now) same))
