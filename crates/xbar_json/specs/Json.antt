use Rattle.std.specs.Prelude.{ℕ, Option, None, Some, List, [], ◌∷◌, ◌++◌, codes, flat_map}
use Rattle.std.specs.List.{concat}

-- a text as a JSON string. No text of the office has a character that JSON escapes
abbrev pub quoted : List ℕ → List ℕ
quoted text = concat (codes "\"" ∷ text ∷ codes "\"" ∷ [])

-- a value, or null
abbrev pub value_or_null : Option (List ℕ) → List ℕ
value_or_null None = codes "null"
value_or_null (Some value) = value

-- values with commas between them
unfoldable pub listed : List (List ℕ) → List ℕ
listed [] = []
listed (value ∷ values) = value ++ flat_map (λ other. codes "," ++ other) values

-- values as an array
abbrev pub array : List (List ℕ) → List ℕ
array values = concat (codes "[" ∷ listed values ∷ codes "]" ∷ [])
