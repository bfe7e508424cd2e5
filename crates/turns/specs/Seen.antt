use Rattle.std.specs.Prelude.{◌≡◌, ℕ, ◌<◌, ◌^◌, List, map, slice_index}
use Rattle.turns.specs.Among.{IsIn}
use Rattle.turns.specs.declared.reading.Reading.{Reading}

-- what an attempt has seen: the locks that it holds, in the order of seizing, and its read set, in
-- the order of reading
pub record Seen (Lock : Type 0) : Type 0 where
  pub held : List Lock
  pub readings : List (Reading ℕ)

-- each reading is what its word has
abbrev pub AreReadFrom : List ℕ → List (Reading ℕ) → Type 0
AreReadFrom words readings = (r : Reading ℕ) → IsIn r readings → slice_index words r.word ≡ r.value

-- each value that was read fits 64 bits
abbrev pub AreReadWords : List (Reading ℕ) → Type 0
AreReadWords readings = (r : Reading ℕ) → IsIn r readings → r.value < 2 ^ 64

-- the readings with each value taken through `change`
abbrev pub changed_readings : (ℕ → ℕ → ℕ) → List (Reading ℕ) → List (Reading ℕ)
changed_readings change readings =
    map (λ r. record { word = r.word; value = change r.word r.value }) readings
