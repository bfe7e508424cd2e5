use Rattle.std.specs.Prelude.{◌≡◌, ◌⊎◌, ◌==◌, ◌&&◌, ℕ, nat_le, not, true, Bool, List, [], ◌++◌, codes, encode_utf8, flat_map, if◌then◌else◌}
use Rattle.std.specs.Str.{chars}

-- whether XML has the character and it is no C0 control character
abbrev pub is_allowed : ℕ → Bool
is_allowed character = nat_le 32 character && not (character == 0xfffe) && not (character == 0xffff)

-- a character that needs no entity: itself if it is allowed, else U+FFFD
abbrev pub plain_character : ℕ → List ℕ
plain_character character =
    if is_allowed character then encode_utf8 character else encode_utf8 0xfffd

-- an escaped character: an entity for each of & < > and the quote, U+FFFD for a character that
-- isn't allowed, any other itself
abbrev pub escaped_character : ℕ → List ℕ
escaped_character character =
    if character == 38 then codes "&amp;" else
    (if character == 60 then codes "&lt;" else
    (if character == 62 then codes "&gt;" else
    (if character == 34 then codes "&quot;" else plain_character character)))

-- an escaped text, character by character
abbrev pub escaped : List ℕ → List ℕ
escaped text = flat_map escaped_character (chars text)

-- whether a character isn't changed: it is allowed, and it is none of & < > and the quote
abbrev pub is_plain : ℕ → Bool
is_plain character =
    is_allowed character && not (character == 38) && not (character == 60) && not (character == 62)
    && not (character == 34)

-- a part in which no markup begins or ends: one of four entities, or a plain character
abbrev pub IsPart : List ℕ → Type 0
IsPart part =
    (part ≡ codes "&amp;") ⊎ (part ≡ codes "&lt;") ⊎ (part ≡ codes "&gt;") ⊎ (part ≡ codes "&quot;")
    ⊎ ((character : ℕ) × (is_plain character ≡ true) × (part ≡ encode_utf8 character))

-- a text that consists of parts in which no markup begins or ends
pub data IsContent : List ℕ → Type 0 where
  Nothing : IsContent []
  Behind : (part rest : List ℕ) → IsPart part → IsContent rest → IsContent (part ++ rest)
