use Rattle.std.proofs.Common.{◌≡◌, ℕ, Bool, true, false, cond, List, [], ◌∷◌, refl, inl, inr, ◌==◌, codes, encode_utf8, flat_map, chars}
use Rattle.svg.specs.Escape.{escaped, escaped_character, is_allowed, plain_character, IsPart, IsContent, Nothing, Behind}

plain_by : (character : ℕ) (allowed : Bool) → is_allowed character ≡ allowed → (character == 38) ≡ false → (character == 60) ≡ false
    → (character == 62) ≡ false → (character == 34) ≡ false → IsPart (cond allowed (encode_utf8 character) (encode_utf8 0xfffd))
plain_by character true allowed amp lt gt quote = inr (inr (inr (inr (character, rw (allowed, amp, lt, gt, quote) refl, refl))))
plain_by character false allowed amp lt gt quote = inr (inr (inr (inr (0xfffd, refl, refl))))

part_by : (character : ℕ) (amp lt gt quote : Bool) → (character == 38) ≡ amp → (character == 60) ≡ lt → (character == 62) ≡ gt → (character == 34) ≡ quote
    → IsPart (cond amp (codes "&amp;") (cond lt (codes "&lt;") (cond gt (codes "&gt;") (cond quote (codes "&quot;") (plain_character character)))))
part_by character true lt gt quote a l g q = inl refl
part_by character false true gt quote a l g q = inr (inl refl)
part_by character false false true quote a l g q = inr (inr (inl refl))
part_by character false false false true a l g q = inr (inr (inr (inl refl)))
part_by character false false false false a l g q = plain_by character (is_allowed character) refl a l g q

-- an escaped character is a part
part_of : (character : ℕ) → IsPart (escaped_character character)
part_of character = part_by character (character == 38) (character == 60) (character == 62) (character == 34) refl refl refl refl

content_of : (characters : List ℕ) → IsContent (flat_map escaped_character characters)
content_of [] = Nothing
content_of (character ∷ characters) = Behind (escaped_character character) (flat_map escaped_character characters) (part_of character) (content_of characters)

-- an escaped text consists of parts
pub escaped_content : (text : List ℕ) → IsContent (escaped text)
escaped_content text = content_of (chars text)
