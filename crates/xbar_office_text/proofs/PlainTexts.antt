-- Texts of numbers, paths, links and members have no line feed.
use Rattle.std.proofs.Common.{◌≡◌, ℕ, zero, suc, ◌+◌, ◌/◌, ◌%◌, ◌≤◌, Bool, true, false, cond, List, [], ◌∷◌, refl, ap, arith, replicate, ◌==◌, not, nat_lt}
use Rattle.std.proofs.Common.{decimal, flat_map, ne_eqb}
use Rattle.{std.specs.Fmt.{digits, digits_onto, digit_glyph}, xbar_equip.proofs.Logic.both_hold}
use Rattle.xbar_equip.specs.{Channel.channel_text, Digits.digit, Len.{Line, line_text}, Link.{Link, link_text, letters}, Ten.{TrunkPlace, place_text}}
use Rattle.xbar_equip.specs.declared.link.LinkKind.{LinkKind, TheVariants.{LineLink, Junctor, TrunkLink}}
use Rattle.xbar_office_text.proofs.WholeLines.{lacks_feed, IsPlain, plain_append, plain_with, plain_nothing}

above_feed : (x : ℕ) → 48 ≤ x → not (x == 10) ≡ true
above_feed x high = ap not (ne_eqb x 10 (λ e. omega arith))

pub plain_cell : {rest : List ℕ} (x : ℕ) → 48 ≤ x → IsPlain rest → IsPlain (x ∷ rest)
plain_cell {rest = rest} x high p = record { lacks = both_hold (not (x == 10)) (lacks_feed rest) (above_feed x high) p.lacks }

pub plain_digit : {rest : List ℕ} (d : ℕ) → IsPlain rest → IsPlain (digit d ∷ rest)
plain_digit d p = plain_cell (digit d) (omega arith) p

pub plain_line : (line : Line) → IsPlain (line_text line)
plain_line line = plain_digit line.frame (plain_digit line.switch (plain_digit (line.x / 5) (plain_digit (line.x % 5) plain_nothing)))

pub plain_place : (place : TrunkPlace) → IsPlain (place_text place)
plain_place place = plain_digit place.frame (plain_digit place.switch (plain_digit place.appearance plain_nothing))

pub plain_channel : (channel : ℕ) → IsPlain (channel_text channel)
plain_channel channel = plain_digit channel plain_nothing

plain_letters : (kind : LinkKind) → IsPlain (letters kind)
plain_letters LineLink = record { lacks = refl }
plain_letters Junctor = record { lacks = refl }
plain_letters TrunkLink = record { lacks = refl }

pub plain_link : (link : Link) → IsPlain (link_text link)
plain_link link = plain_append (plain_letters link.kind) (plain_digit link.frame (plain_digit link.at (plain_digit link.channel plain_nothing)))

-- either of two texts
pub plain_choice : (b : Bool) {x y : List ℕ} → IsPlain x → IsPlain y → IsPlain (cond b x y)
plain_choice true p q = p
plain_choice false p q = q

high_choice : (b : Bool) (d : ℕ) → 48 ≤ cond b (48 + d) (87 + d)
high_choice true d = omega arith
high_choice false d = omega arith

plain_glyphs : (k n : ℕ) (rest : List ℕ) → IsPlain rest → IsPlain (digits_onto k 10 false n rest)
plain_glyphs zero n rest p = p
plain_glyphs (suc k) n rest p =
    let more : IsPlain (digit_glyph false (n % 10) ∷ rest) = plain_cell (digit_glyph false (n % 10)) (high_choice (nat_lt (n % 10) 10) (n % 10)) p in
    plain_choice (n / 10 == 0) more (plain_glyphs k (n / 10) (digit_glyph false (n % 10) ∷ rest) more)

-- a number in decimal digits
pub plain_decimal : (n : ℕ) → IsPlain (decimal n)
unfolding digits
plain_decimal n = plain_glyphs 64 n [] plain_nothing

pub plain_blanks : (n : ℕ) → IsPlain (replicate n 32)
plain_blanks zero = plain_nothing
plain_blanks (suc n) = plain_with (32 ∷ []) refl (plain_blanks n)

pub plain_flat_map : {A : Type 0} (f : A → List ℕ) (xs : List A) → ((x : A) → IsPlain (f x)) → IsPlain (flat_map f xs)
plain_flat_map f [] each = plain_nothing
plain_flat_map f (x ∷ xs) each = plain_append (each x) (plain_flat_map f xs each)
