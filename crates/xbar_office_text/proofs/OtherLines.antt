-- Texts of whole lines, none of which is the title of a card.
use Rattle.std.proofs.Common.{◌≡◌, ℕ, Bool, true, false, cond, List, [], ◌∷◌, ◌++◌, refl, ap, ◌∙◌, append_assoc, filter, flat_map}
use Rattle.{xbar_equip.{specs.TextLines.{lines, IsWholeLine}, proofs.WholeLines.whole_line_first}, xbar_office_text.specs.Titles.is_title}

-- a line that is no title
pub record IsOther (line : List ℕ) : Type 0 where
  pub whole : IsWholeLine line
  pub other : is_title line ≡ false

-- the titles of a text that begins with a line that is none, and with one that is
pub past_other : (line rest : List ℕ) → IsOther line → filter is_title (lines (line ++ rest)) ≡ filter is_title (lines rest)
past_other line rest h = ap (filter is_title) (whole_line_first line rest h.whole) ∙ rw h.other

pub at_title : (line rest : List ℕ) → IsWholeLine line → is_title line ≡ true → filter is_title (lines (line ++ rest)) ≡ line ∷ filter is_title (lines rest)
at_title line rest w h = ap (filter is_title) (whole_line_first line rest w) ∙ rw h

-- the text adds no title, whatever follows it
pub record HasNoTitle (text : List ℕ) : Type 0 where
  pub skips : (rest : List ℕ) → filter is_title (lines (text ++ rest)) ≡ filter is_title (lines rest)

pub none_nothing : HasNoTitle []
none_nothing = record { skips = λ rest. refl }

pub none_line : (line : List ℕ) → IsOther line → HasNoTitle line
none_line line h = record { skips = λ rest. past_other line rest h }

pub none_append : (a b : List ℕ) → HasNoTitle a → HasNoTitle b → HasNoTitle (a ++ b)
none_append a b p q = record {
  skips = λ rest. ap (λ (t : List ℕ). filter is_title (lines t)) (append_assoc a b rest) ∙ p.skips (b ++ rest) ∙ q.skips rest;
}

pub none_choice : (b : Bool) (x y : List ℕ) → HasNoTitle x → HasNoTitle y → HasNoTitle (cond b x y)
none_choice true x y p q = p
none_choice false x y p q = q

pub none_flat_map : {A : Type 0} (f : A → List ℕ) (xs : List A) → ((x : A) → HasNoTitle (f x)) → HasNoTitle (flat_map f xs)
none_flat_map f [] each = none_nothing
none_flat_map f (x ∷ xs) each = none_append (f x) (flat_map f xs) (each x) (none_flat_map f xs each)
