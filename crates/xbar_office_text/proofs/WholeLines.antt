-- Texts without a line feed, and lines that end with their only one.
use Rattle.std.proofs.Common.{◌≡◌, ℕ, Bool, true, List, [], ◌∷◌, ◌++◌, refl, sym, ap, ◌∙◌, append_assoc, ◌==◌, not}
use Rattle.{std.{specs.List.list_all, proofs.lemmas.List.Folds.list_all-append}, xbar_equip.{proofs.Logic.both_hold, specs.TextLines.IsWholeLine}}

-- no byte of the text is a line feed
abbrev pub lacks_feed : List ℕ → Bool
lacks_feed text = list_all (λ b. not (b == 10)) text

pub record IsPlain (text : List ℕ) : Type 0 where
  pub lacks : lacks_feed text ≡ true

pub plain_append : {a b : List ℕ} → IsPlain a → IsPlain b → IsPlain (a ++ b)
plain_append {a = a} {b = b} p q = record { lacks = list_all-append (λ c. not (c == 10)) a b ∙ both_hold _ _ p.lacks q.lacks }

-- a text that computes, before another
pub plain_with : (a : List ℕ) {b : List ℕ} → lacks_feed a ≡ true → IsPlain b → IsPlain (a ++ b)
plain_with a {b = b} h q = record { lacks = list_all-append (λ c. not (c == 10)) a b ∙ both_hold _ _ h q.lacks }

pub plain_nothing : IsPlain []
plain_nothing = record { lacks = refl }

pub whole_feed : IsWholeLine (10 ∷ [])
whole_feed = record { front = []; lacks = refl; line_is = refl }

-- a line with more before it
pub whole_append : {a b : List ℕ} → IsPlain a → IsWholeLine b → IsWholeLine (a ++ b)
whole_append {a = a} {b = b} p w = record {
  front = a ++ w.front;
  lacks = list_all-append (λ c. not (c == 10)) a w.front ∙ both_hold _ _ p.lacks w.lacks;
  line_is = ap (λ (t : List ℕ). a ++ t) w.line_is ∙ sym (append_assoc a w.front (10 ∷ []));
}

pub whole_with : (a : List ℕ) {b : List ℕ} → lacks_feed a ≡ true → IsWholeLine b → IsWholeLine (a ++ b)
whole_with a {b = b} h w = record {
  front = a ++ w.front;
  lacks = list_all-append (λ c. not (c == 10)) a w.front ∙ both_hold _ _ h w.lacks;
  line_is = ap (λ (t : List ℕ). a ++ t) w.line_is ∙ sym (append_assoc a w.front (10 ∷ []));
}
