use Rattle.std.proofs.Common.{◌≡◌, ℕ, suc, ◌+◌, Bool, true, false, cond, List, [], ◌∷◌, take, drop, refl, sym, ◌∙◌, ap, arith, length-drop, Some, None}
use Rattle.std.proofs.Common.{position, ◌==◌, if◌then◌else◌}
use Rattle.std.{specs.List.position_from, proofs.lemmas.{List.Quantifiers.position-Some, Iterator.Adapters.position_from-zero}}
use Rattle.xbar_plan_text.specs.Texts.{parts, onto_first, IsFirstPart}

-- a text without a space is its only part
none_from : (k : ℕ) (text : List ℕ) → position_from (λ byte. byte == 32) k text ≡ None → parts text ≡ text ∷ []
none_from k [] e = refl
none_from k (b ∷ text) e = of (b == 32) refl (none_from (k + 1) text) e where
  of : (t : Bool) → (b == 32) ≡ t → (position_from (λ byte. byte == 32) (k + 1) text ≡ None → parts text ≡ text ∷ [])
      → cond t (Some k) (position_from (λ byte. byte == 32) (k + 1) text) ≡ None → parts (b ∷ text) ≡ (b ∷ text) ∷ []
  of true is later e = cc
  of false is later e =
      ap (λ (t : Bool). if t then [] ∷ parts text else onto_first b (parts text)) is ∙ ap (onto_first b) (later e)

pub parts_none : (text : List ℕ) → position (λ byte. byte == 32) text ≡ None → parts text ≡ text ∷ []
parts_none text e = none_from 0 text (sym (position_from-zero (λ byte. byte == 32) text) ∙ e)

-- the text up to the first space is the first part
some_from : (k j : ℕ) (text : List ℕ) → position_from (λ byte. byte == 32) k text ≡ Some j
    → (i : ℕ) × (j ≡ k + i) × (parts text ≡ take i text ∷ parts (drop (suc i) text))
some_from k j [] e = cc
some_from k j (b ∷ text) e = of (b == 32) refl (some_from (k + 1) j text) e where
  of : (t : Bool) → (b == 32) ≡ t
      → (position_from (λ byte. byte == 32) (k + 1) text ≡ Some j → (i : ℕ) × (j ≡ k + 1 + i) × (parts text ≡ take i text ∷ parts (drop (suc i) text)))
      → cond t (Some k) (position_from (λ byte. byte == 32) (k + 1) text) ≡ Some j
      → (i : ℕ) × (j ≡ k + i) × (parts (b ∷ text) ≡ take i (b ∷ text) ∷ parts (drop (suc i) (b ∷ text)))
  of true is later e =
      let same : k ≡ j = cc in
      (0, omega (arith, same), ap (λ (t : Bool). if t then [] ∷ parts text else onto_first b (parts text)) is)
  of false is later e =
      let rest = later e in
      (suc rest.0, omega (arith, rest.1), ap (λ (t : Bool). if t then [] ∷ parts text else onto_first b (parts text)) is ∙ ap (onto_first b) rest.2)

pub parts_some : (text : List ℕ) (end : ℕ) → position (λ byte. byte == 32) text ≡ Some end → parts text ≡ take end text ∷ parts (drop (end + 1) text)
parts_some text end e =
    let found = some_from 0 end text (sym (position_from-zero (λ byte. byte == 32) text) ∙ e) in
    let same : found.0 ≡ end = omega (arith, found.1) in
    found.2 ∙ ap (λ (i : ℕ). take i text ∷ parts (drop (suc i) text)) same
    ∙ ap (λ (i : ℕ). take end text ∷ parts (drop i text)) (let e : suc end ≡ end + 1 = omega arith in e)

pub first_part : (text : List ℕ) (end : ℕ) → position (λ byte. byte == 32) text ≡ Some end → IsFirstPart text (take end text) (drop (end + 1) text)
first_part text end e =
    let within = (position-Some (λ byte. byte == 32) text end 0 e).0 in
    record {
      parts_are = parts_some text end e;
      is_shorter = omega (arith, within, length-drop (end + 1) text);
    }
