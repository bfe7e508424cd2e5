-- a text is read letter by letter as kinds
use Rattle.std.proofs.Common.{◌≡◌, ℕ, zero, suc, ◌+◌, ◌<◌, ◌≤◌, false, EachIndex, IsTrue, List, [], ◌∷◌, ◌++◌, length, map, slice_index, take, get_or, refl}
use Rattle.std.proofs.Common.{sym, ◌∙◌, ap, subst, arith, ◌↔◌, IfSome, IsSome, None, Option, Some, true≢false, take_all}
use Rattle.{std.proofs.lemmas.List.{length-map, map_push, take_more}, xbar_moves.specs.{Kinds.IsMarkerCount, declared.kinds.Kind.Kind}}
use Rattle.{xbar_moves.specs.declared.kinds.Kind.TheVariants.{Dial, Completing, Combined}, crossbar5.specs.Kinds.{Names, NamesNone, is_letter, letter_of}}

-- the kinds so far are those of the letters so far
abbrev pub AreRead : List ℕ → List Kind → ℕ → Type 0
AreRead text kinds index = map letter_of kinds ≡ take index text

pub one_read : (text : List ℕ) (kinds next : List Kind) (kind : Kind) (index : ℕ) → AreRead text kinds index → index < length text
    → get_or text index 0 ≡ letter_of kind → next ≡ kinds ++ kind ∷ [] → AreRead text next (index + 1)
one_read text kinds next kind index so_far within letter is =
    ap (map letter_of) is ∙ map_push letter_of kinds kind ∙ ap (λ (letters : List ℕ). letters ++ letter_of kind ∷ []) so_far
    ∙ ap (λ (n : ℕ). take index text ++ n ∷ []) (sym letter) ∙ sym (take_more text index 0 within)

length-letters : (kinds : List Kind) → length (map letter_of kinds) ≡ length kinds
length-letters kinds = length-map kinds letter_of

-- each letter of a text that names kinds names one
letter_named : (kind : Kind) → IsTrue (is_letter (letter_of kind))
letter_named Dial = cc
letter_named Completing = cc
letter_named Combined = cc

letters_named : (kinds : List Kind) (at : ℕ) → at < length (map letter_of kinds) → IsTrue (is_letter (slice_index (map letter_of kinds) at))
letters_named [] at within = absurd (omega (arith, within))
letters_named (kind ∷ kinds) zero within = letter_named kind
letters_named (kind ∷ kinds) (suc at) within = letters_named kinds at (omega (arith, within))

-- a text of 1 to 48 letters, each of which names a kind
abbrev AreLetters : List ℕ → Type 0
AreLetters text = (0 < length text) × (length text ≤ 48) × EachIndex text (λ at. IsTrue (is_letter (slice_index text at)))

names_letters : (text : List ℕ) (kinds : List Kind) → Names text kinds → AreLetters text
names_letters text kinds names =
    subst AreLetters (sym names.letters)
    (omega (arith, length-letters kinds, names.count.0), omega (arith, length-letters kinds, names.count.1), letters_named kinds)

-- a letter that names no kind
pub unknown_letter : (text : List ℕ) (index : ℕ) → index < length text → is_letter (slice_index text index) ≡ false → NamesNone text
unknown_letter text index within unknown kinds names =
    let are = names_letters text kinds names in
    absurd (true≢false (sym (are.2 index within) ∙ unknown))

-- all letters were read
pub all_read : (text : List ℕ) (kinds : List Kind) (index : ℕ) (result : Option (List Kind)) → AreRead text kinds index → length text ≤ index
    → (IsSome result ↔ IsMarkerCount (length kinds)) → IfSome result (λ all. all ≡ kinds)
    → IfSome result (λ all. Names text all) × ((result ≡ None) ↔ NamesNone text)
all_read text kinds index (Some all) so_far past known same =
    let whole : map letter_of kinds ≡ text = so_far ∙ take_all index text past in
    let names : Names text all = record {
      letters = sym whole ∙ ap (map letter_of) (sym same);
      count = subst (λ (ks : List Kind). IsMarkerCount (length ks)) (sym same) (known.0 refl);
    } in
    (names, (λ none. cc, λ none. absurd (none all names)))
all_read text kinds index None so_far past known same =
    let whole : map letter_of kinds ≡ text = so_far ∙ take_all index text past in
    let long = sym (length-letters kinds) ∙ ap length whole in (
      tt,
      (
        λ none others names.
            let are = names_letters text others names in
            true≢false (sym (known.1 (omega (arith, long, are.0), omega (arith, long, are.1)))),
        λ none. refl,
      ),
    )
