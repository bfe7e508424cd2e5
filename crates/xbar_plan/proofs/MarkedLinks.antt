use Rattle.std.proofs.Common.{◌≡◌, ◌≢◌, ℕ, ◌+◌, ◌*◌, ◌<◌, ◌≤◌, Bool, true, false, List, [], ◌∷◌, ◌++◌, length, get_or, set, take, refl, sym, ◌∙◌, ap, subst}
use Rattle.std.proofs.Common.{arith, Some, slice_get, ◌||◌, take_all, get_or-set_same, get_or-set_other}
use Rattle.std.{specs.List.list_any, proofs.lemmas.{List.{take_more, Folds.list_any-append}, Option.slice_get-get_or}}
use Rattle.xbar_equip.specs.{Link.{Link, IsLink, link_eq}, declared.link.LinkKind.{LinkKind, TheVariants.{LineLink, Junctor, TrunkLink}}}
use Rattle.{xbar_equip.proofs.PathTests.link_eq-exact, xbar_plan.specs.Numbered.{links_before, link_number}}

one_kind : (a b : LinkKind) (m n : ℕ) → m < 1000 → n < 1000 → links_before a + m ≡ links_before b + n → (a ≡ b) × (m ≡ n)
one_kind LineLink LineLink m n h k e = (refl, omega arith)
one_kind LineLink Junctor m n h k e = absurd (omega arith)
one_kind LineLink TrunkLink m n h k e = absurd (omega arith)
one_kind Junctor LineLink m n h k e = absurd (omega arith)
one_kind Junctor Junctor m n h k e = (refl, omega arith)
one_kind Junctor TrunkLink m n h k e = absurd (omega arith)
one_kind TrunkLink LineLink m n h k e = absurd (omega arith)
one_kind TrunkLink Junctor m n h k e = absurd (omega arith)
one_kind TrunkLink TrunkLink m n h k e = (refl, omega arith)

-- links with the same number are the same
one_link : (a b : Link) → IsLink a → IsLink b → link_number a ≡ link_number b → a ≡ b
one_link a b h k e =
    let hf = h.frame in
    let ha = h.at in
    let hc = h.channel in
    let kf = k.frame in
    let ka = k.at in
    let kc = k.channel in
    let m : 100 * a.frame + 10 * a.at + a.channel < 1000 = omega (arith, hf, ha, hc) in
    let n : 100 * b.frame + 10 * b.at + b.channel < 1000 = omega (arith, kf, ka, kc) in
    let same = one_kind a.kind b.kind (100 * a.frame + 10 * a.at + a.channel) (100 * b.frame + 10 * b.at + b.channel) m n e in
    let kind = same.0 in
    let digits = same.1 in
    let frame : a.frame ≡ b.frame = omega (arith, digits, ha, hc, ka, kc) in
    let at : a.at ≡ b.at = omega (arith, digits, frame, hc, kc) in
    let channel : a.channel ≡ b.channel = omega (arith, digits, frame, at) in
    λ i. record { kind = kind i; frame = frame i; at = at i; channel = channel i }

few_before : (kind : LinkKind) → links_before kind ≤ 2000
few_before LineLink = omega arith
few_before Junctor = omega arith
few_before TrunkLink = omega arith

below_3000 : (k : Link) → IsLink k → link_number k < 3000
below_3000 k h =
    let hf = h.frame in
    let ha = h.at in
    let hc = h.channel in
    let few = few_before k.kind in
    omega (arith, hf, ha, hc, few)

-- a table that marks the links so far marks one more after its mark is set
pub marks-more : (marks : List Bool) (faults : List Link) (i : ℕ) (x : Link) → i < length faults → x ≡ get_or faults i x → IsLink x
    → link_number x < length marks → ((k : Link) → IsLink k → get_or marks (link_number k) false ≡ list_any (λ fault. link_eq fault k) (take i faults))
    → (k : Link) → IsLink k → get_or (set marks (link_number x) true) (link_number k) false ≡ list_any (λ fault. link_eq fault k) (take (i + 1) faults)
marks-more marks faults i x within read fits there marked k in_range = of (link_eq x k) refl where
  before : Bool
  before = list_any (λ fault. link_eq fault k) (take i faults)

  more : list_any (λ fault. link_eq fault k) (take (i + 1) faults) ≡ (before || (link_eq x k || false))
  more =
      ap (list_any (λ fault. link_eq fault k)) (take_more faults i x within ∙ ap (λ (y : Link). take i faults ++ y ∷ []) (sym read))
      ∙ list_any-append (λ fault. link_eq fault k) (take i faults) (x ∷ [])

  last : (b : Bool) → (b || (true || false)) ≡ true
  last true = refl
  last false = refl

  same : (b : Bool) → (b || (false || false)) ≡ b
  same true = refl
  same false = refl

  of : (b : Bool) → link_eq x k ≡ b → get_or (set marks (link_number x) true) (link_number k) false ≡ list_any (λ fault. link_eq fault k) (take (i + 1) faults)
  of true e =
      let is : x ≡ k = (link_eq-exact x k).0 e in
      subst (λ (l : Link). get_or (set marks (link_number x) true) (link_number l) false ≡ true) is (get_or-set_same marks (link_number x) true false there)
      ∙ sym (more ∙ ap (λ (b : Bool). before || (b || false)) e ∙ last before)
  of false e =
      let apart : link_number k ≢ link_number x = λ one. let no : true ≡ false = sym ((link_eq-exact x k).1 (one_link x k fits in_range (sym one))) ∙ e in cc in
      get_or-set_other marks (link_number x) (link_number k) true false apart ∙ marked k in_range
      ∙ sym (more ∙ ap (λ (b : Bool). before || (b || false)) e ∙ same before)

-- and has a mark for each link
pub all-marked : (marks : List Bool) (faults : List Link) (i : ℕ) → length faults ≤ i → length marks ≡ 3000
    → ((k : Link) → IsLink k → get_or marks (link_number k) false ≡ list_any (λ fault. link_eq fault k) (take i faults)) → (k : Link) → IsLink k
    → slice_get marks (link_number k) ≡ Some (list_any (λ fault. link_eq fault k) faults)
all-marked marks faults i past size marked k in_range =
    let there = below_3000 k in_range in
    slice_get-get_or marks (link_number k) false (omega (arith, size, there))
    ∙ ap (λ (b : Bool). Some b) (marked k in_range ∙ ap (list_any (λ fault. link_eq fault k)) (take_all i faults past))
