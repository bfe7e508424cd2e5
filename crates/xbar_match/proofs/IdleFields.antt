-- on a word that shows a set of paths, a field is 0 exactly if its link is idle
use Rattle.std.proofs.Common.{◌≡◌, ℕ, ◌+◌, ◌*◌, ◌<◌, ◌==◌, true, List, inl, inr, refl, sym, ◌∙◌, ap, arith, eq-eqb, ne_eqb, true≢false}
use Rattle.{std.proofs.lemmas.Bool.{cases_eq, false_from_ne_true}, xbar_equip.specs.{Among.IsIn, Link.Link, Path.{line_link, junctor, trunk_link}}}
use Rattle.xbar_equip.specs.{Paths.{has_link, is_idle}, Crosspoint.{crosspoints, crosspoint_at}, Word.{LineSwitch, LineJunctor, TrunkSwitch, TrunkJunctor}}
use Rattle.xbar_equip.specs.declared.{link.LinkKind.TheVariants.{LineLink, Junctor, TrunkLink}, path.Path.Path, crosspoint.Crosspoint.Crosspoint}
use Rattle.{xbar_equip.proofs.PathTests.{idle-none, none-idle, has_link-exact}, xbar_switch.specs.Field.field_of}
use Rattle.xbar_match.{specs.{Switches.shape_at, Shows.{AreInRange, IsClosedIn, WordShows}}, proofs.PathCrosspoints.{which, at_line_switch, at_line_junctor}}
use Rattle.xbar_match.proofs.PathCrosspoints.{at_trunk_junctor, at_trunk_switch, line_link_at, junctor_at, junctor_back_at, trunk_link_at}

-- a path has each of its three links
pub has_line_link : (link : Link) (path : Path) → line_link path ≡ link → has_link link path ≡ true
has_line_link link path e = (has_link-exact link path).1 (inl e)

pub has_junctor : (link : Link) (path : Path) → junctor path ≡ link → has_link link path ≡ true
has_junctor link path e = (has_link-exact link path).1 (inr (inl e))

pub has_trunk_link : (link : Link) (path : Path) → trunk_link path ≡ link → has_link link path ≡ true
has_trunk_link link path e = (has_link-exact link path).1 (inr (inr e))

-- a path with a link of one kind has it as its link of that kind
only_line_link : (path : Path) (l s n : ℕ) → has_link (record { kind = LineLink; frame = l; at = s; channel = n }) path ≡ true
    → line_link path ≡ record { kind = LineLink; frame = l; at = s; channel = n }
only_line_link path l s n has = elim ((has_link-exact (record { kind = LineLink; frame = l; at = s; channel = n }) path).0 has) [
  | inl e ↦ e
  | inr (inl e) ↦ let kinds = ap (λ (x : Link). x.kind) e in cc
  | inr (inr e) ↦ let kinds = ap (λ (x : Link). x.kind) e in cc
]

only_junctor : (path : Path) (l t n : ℕ) → has_link (record { kind = Junctor; frame = l; at = t; channel = n }) path ≡ true
    → junctor path ≡ record { kind = Junctor; frame = l; at = t; channel = n }
only_junctor path l t n has = elim ((has_link-exact (record { kind = Junctor; frame = l; at = t; channel = n }) path).0 has) [
  | inl e ↦ let kinds = ap (λ (x : Link). x.kind) e in cc
  | inr (inl e) ↦ e
  | inr (inr e) ↦ let kinds = ap (λ (x : Link). x.kind) e in cc
]

only_trunk_link : (path : Path) (t u n : ℕ) → has_link (record { kind = TrunkLink; frame = t; at = u; channel = n }) path ≡ true
    → trunk_link path ≡ record { kind = TrunkLink; frame = t; at = u; channel = n }
only_trunk_link path t u n has = elim ((has_link-exact (record { kind = TrunkLink; frame = t; at = u; channel = n }) path).0 has) [
  | inl e ↦ let kinds = ap (λ (x : Link). x.kind) e in cc
  | inr (inl e) ↦ let kinds = ap (λ (x : Link). x.kind) e in cc
  | inr (inr e) ↦ e
]

-- a field is 0 if no path has the link, and not 0 if one has it
same_test : (link : Link) (paths : List Path) (held : ℕ)
    → ((path : Path) → IsIn path paths → has_link link path ≡ true → held ≡ 0 → ⊥)
    → ((held ≡ 0 → ⊥) → (path : Path) × IsIn path paths × (has_link link path ≡ true))
    → is_idle (has_link link) paths ≡ (held == 0)
same_test link paths held busy some = elim (cases_eq held 0) [
  | inl zero ↦ idle-none (has_link link) paths (λ path within. false_from_ne_true (has_link link path) (λ has. busy path within has zero))
      ∙ sym (eq-eqb held 0 zero)
  | inr closed ↦
      let path = some closed in
      false_from_ne_true (is_idle (has_link link) paths) (λ idle. true≢false (sym path.2 ∙ none-idle (has_link link) paths idle path.0 path.1))
      ∙ sym (ne_eqb held 0 closed)
]

-- the path that a closed field's crosspoint belongs to
closed_path : (paths : List Path) (n word v : ℕ) → v < 10 → WordShows (IsClosedIn paths) n word → (field_of (shape_at n) word v ≡ 0 → ⊥)
    → IsClosedIn paths (record { word = n; field = v; value = field_of (shape_at n) word v })
closed_path paths n word v in_range shows closed = elim (shows.others v in_range) [ inl zero ↦ absurd (closed zero) | inr is ↦ is ]

-- the field of a path's crosspoint is not open
not_open : (paths : List Path) (n word : ℕ) (path : Path) (c : Crosspoint) (place : ℕ) → WordShows (IsClosedIn paths) n word → IsIn path paths
    → IsIn c (crosspoints path) → c.word ≡ n → c.value ≡ 1 + place → (v : ℕ) → c.field ≡ v → field_of (shape_at n) word v ≡ 0 → ⊥
not_open paths n word path c place shows within among at value v field zero =
    let held : field_of (shape_at n) word c.field ≡ c.value = shows.closed c (path, within, among) at in
    let same : field_of (shape_at n) word c.field ≡ field_of (shape_at n) word v = ap (λ x. field_of (shape_at n) word x) field in
    absurd (omega (arith, held, same, value, zero))

pub line_link-field : (paths : List Path) (word l s n : ℕ) → AreInRange paths → l < 10 → s < 10 → n < 10 → WordShows (IsClosedIn paths) (20 * l + s) word
    → is_idle (has_link (record { kind = LineLink; frame = l; at = s; channel = n })) paths ≡ (field_of (shape_at (20 * l + s)) word n == 0)
line_link-field paths word l s n ranges in_l in_s in_n shows =
    same_test (record { kind = LineLink; frame = l; at = s; channel = n }) paths (field_of (shape_at (20 * l + s)) word n) busy some where
      busy : (path : Path) → IsIn path paths → has_link (record { kind = LineLink; frame = l; at = s; channel = n }) path ≡ true
          → field_of (shape_at (20 * l + s)) word n ≡ 0 → ⊥
      busy path within has zero =
          let link = only_line_link path l s n has in
          let frame : path.line.frame ≡ l = ap (λ (x : Link). x.frame) link in
          let switch : path.line.switch ≡ s = ap (λ (x : Link). x.at) link in
          not_open paths (20 * l + s) word path (crosspoint_at (LineSwitch path.line.frame path.line.switch) path.channel path.line.x) path.line.x shows within
          (inl refl) (omega arith) refl n (ap (λ (x : Link). x.channel) link) zero

      some : (field_of (shape_at (20 * l + s)) word n ≡ 0 → ⊥)
          → (path : Path) × IsIn path paths × (has_link (record { kind = LineLink; frame = l; at = s; channel = n }) path ≡ true)
      some closed =
          let p = closed_path paths (20 * l + s) word n in_n shows closed in
          let at = at_line_switch p.0 _ l s (ranges p.0 p.1) in_l in_s refl (which p.0 _ p.2) in
          (p.0, p.1, has_line_link _ p.0 (line_link_at p.0 l s n _ at))

pub junctor-field : (paths : List Path) (word l n t : ℕ) → AreInRange paths → l < 10 → n < 10 → t < 10 → WordShows (IsClosedIn paths) (20 * l + 10 + n) word
    → is_idle (has_link (record { kind = Junctor; frame = l; at = t; channel = n })) paths ≡ (field_of (shape_at (20 * l + 10 + n)) word t == 0)
junctor-field paths word l n t ranges in_l in_n in_t shows =
    same_test (record { kind = Junctor; frame = l; at = t; channel = n }) paths (field_of (shape_at (20 * l + 10 + n)) word t) busy some where
      busy : (path : Path) → IsIn path paths → has_link (record { kind = Junctor; frame = l; at = t; channel = n }) path ≡ true
          → field_of (shape_at (20 * l + 10 + n)) word t ≡ 0 → ⊥
      busy path within has zero =
          let link = only_junctor path l t n has in
          let frame : path.line.frame ≡ l = ap (λ (x : Link). x.frame) link in
          let channel : path.channel ≡ n = ap (λ (x : Link). x.channel) link in
          not_open paths (20 * l + 10 + n) word path (crosspoint_at (LineJunctor path.line.frame path.channel) path.place.frame path.line.switch)
          path.line.switch
          shows within (inr (inl refl)) (omega arith) refl t (ap (λ (x : Link). x.at) link) zero

      some : (field_of (shape_at (20 * l + 10 + n)) word t ≡ 0 → ⊥)
          → (path : Path) × IsIn path paths × (has_link (record { kind = Junctor; frame = l; at = t; channel = n }) path ≡ true)
      some closed =
          let p = closed_path paths (20 * l + 10 + n) word t in_t shows closed in
          let at = at_line_junctor p.0 _ l n (ranges p.0 p.1) in_l in_n refl (which p.0 _ p.2) in
          (p.0, p.1, has_junctor _ p.0 (junctor_at p.0 l n t _ at))

pub junctor-back_field : (paths : List Path) (word t n l : ℕ) → AreInRange paths → t < 10 → n < 10 → l < 10
    → WordShows (IsClosedIn paths) (200 + 20 * t + 10 + n) word
    → is_idle (has_link (record { kind = Junctor; frame = l; at = t; channel = n })) paths ≡ (field_of (shape_at (200 + 20 * t + 10 + n)) word l == 0)
junctor-back_field paths word t n l ranges in_t in_n in_l shows =
    same_test (record { kind = Junctor; frame = l; at = t; channel = n }) paths (field_of (shape_at (200 + 20 * t + 10 + n)) word l) busy some where
      busy : (path : Path) → IsIn path paths → has_link (record { kind = Junctor; frame = l; at = t; channel = n }) path ≡ true
          → field_of (shape_at (200 + 20 * t + 10 + n)) word l ≡ 0 → ⊥
      busy path within has zero =
          let link = only_junctor path l t n has in
          let frame : path.place.frame ≡ t = ap (λ (x : Link). x.at) link in
          let channel : path.channel ≡ n = ap (λ (x : Link). x.channel) link in
          not_open paths (200 + 20 * t + 10 + n) word path (crosspoint_at (TrunkJunctor path.place.frame path.channel) path.line.frame path.place.switch)
          path.place.switch shows within (inr (inr (inl refl))) (omega arith) refl l (ap (λ (x : Link). x.frame) link) zero

      some : (field_of (shape_at (200 + 20 * t + 10 + n)) word l ≡ 0 → ⊥)
          → (path : Path) × IsIn path paths × (has_link (record { kind = Junctor; frame = l; at = t; channel = n }) path ≡ true)
      some closed =
          let p = closed_path paths (200 + 20 * t + 10 + n) word l in_l shows closed in
          let at = at_trunk_junctor p.0 _ t n (ranges p.0 p.1) in_t in_n refl (which p.0 _ p.2) in
          (p.0, p.1, has_junctor _ p.0 (junctor_back_at p.0 t n l _ at))

pub trunk_link-field : (paths : List Path) (word t u n : ℕ) → AreInRange paths → t < 10 → u < 10 → n < 10 → WordShows (IsClosedIn paths) (200 + 20 * t + u) word
    → is_idle (has_link (record { kind = TrunkLink; frame = t; at = u; channel = n })) paths ≡ (field_of (shape_at (200 + 20 * t + u)) word n == 0)
trunk_link-field paths word t u n ranges in_t in_u in_n shows =
    same_test (record { kind = TrunkLink; frame = t; at = u; channel = n }) paths (field_of (shape_at (200 + 20 * t + u)) word n) busy some where
      busy : (path : Path) → IsIn path paths → has_link (record { kind = TrunkLink; frame = t; at = u; channel = n }) path ≡ true
          → field_of (shape_at (200 + 20 * t + u)) word n ≡ 0 → ⊥
      busy path within has zero =
          let link = only_trunk_link path t u n has in
          let frame : path.place.frame ≡ t = ap (λ (x : Link). x.frame) link in
          let switch : path.place.switch ≡ u = ap (λ (x : Link). x.at) link in
          not_open paths (200 + 20 * t + u) word path (crosspoint_at (TrunkSwitch path.place.frame path.place.switch) path.channel path.place.appearance)
          path.place.appearance shows within (inr (inr (inr (inl refl)))) (omega arith) refl n (ap (λ (x : Link). x.channel) link) zero

      some : (field_of (shape_at (200 + 20 * t + u)) word n ≡ 0 → ⊥)
          → (path : Path) × IsIn path paths × (has_link (record { kind = TrunkLink; frame = t; at = u; channel = n }) path ≡ true)
      some closed =
          let p = closed_path paths (200 + 20 * t + u) word n in_n shows closed in
          let at = at_trunk_switch p.0 _ t u (ranges p.0 p.1) in_t in_u refl (which p.0 _ p.2) in
          (p.0, p.1, has_trunk_link _ p.0 (trunk_link_at p.0 t u n _ at))
