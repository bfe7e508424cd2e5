-- what closing and opening the four crosspoints of a path does to words that show a set
use Rattle.std.proofs.Common.{◌≡◌, ◌≢◌, ℕ, ◌<◌, ◌≤◌, ◌⊎◌, ◌&&◌, true, List, length, get_or, inl, inr, refl, sym, ◌∙◌, ap, subst, arith, true≢false}
use Rattle.{std.{proofs.lemmas.Bool.and_parts, specs.declared.cmp.Ordering.{Ordering, TheVariants.{Less, Equal, Greater}}}, xbar_equip.specs.Among.IsIn}
use Rattle.xbar_equip.specs.{Path.{IsPath, line_link, junctor, trunk_link, path_cmp}, Paths.{IsSet, AreApart, is_idle, has_link, has_idle_links, with_path}}
use Rattle.xbar_equip.specs.{Paths.without_path, Crosspoint.{crosspoints, crosspoint_at}, Word.{LineSwitch, LineJunctor, TrunkSwitch, TrunkJunctor}}
use Rattle.xbar_equip.specs.{declared.{path.Path.Path, crosspoint.Crosspoint.Crosspoint, link.LinkKind.TheVariants.{LineLink, Junctor, TrunkLink}}, Link.Link}
use Rattle.xbar_equip.proofs.{Meeting.meet, PathTests.none-idle, PathOrder.{exact_path, never_before_itself, before_of_after}, PathSets.{with-in, in-with}}
use Rattle.{xbar_equip.proofs.PathSets.{without-in, in-without}, xbar_switch.specs.Shape.places, xbar_match.specs.Shows.{AreInRange, IsClosedIn, ShowsPaths}}
use Rattle.xbar_match.{specs.Effects.{IsCrosspoint, close_at, open_at, close_path, open_path, EachCloses, EachOpens}, proofs.SwitchShapes.shape_at-line_switch}
use Rattle.xbar_match.proofs.{SwitchShapes.{shape_at-line_junctor, shape_at-trunk_switch, shape_at-trunk_junctor}, PathCrosspoints.{which, at_line_switch}}
use Rattle.xbar_match.proofs.PathCrosspoints.{at_line_junctor, at_trunk_junctor, at_trunk_switch, line_link_at, junctor_at, junctor_back_at, trunk_link_at}
use Rattle.xbar_match.proofs.OneCrosspoint.{With, Without, IsFree, Shows, free-open, same-shows, close_at-shows, open_at-shows, length-close_at, length-open_at}
use Rattle.xbar_match.proofs.IdleFields.{has_line_link, has_junctor, has_trunk_link}

-- the four crosspoints of a path by name
abbrev pub line_of : Path → Crosspoint
line_of path = crosspoint_at (LineSwitch path.line.frame path.line.switch) path.channel path.line.x

abbrev pub line_junctor_of : Path → Crosspoint
line_junctor_of path = crosspoint_at (LineJunctor path.line.frame path.channel) path.place.frame path.line.switch

abbrev pub trunk_junctor_of : Path → Crosspoint
trunk_junctor_of path = crosspoint_at (TrunkJunctor path.place.frame path.channel) path.line.frame path.place.switch

abbrev pub trunk_of : Path → Crosspoint
trunk_of path = crosspoint_at (TrunkSwitch path.place.frame path.place.switch) path.channel path.place.appearance

-- each is a crosspoint of the office
pub crosspoint_line : (path : Path) → IsPath path → IsCrosspoint (line_of path)
crosspoint_line path p =
    let shape = ap places (shape_at-line_switch path.line.frame path.line.switch p.line.frame p.line.switch) in
    let f = p.line.frame in let s = p.line.switch in let x = p.line.x in
    record { word = omega arith; field = p.channel; closed = omega arith; place = omega (arith, shape) }

pub crosspoint_line_junctor : (path : Path) → IsPath path → IsCrosspoint (line_junctor_of path)
crosspoint_line_junctor path p =
    let shape = ap places (shape_at-line_junctor path.line.frame path.channel p.line.frame p.channel) in
    let f = p.line.frame in let s = p.line.switch in let n = p.channel in
    record { word = omega arith; field = p.place.frame; closed = omega arith; place = omega (arith, shape) }

pub crosspoint_trunk_junctor : (path : Path) → IsPath path → IsCrosspoint (trunk_junctor_of path)
crosspoint_trunk_junctor path p =
    let shape = ap places (shape_at-trunk_junctor path.place.frame path.channel) in
    let f = p.place.frame in let s = p.place.switch in let n = p.channel in
    record { word = omega arith; field = p.line.frame; closed = omega arith; place = omega (arith, shape) }

pub crosspoint_trunk : (path : Path) → IsPath path → IsCrosspoint (trunk_of path)
crosspoint_trunk path p =
    let shape = ap places (shape_at-trunk_switch path.place.frame path.place.switch) in
    let f = p.place.frame in let s = p.place.switch in let a = p.place.appearance in
    record { word = omega arith; field = p.channel; closed = omega arith; place = omega (arith, shape) }

pub crosspoint : (path : Path) (c : Crosspoint) → IsPath path → IsIn c (crosspoints path) → IsCrosspoint c
crosspoint path c p (inl e) = subst IsCrosspoint (sym e) (crosspoint_line path p)
crosspoint path c p (inr (inl e)) = subst IsCrosspoint (sym e) (crosspoint_line_junctor path p)
crosspoint path c p (inr (inr (inl e))) = subst IsCrosspoint (sym e) (crosspoint_trunk_junctor path p)
crosspoint path c p (inr (inr (inr (inl e)))) = subst IsCrosspoint (sym e) (crosspoint_trunk path p)
crosspoint path c p (inr (inr (inr (inr none)))) = absurd none

pub closed-ranges : (paths : List Path) → AreInRange paths → (d : Crosspoint) → IsClosedIn paths d → d.field < 10
closed-ranges paths ranges d is = (crosspoint is.0 d (ranges is.0 is.1) is.2).field

-- the four are in four different words
pub record StandApart (path : Path) : Type 0 where
  pub line_line_junctor : (line_of path).word ≡ (line_junctor_of path).word → ⊥
  pub line_trunk_junctor : (line_of path).word ≡ (trunk_junctor_of path).word → ⊥
  pub line_trunk : (line_of path).word ≡ (trunk_of path).word → ⊥
  pub line_junctor_trunk_junctor : (line_junctor_of path).word ≡ (trunk_junctor_of path).word → ⊥
  pub line_junctor_trunk : (line_junctor_of path).word ≡ (trunk_of path).word → ⊥
  pub trunk_junctor_trunk : (trunk_junctor_of path).word ≡ (trunk_of path).word → ⊥

pub stand_apart : (path : Path) → IsPath path → StandApart path
stand_apart path p =
    let f = p.line.frame in let s = p.line.switch in let n = p.channel in let t = p.place.frame in let u = p.place.switch in
    record {
      line_line_junctor = λ e. omega arith;
      line_trunk_junctor = λ e. omega arith;
      line_trunk = λ e. omega arith;
      line_junctor_trunk_junctor = λ e. omega arith;
      line_junctor_trunk = λ e. omega arith;
      trunk_junctor_trunk = λ e. omega arith;
    }

-- no closed crosspoint is at one of the path's four fields; so it is if the path's links are idle
pub record FourFree (P : Crosspoint → Type 0) (path : Path) : Type 0 where
  pub line : IsFree P (line_of path)
  pub line_junctor : IsFree P (line_junctor_of path)
  pub trunk_junctor : IsFree P (trunk_junctor_of path)
  pub trunk : IsFree P (trunk_of path)

-- a path that has an idle link is not one of the paths
no_owner : (paths : List Path) (link : Link) (q : Path) → is_idle (has_link link) paths ≡ true → IsIn q paths → has_link link q ≡ true → ⊥
no_owner paths link q idle within has = true≢false (sym has ∙ none-idle (has_link link) paths idle q within)

pub idle-free : (paths : List Path) (path : Path) → AreInRange paths → IsPath path → has_idle_links paths path ≡ true → FourFree (IsClosedIn paths) path
idle-free paths path ranges p idle = record {
  line = record { free = line };
  line_junctor = record { free = line_junctor };
  trunk_junctor = record { free = trunk_junctor };
  trunk = record { free = trunk };
} where
  links : (is_idle (has_link (line_link path)) paths && is_idle (has_link (junctor path)) paths ≡ true) × (is_idle (has_link (trunk_link path)) paths ≡ true)
  links = and_parts (is_idle (has_link (line_link path)) paths && is_idle (has_link (junctor path)) paths) (is_idle (has_link (trunk_link path)) paths) idle

  first : (is_idle (has_link (line_link path)) paths ≡ true) × (is_idle (has_link (junctor path)) paths ≡ true)
  first = and_parts (is_idle (has_link (line_link path)) paths) (is_idle (has_link (junctor path)) paths) links.0

  line : (d : Crosspoint) → IsClosedIn paths d → d.word ≡ (line_of path).word → d.field ≡ path.channel → ⊥
  line d is at field =
      let there = at_line_switch is.0 d path.line.frame path.line.switch (ranges is.0 is.1) p.line.frame p.line.switch at (which is.0 d is.2) in
      no_owner paths (line_link path) is.0 first.0 is.1
      (has_line_link (line_link path) is.0 (line_link_at is.0 _ _ d.field d.value there
      ∙ ap (λ v. record { kind = LineLink; frame = path.line.frame; at = path.line.switch; channel = v }) field))

  line_junctor : (d : Crosspoint) → IsClosedIn paths d → d.word ≡ (line_junctor_of path).word → d.field ≡ path.place.frame → ⊥
  line_junctor d is at field =
      let there = at_line_junctor is.0 d path.line.frame path.channel (ranges is.0 is.1) p.line.frame p.channel at (which is.0 d is.2) in
      no_owner paths (junctor path) is.0 first.1 is.1 (has_junctor (junctor path) is.0
      (junctor_at is.0 _ _ d.field d.value there ∙ ap (λ v. record { kind = Junctor; frame = path.line.frame; at = v; channel = path.channel }) field))

  trunk_junctor : (d : Crosspoint) → IsClosedIn paths d → d.word ≡ (trunk_junctor_of path).word → d.field ≡ path.line.frame → ⊥
  trunk_junctor d is at field =
      let there = at_trunk_junctor is.0 d path.place.frame path.channel (ranges is.0 is.1) p.place.frame p.channel at (which is.0 d is.2) in
      no_owner paths (junctor path) is.0 first.1 is.1 (has_junctor (junctor path) is.0
      (junctor_back_at is.0 _ _ d.field d.value there ∙ ap (λ v. record { kind = Junctor; frame = v; at = path.place.frame; channel = path.channel }) field))

  trunk : (d : Crosspoint) → IsClosedIn paths d → d.word ≡ (trunk_of path).word → d.field ≡ path.channel → ⊥
  trunk d is at field =
      let there = at_trunk_switch is.0 d path.place.frame path.place.switch (ranges is.0 is.1) p.place.frame p.place.switch at (which is.0 d is.2) in
      no_owner paths (trunk_link path) is.0 links.1 is.1
      (has_trunk_link (trunk_link path) is.0 (trunk_link_at is.0 _ _ d.field d.value there
      ∙ ap (λ v. record { kind = TrunkLink; frame = path.place.frame; at = path.place.switch; channel = v }) field))

-- a crosspoint in another word leaves the field free
free-with : (P : Crosspoint → Type 0) (b c : Crosspoint) → (b.word ≡ c.word → ⊥) → IsFree P c → IsFree (With P b) c
free-with P b c apart free = record { free = in_way } where
  in_way : (d : Crosspoint) → With P b d → d.word ≡ c.word → d.field ≡ c.field → ⊥
  in_way d (inl e) at same = apart (sym (ap (λ (x : Crosspoint). x.word) e) ∙ at)
  in_way d (inr p) at same = free.free d p at same

-- the four closed one after another
abbrev pub With4 : (Crosspoint → Type 0) → Path → Crosspoint → Type 0
With4 P path = With (With (With (With P (line_of path)) (line_junctor_of path)) (trunk_junctor_of path)) (trunk_of path)

pub record ClosesFour (words : List ℕ) (path : Path) (P : Crosspoint → Type 0) : Type 0 where
  pub steps : EachCloses words (crosspoints path)
  pub shows : Shows (close_path words path) P

pub record InTurn (P : Crosspoint → Type 0) (path : Path) : Type 0 where
  pub line : IsFree P (line_of path)
  pub line_junctor : IsFree (With P (line_of path)) (line_junctor_of path)
  pub trunk_junctor : IsFree (With (With P (line_of path)) (line_junctor_of path)) (trunk_junctor_of path)
  pub trunk : IsFree (With (With (With P (line_of path)) (line_junctor_of path)) (trunk_junctor_of path)) (trunk_of path)

-- each of the four is free when it is closed
pub in_turn : (P : Crosspoint → Type 0) (path : Path) → IsPath path → FourFree P path → InTurn P path
in_turn P path p free =
    let apart = stand_apart path p in
    let c1 = line_of path in let c2 = line_junctor_of path in let c3 = trunk_junctor_of path in let c4 = trunk_of path in
    record {
      line = free.line;
      line_junctor = free-with P c1 c2 apart.line_line_junctor free.line_junctor;
      trunk_junctor = free-with (With P c1) c2 c3 apart.line_junctor_trunk_junctor (free-with P c1 c3 apart.line_trunk_junctor free.trunk_junctor);
      trunk =
          free-with (With (With P c1) c2) c3 c4 apart.trunk_junctor_trunk
          (free-with (With P c1) c2 c4 apart.line_junctor_trunk (free-with P c1 c4 apart.line_trunk free.trunk));
    }

pub close_four : (words : List ℕ) (path : Path) (P : Crosspoint → Type 0) → 400 ≤ length words → IsPath path → Shows words P → FourFree P path
    → ClosesFour words path (With4 P path)
unfolding close_path
close_four words path P long p shows free =
    let turn = in_turn P path p free in
    let c1 = line_of path in let c2 = line_junctor_of path in let c3 = trunk_junctor_of path in let c4 = trunk_of path in
    let k1 = crosspoint_line path p in let k2 = crosspoint_line_junctor path p in let k3 = crosspoint_trunk_junctor path p in
    let k4 = crosspoint_trunk path p in
    let words1 = close_at words c1 in let words2 = close_at words1 c2 in let words3 = close_at words2 c3 in
    let long1 : 400 ≤ length words1 = omega (arith, length-close_at words c1) in
    let long2 : 400 ≤ length words2 = omega (arith, length-close_at words1 c2) in
    let long3 : 400 ≤ length words3 = omega (arith, length-close_at words2 c3) in
    let shows1 = close_at-shows words P c1 long k1 turn.line shows in
    let shows2 = close_at-shows words1 (With P c1) c2 long1 k2 turn.line_junctor shows1 in
    let shows3 = close_at-shows words2 (With (With P c1) c2) c3 long2 k3 turn.trunk_junctor shows2 in
    let shows4 = close_at-shows words3 (With (With (With P c1) c2) c3) c4 long3 k4 turn.trunk shows3 in
    record {
      steps = (
        free-open P c1 _ k1.field turn.line (shows.switch c1.word k1.word),
        (
          free-open (With P c1) c2 _ k2.field turn.line_junctor (shows1.switch c2.word k2.word),
          (
            free-open (With (With P c1) c2) c3 _ k3.field turn.trunk_junctor (shows2.switch c3.word k3.word),
            (free-open (With (With (With P c1) c2) c3) c4 _ k4.field turn.trunk (shows3.switch c4.word k4.word), tt),
          ),
        ),
      );
      shows = shows4;
    }

-- the four opened one after another
abbrev pub Without4 : (Crosspoint → Type 0) → Path → Crosspoint → Type 0
Without4 P path = Without (Without (Without (Without P (line_of path)) (line_junctor_of path)) (trunk_junctor_of path)) (trunk_of path)

pub record OpensFour (words : List ℕ) (path : Path) (P : Crosspoint → Type 0) : Type 0 where
  pub steps : EachOpens words (crosspoints path)
  pub shows : Shows (open_path words path) P

pub open_four : (words : List ℕ) (path : Path) (P : Crosspoint → Type 0) → 400 ≤ length words → IsPath path → ((d : Crosspoint) → P d → d.field < 10)
    → Shows words P
    → P (line_of path) → P (line_junctor_of path) → P (trunk_junctor_of path) → P (trunk_of path)
    → OpensFour words path (Without4 P path)
unfolding open_path
open_four words path P long p ranges shows is1 is2' is3' is4' =
    let apart = stand_apart path p in
    let c1 = line_of path in let c2 = line_junctor_of path in let c3 = trunk_junctor_of path in let c4 = trunk_of path in
    let k1 = crosspoint_line path p in let k2 = crosspoint_line_junctor path p in let k3 = crosspoint_trunk_junctor path p in
    let k4 = crosspoint_trunk path p in
    let P1 = Without P c1 in let P2 = Without P1 c2 in let P3 = Without P2 c3 in
    let is2 : P1 c2 = (is2', λ e. apart.line_line_junctor (ap (λ (x : Crosspoint). x.word) (sym e))) in
    let is3 : P2 c3 = (
      (is3', λ e. apart.line_trunk_junctor (ap (λ (x : Crosspoint). x.word) (sym e))),
      λ e. apart.line_junctor_trunk_junctor (ap (λ (x : Crosspoint). x.word) (sym e)),
    ) in
    let is4 : P3 c4 = (
      ((is4', λ e. apart.line_trunk (ap (λ (x : Crosspoint). x.word) (sym e))), λ e. apart.line_junctor_trunk (ap (λ (x : Crosspoint). x.word) (sym e))),
      λ e. apart.trunk_junctor_trunk (ap (λ (x : Crosspoint). x.word) (sym e)),
    ) in
    let words1 = open_at words c1 in let words2 = open_at words1 c2 in let words3 = open_at words2 c3 in
    let long1 : 400 ≤ length words1 = omega (arith, length-open_at words c1) in
    let long2 : 400 ≤ length words2 = omega (arith, length-open_at words1 c2) in
    let long3 : 400 ≤ length words3 = omega (arith, length-open_at words2 c3) in
    let shows1 = open_at-shows words P c1 long k1.word ranges is1 shows in
    let shows2 = open_at-shows words1 P1 c2 long1 k2.word (λ d is. ranges d is.0) is2 shows1 in
    let shows3 = open_at-shows words2 P2 c3 long2 k3.word (λ d is. ranges d is.0.0) is3 shows2 in
    let shows4 = open_at-shows words3 P3 c4 long3 k4.word (λ d is. ranges d is.0.0.0) is4 shows3 in
    record {
      steps = (
        (shows.switch c1.word k1.word).closed c1 is1 refl,
        (
          (shows1.switch c2.word k2.word).closed c2 is2 refl,
          (
            (shows2.switch c3.word k3.word).closed c3 is3 refl,
            ((shows3.switch c4.word k4.word).closed c4 is4 refl, tt),
          ),
        ),
      );
      shows = shows4;
    }

-- the paths of a list with one more, and of one with one fewer
pub record Adds (paths more : List Path) (path : Path) : Type 0 where
  pub there : (q : Path) → (q ≡ path) ⊎ IsIn q paths → IsIn q more
  pub back : (q : Path) → IsIn q more → (q ≡ path) ⊎ IsIn q paths

pub record Removes (paths rest : List Path) (path : Path) : Type 0 where
  pub there : (q : Path) → IsIn q paths → (q ≡ path) ⊎ IsIn q rest
  pub back : (q : Path) → IsIn q rest → IsIn q paths
  pub other : (q : Path) → IsIn q rest → q ≢ path

-- with the four closed, the crosspoints are those of the paths with this one
pub with_four-in : (paths more : List Path) (path : Path) (d : Crosspoint) → Adds paths more path → With4 (IsClosedIn paths) path d → IsClosedIn more d
with_four-in paths more path d adds (inl e) = (path, adds.there path (inl refl), inr (inr (inr (inl e))))
with_four-in paths more path d adds (inr (inl e)) = (path, adds.there path (inl refl), inr (inr (inl e)))
with_four-in paths more path d adds (inr (inr (inl e))) = (path, adds.there path (inl refl), inr (inl e))
with_four-in paths more path d adds (inr (inr (inr (inl e)))) = (path, adds.there path (inl refl), inl e)
with_four-in paths more path d adds (inr (inr (inr (inr is)))) = (is.0, adds.there is.0 (inr is.1), is.2)

own_four : (P : Crosspoint → Type 0) (path : Path) (d : Crosspoint) → IsIn d (crosspoints path) → With4 P path d
own_four P path d (inl e) = inr (inr (inr (inl e)))
own_four P path d (inr (inl e)) = inr (inr (inl e))
own_four P path d (inr (inr (inl e))) = inr (inl e)
own_four P path d (inr (inr (inr (inl e)))) = inl e
own_four P path d (inr (inr (inr (inr none)))) = absurd none

pub in-with_four : (paths more : List Path) (path : Path) (d : Crosspoint) → Adds paths more path → IsClosedIn more d → With4 (IsClosedIn paths) path d
in-with_four paths more path d adds is = elim (adds.back is.0 is.1) [
  | inl same ↦ own_four (IsClosedIn paths) path d (subst (λ (q : Path). IsIn d (crosspoints q)) same is.2)
  | inr within ↦ inr (inr (inr (inr (is.0, within, is.2))))
]

-- with the four open, they are those of the paths without this one
not_own : (P : Crosspoint → Type 0) (path : Path) (d : Crosspoint) → Without4 P path d → IsIn d (crosspoints path) → ⊥
not_own P path d is (inl e) = is.0.0.0.1 e
not_own P path d is (inr (inl e)) = is.0.0.1 e
not_own P path d is (inr (inr (inl e))) = is.0.1 e
not_own P path d is (inr (inr (inr (inl e)))) = is.1 e
not_own P path d is (inr (inr (inr (inr none)))) = none

pub without_four-in : (paths rest : List Path) (path : Path) (d : Crosspoint) → Removes paths rest path → Without4 (IsClosedIn paths) path d → IsClosedIn rest d
without_four-in paths rest path d removes is =
    let of = is.0.0.0.0 in
    elim (removes.there of.0 of.1) [
      | inl same ↦ absurd (not_own (IsClosedIn paths) path d is (subst (λ (q : Path). IsIn d (crosspoints q)) same of.2))
      | inr within ↦ (of.0, within, of.2)
    ]

pub in-without_four : (paths rest : List Path) (path : Path) (d : Crosspoint) → AreInRange paths → AreApart paths → IsIn path paths → Removes paths rest path
    → IsClosedIn rest d → Without4 (IsClosedIn paths) path d
in-without_four paths rest path d ranges apart within removes is =
    let old = removes.back is.0 is.1 in
    let differs : IsIn d (crosspoints path) → ⊥ =
    λ own. removes.other is.0 is.1 (apart is.0 path old within (meet is.0 path d d (ranges is.0 old) (ranges path within) is.2 own refl refl)) in
    (((((is.0, old, is.2), λ e. differs (inl e)), λ e. differs (inr (inl e))), λ e. differs (inr (inr (inl e)))), λ e. differs (inr (inr (inr (inl e)))))

shown : (words : List ℕ) (paths : List Path) → ShowsPaths words paths → Shows words (IsClosedIn paths)
shown words paths shows = record { switch = shows.switch }

-- closing the four of a path with idle links: each is at a field that is then 0
pub four_closed : (words : List ℕ) (paths : List Path) (path : Path) → 400 ≤ length words → ShowsPaths words paths → AreInRange paths → IsPath path
    → has_idle_links paths path ≡ true → ClosesFour words path (With4 (IsClosedIn paths) path)
four_closed words paths path long shows ranges p idle =
    close_four words path (IsClosedIn paths) long p (shown words paths shows) (idle-free paths path ranges p idle)

-- and the words then show the paths with this one
pub close_path-shows : (words : List ℕ) (paths more : List Path) (path : Path) → 400 ≤ length words → ShowsPaths words paths → AreInRange paths → IsPath path
    → has_idle_links paths path ≡ true → Adds paths more path → ShowsPaths (close_path words path) more
close_path-shows words paths more path long shows ranges p idle adds =
    let four = four_closed words paths path long shows ranges p idle in
    record {
      switch =
          λ n below. same-shows (With4 (IsClosedIn paths) path) (IsClosedIn more) n (get_or (close_path words path) n 0)
          (λ d. with_four-in paths more path d adds) (λ d. in-with_four paths more path d adds) (four.shows.switch n below);
    }

-- opening the four of one of the paths: each field then holds its value, and the words then show
-- the paths without this one
pub four_opened : (words : List ℕ) (paths : List Path) (path : Path) → 400 ≤ length words → ShowsPaths words paths → AreInRange paths → IsIn path paths
    → OpensFour words path (Without4 (IsClosedIn paths) path)
four_opened words paths path long shows ranges within =
    open_four words path (IsClosedIn paths) long (ranges path within) (closed-ranges paths ranges) (shown words paths shows)
    (path, within, inl refl) (path, within, inr (inl refl)) (path, within, inr (inr (inl refl))) (path, within, inr (inr (inr (inl refl))))

pub open_path-shows : (words : List ℕ) (paths rest : List Path) (path : Path) → 400 ≤ length words → ShowsPaths words paths → AreInRange paths → AreApart paths
    → IsIn path paths → Removes paths rest path → ShowsPaths (open_path words path) rest
open_path-shows words paths rest path long shows ranges apart within removes =
    let four = four_opened words paths path long shows ranges within in
    record {
      switch =
          λ n below. same-shows (Without4 (IsClosedIn paths) path) (IsClosedIn rest) n (get_or (open_path words path) n 0)
          (λ d. without_four-in paths rest path d removes) (λ d. in-without_four paths rest path d ranges apart within removes) (four.shows.switch n below);
    }

-- a set with a path added, and with one removed
pub with_path-adds : (paths : List Path) (path : Path) → Adds paths (with_path paths path) path
with_path-adds paths path = record { there = λ q is. in-with paths path q is; back = λ q within. with-in paths path q within }

cases_path : (q path : Path) → (q ≡ path) ⊎ (q ≢ path)
cases_path q path = by_order (path_cmp q path) refl where
  by_order : (o : Ordering) → path_cmp q path ≡ o → (q ≡ path) ⊎ (q ≢ path)
  by_order Equal e = inl (exact_path q path e)
  by_order Less e = inr (λ same. never_before_itself path (sym (ap (λ (x : Path). path_cmp x path) same) ∙ e))
  by_order Greater e = inr (λ same. never_before_itself path (before_of_after path path (sym (ap (λ (x : Path). path_cmp x path) same) ∙ e)))

pub without_path-removes : (paths : List Path) (path : Path) → IsSet paths → Removes paths (without_path paths path) path
without_path-removes paths path set = record {
  there = λ q within. elim (cases_path q path) [ inl same ↦ inl same | inr differs ↦ inr (in-without paths path q within differs) ];
  back = λ q within. (without-in paths path q set within).0;
  other = λ q within. (without-in paths path q set within).1;
}
