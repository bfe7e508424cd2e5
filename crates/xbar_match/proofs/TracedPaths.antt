-- on words that show paths no two of which share a part, a trace follows the path of the line or
-- of the place
use Rattle.std.proofs.Common.{◌≡◌, ℕ, ◌+◌, ◌*◌, ◌<◌, ◌==◌, nat_lt, if◌then◌else◌, Bool, true, false, cond, Option, Some, None, List, [], ◌∷◌, get_or, find}
use Rattle.std.proofs.Common.{option_map, option_and_then, inl, inr, refl, sym, ◌∙◌, ap, arith, one-add, eq-eqb, ne_eqb, lt-ltb, true≢false}
use Rattle.xbar_equip.specs.{Among.IsIn, Len.{Line, IsLine}, Ten.{TrunkPlace, IsTrunkPlace}, Path.IsPath, Paths.{AreApart, has_line, has_place}}
use Rattle.xbar_equip.specs.{Word.{LineSwitch, LineJunctor, TrunkSwitch, TrunkJunctor}, Crosspoint.crosspoints, declared.path.Path.Path}
use Rattle.xbar_equip.specs.declared.crosspoint.Crosspoint.{Crosspoint}
use Rattle.xbar_equip.proofs.{FirstNumber.{first_below-found, first_below-none}, PathTests.{line_eq-exact, place_eq-exact}}
use Rattle.xbar_switch.specs.{Shape.places, Field.field_of, declared.shape.Shape.{Shape, TheVariants.{Line as LineShape, Other}}}
use Rattle.xbar_match.specs.{Switches.{shape_at, held_at, word_of}, Shows.{AreInRange, ShowsPaths}, Traces.{field_at_place, place_of_value, place_at_field}}
use Rattle.xbar_match.specs.Traces.{traced, traced_by, traced_to, traced_at, traced_back, traced_back_by, traced_back_to, traced_back_at}
use Rattle.xbar_match.proofs.SwitchShapes.{shape_at-line_switch, shape_at-line_junctor, shape_at-trunk_switch, shape_at-trunk_junctor}
use Rattle.xbar_match.proofs.PathCrosspoints.{which, AtLineSwitch, AtLineJunctor, AtTrunkJunctor, AtTrunkSwitch, at_line_switch, at_line_junctor}
use Rattle.xbar_match.proofs.PathCrosspoints.{at_trunk_junctor, at_trunk_switch, line_link_at, trunk_link_at}

-- the path that a field with a place belongs to
record Owner (paths : List Path) (n v place : ℕ) : Type 0 where
  path : Path
  within : IsIn path paths
  crosspoint : Crosspoint
  among : IsIn crosspoint (crosspoints path)
  word : crosspoint.word ≡ n
  field : crosspoint.field ≡ v
  value : crosspoint.value ≡ 1 + place

owner : (words : List ℕ) (paths : List Path) (n v place : ℕ) → ShowsPaths words paths → n < 400 → v < 10 → held_at words n v ≡ 1 + place → Owner paths n v place
owner words paths n v place shows in_n in_v held = elim ((shows.switch n in_n).others v in_v) [
  | inl e ↦ absurd (omega (arith, held, e))
  | inr is ↦ record {
    path = is.0;
    within = is.1;
    crosspoint = record { word = n; field = v; value = held_at words n v };
    among = is.2;
    word = refl;
    field = refl;
    value = held;
  }
]

-- the value of a field, given the shape of its switch
by_shape : (words : List ℕ) (n v value : ℕ) (shape : Shape) → shape_at n ≡ shape → field_of shape (get_or words n 0) v ≡ value → held_at words n v ≡ value
by_shape words n v value shape e held = ap (λ (s : Shape). field_of s (get_or words n 0) v) e ∙ held

with_shape : (words : List ℕ) (n v value : ℕ) (shape : Shape) → shape_at n ≡ shape → held_at words n v ≡ value → field_of shape (get_or words n 0) v ≡ value
with_shape words n v value shape e held = ap (λ (s : Shape). field_of s (get_or words n 0) v) (sym e) ∙ held

-- the owners at the four kinds of switch
line_owner : (words : List ℕ) (paths : List Path) (l s v x : ℕ) → ShowsPaths words paths → AreInRange paths → l < 10 → s < 10 → v < 10
    → field_of LineShape (word_of words (LineSwitch l s)) v ≡ 1 + x
    → (q : Path) × IsIn q paths × AtLineSwitch q l s v (1 + x)
line_owner words paths l s v x shows ranges in_l in_s in_v held =
    let o =
    owner words paths (20 * l + s) v x shows (omega arith) in_v (by_shape words (20 * l + s) v (1 + x) LineShape (shape_at-line_switch l s in_l in_s) held) in
    let at = at_line_switch o.path o.crosspoint l s (ranges o.path o.within) in_l in_s o.word (which o.path o.crosspoint o.among) in
    (o.path, o.within, record { frame = at.frame; switch = at.switch; channel = at.channel ∙ o.field; value = sym o.value ∙ at.value })

line_junctor_owner : (words : List ℕ) (paths : List Path) (l n v s : ℕ) → ShowsPaths words paths → AreInRange paths → l < 10 → n < 10 → v < 10
    → field_of Other (word_of words (LineJunctor l n)) v ≡ 1 + s
    → (q : Path) × IsIn q paths × AtLineJunctor q l n v (1 + s)
line_junctor_owner words paths l n v s shows ranges in_l in_n in_v held =
    let o =
    owner words paths (20 * l + 10 + n) v s shows (omega arith) in_v
    (by_shape words (20 * l + 10 + n) v (1 + s) Other (shape_at-line_junctor l n in_l in_n) held) in
    let at = at_line_junctor o.path o.crosspoint l n (ranges o.path o.within) in_l in_n o.word (which o.path o.crosspoint o.among) in
    (o.path, o.within, record { frame = at.frame; channel = at.channel; trunk_frame = at.trunk_frame ∙ o.field; value = sym o.value ∙ at.value })

trunk_junctor_owner : (words : List ℕ) (paths : List Path) (t n v u : ℕ) → ShowsPaths words paths → AreInRange paths → t < 10 → n < 10 → v < 10
    → field_of Other (word_of words (TrunkJunctor t n)) v ≡ 1 + u
    → (q : Path) × IsIn q paths × AtTrunkJunctor q t n v (1 + u)
trunk_junctor_owner words paths t n v u shows ranges in_t in_n in_v held =
    let o =
    owner words paths (200 + 20 * t + 10 + n) v u shows (omega arith) in_v
    (by_shape words (200 + 20 * t + 10 + n) v (1 + u) Other (shape_at-trunk_junctor t n) held) in
    let at = at_trunk_junctor o.path o.crosspoint t n (ranges o.path o.within) in_t in_n o.word (which o.path o.crosspoint o.among) in
    (o.path, o.within, record { frame = at.frame; channel = at.channel; line_frame = at.line_frame ∙ o.field; value = sym o.value ∙ at.value })

trunk_owner : (words : List ℕ) (paths : List Path) (t u v a : ℕ) → ShowsPaths words paths → AreInRange paths → t < 10 → u < 10 → v < 10
    → field_of Other (word_of words (TrunkSwitch t u)) v ≡ 1 + a
    → (q : Path) × IsIn q paths × AtTrunkSwitch q t u v (1 + a)
trunk_owner words paths t u v a shows ranges in_t in_u in_v held =
    let o =
    owner words paths (200 + 20 * t + u) v a shows (omega arith) in_v (by_shape words (200 + 20 * t + u) v (1 + a) Other (shape_at-trunk_switch t u) held) in
    let at = at_trunk_switch o.path o.crosspoint t u (ranges o.path o.within) in_t in_u o.word (which o.path o.crosspoint o.among) in
    (o.path, o.within, record { frame = at.frame; switch = at.switch; channel = at.channel ∙ o.field; value = sym o.value ∙ at.value })

-- a path with a crosspoint there has the line, or the place
line_at : (q : Path) (line : Line) (v : ℕ) → AtLineSwitch q line.frame line.switch v (1 + line.x) → q.line ≡ line
line_at q line v at =
    let x : q.line.x ≡ line.x = omega (arith, at.value) in
    λ i. record { frame = at.frame i; switch = at.switch i; x = x i }

place_at : (q : Path) (place : TrunkPlace) (v : ℕ) → AtTrunkSwitch q place.frame place.switch v (1 + place.appearance) → q.place ≡ place
place_at q place v at =
    let a : q.place.appearance ≡ place.appearance = omega (arith, at.value) in
    λ i. record { frame = at.frame i; switch = at.switch i; appearance = a i }

-- the lowest field with the place is the path's own if every field with the place is the path's
least : (shape : Shape) (word place v : ℕ) → v < 10 → field_of shape word v ≡ 1 + place → ((j : ℕ) → j < 10 → field_of shape word j ≡ 1 + place → v ≡ j)
    → field_at_place shape word place ≡ Some v
least shape word place v in_range held only =
    first_below-found (λ j. field_of shape word j == 1 + place) 10 v in_range (eq-eqb _ _ held)
    (λ j earlier. ne_eqb _ _ (λ e. let same : v ≡ j = only j (omega arith) e in omega arith))

no_field : (shape : Shape) (word place : ℕ) → ((j : ℕ) → j < 10 → field_of shape word j ≡ 1 + place → ⊥) → field_at_place shape word place ≡ None
no_field shape word place never = first_below-none (λ j. field_of shape word j == 1 + place) 10 (λ j below. ne_eqb _ _ (never j below))

-- the place that a value means
told-place : (shape : Shape) (held place : ℕ) → place < places shape → held ≡ 1 + place → place_of_value shape held ≡ Some place
told-place shape held place in_range e = ap (place_of_value shape) (e ∙ one-add place) ∙ in_turn (nat_lt place (places shape)) (lt-ltb _ _ in_range) where
  in_turn : (b : Bool) → b ≡ true → (if b then Some place else None) ≡ Some place
  in_turn b is = rw is refl

-- what the four fields of a path hold
record Fields (words : List ℕ) (p : Path) : Type 0 where
  line : field_of LineShape (word_of words (LineSwitch p.line.frame p.line.switch)) p.channel ≡ 1 + p.line.x
  line_junctor : field_of Other (word_of words (LineJunctor p.line.frame p.channel)) p.place.frame ≡ 1 + p.line.switch
  trunk_junctor : field_of Other (word_of words (TrunkJunctor p.place.frame p.channel)) p.line.frame ≡ 1 + p.place.switch
  trunk : field_of Other (word_of words (TrunkSwitch p.place.frame p.place.switch)) p.channel ≡ 1 + p.place.appearance

fields : (words : List ℕ) (paths : List Path) (p : Path) → ShowsPaths words paths → AreInRange paths → IsIn p paths → Fields words p
fields words paths p shows ranges within =
    let r = ranges p within in
    let f = r.line.frame in let s = r.line.switch in let n = r.channel in let t = r.place.frame in let u = r.place.switch in
    record {
      line =
          with_shape words _ p.channel _ LineShape (shape_at-line_switch p.line.frame p.line.switch f s)
          ((shows.switch (20 * p.line.frame + p.line.switch) (omega arith)).closed _ (p, within, inl refl) refl);
      line_junctor =
          with_shape words _ p.place.frame _ Other (shape_at-line_junctor p.line.frame p.channel f n)
          ((shows.switch (20 * p.line.frame + 10 + p.channel) (omega arith)).closed _ (p, within, inr (inl refl)) refl);
      trunk_junctor =
          with_shape words _ p.line.frame _ Other (shape_at-trunk_junctor p.place.frame p.channel)
          ((shows.switch (200 + 20 * p.place.frame + 10 + p.channel) (omega arith)).closed _ (p, within, inr (inr (inl refl))) refl);
      trunk =
          with_shape words _ p.channel _ Other (shape_at-trunk_switch p.place.frame p.place.switch)
          ((shows.switch (200 + 20 * p.place.frame + p.place.switch) (omega arith)).closed _ (p, within, inr (inr (inr (inl refl)))) refl);
    }

-- a line's field in its line switch is that of its path
pub line_field-path : (words : List ℕ) (paths : List Path) (p : Path) → ShowsPaths words paths → AreInRange paths → AreApart paths → IsIn p paths
    → field_at_place LineShape (word_of words (LineSwitch p.line.frame p.line.switch)) p.line.x ≡ Some p.channel
line_field-path words paths p shows ranges apart within =
    let r = ranges p within in
    let held = fields words paths p shows ranges within in
    least LineShape _ p.line.x p.channel r.channel held.line (λ j in_j e.
    let o = line_owner words paths p.line.frame p.line.switch j p.line.x shows ranges r.line.frame r.line.switch in_j e in
    let same = apart p o.0 within o.1 (inl (sym (line_at o.0 p.line j o.2))) in
    ap (λ (q : Path). q.channel) same ∙ o.2.channel)

-- and a line in no path has none
pub line_field-none : (words : List ℕ) (paths : List Path) (line : Line) → ShowsPaths words paths → AreInRange paths → IsLine line
    → ((q : Path) → IsIn q paths → has_line line q ≡ false) → field_at_place LineShape (word_of words (LineSwitch line.frame line.switch)) line.x ≡ None
line_field-none words paths line shows ranges l none =
    no_field LineShape _ line.x (λ j in_j e.
    let o = line_owner words paths line.frame line.switch j line.x shows ranges l.frame l.switch in_j e in
    true≢false (sym ((line_eq-exact o.0.line line).1 (line_at o.0 line j o.2)) ∙ none o.0 o.1))

-- the trace of a path's line follows the path
pub traced-path : (words : List ℕ) (paths : List Path) (p : Path) → ShowsPaths words paths → AreInRange paths → AreApart paths → IsIn p paths
    → traced words p.line ≡ Some p
traced-path words paths p shows ranges apart within =
    ap (option_and_then (traced_by words p.line)) channel ∙ ap (option_and_then (traced_to words p.line p.channel)) frame
    ∙ ap (option_and_then (traced_at words p.line p.channel p.place.frame)) switch ∙ ap (option_map along) appearance where
      r : IsPath p
      r = ranges p within

      held : Fields words p
      held = fields words paths p shows ranges within

      along : ℕ → Path
      along a = record { line = p.line; channel = p.channel; place = record { frame = p.place.frame; switch = p.place.switch; appearance = a } }

      channel : field_at_place LineShape (word_of words (LineSwitch p.line.frame p.line.switch)) p.line.x ≡ Some p.channel
      channel = line_field-path words paths p shows ranges apart within

      frame : field_at_place Other (word_of words (LineJunctor p.line.frame p.channel)) p.line.switch ≡ Some p.place.frame
      frame = least Other _ p.line.switch p.place.frame r.place.frame held.line_junctor (λ j in_j e.
          let o = line_junctor_owner words paths p.line.frame p.channel j p.line.switch shows ranges r.line.frame r.channel in_j e in
          let switch : o.0.line.switch ≡ p.line.switch = omega (arith, o.2.value) in
          let link =
          line_link_at o.0 p.line.frame p.line.switch p.channel (1 + o.0.line.x)
          (record { frame = o.2.frame; switch = switch; channel = o.2.channel; value = refl }) in
          let same = apart p o.0 within o.1 (inr (inr (inl (sym link)))) in
          ap (λ (q : Path). q.place.frame) same ∙ o.2.trunk_frame)

      switch : place_at_field Other (word_of words (TrunkJunctor p.place.frame p.channel)) p.line.frame ≡ Some p.place.switch
      switch = told-place Other _ p.place.switch r.place.switch held.trunk_junctor

      appearance : place_at_field Other (word_of words (TrunkSwitch p.place.frame p.place.switch)) p.channel ≡ Some p.place.appearance
      appearance = told-place Other _ p.place.appearance r.place.appearance held.trunk

-- the trace of its place follows the path back
pub traced_back-path : (words : List ℕ) (paths : List Path) (p : Path) → ShowsPaths words paths → AreInRange paths → AreApart paths → IsIn p paths
    → traced_back words p.place ≡ Some p
traced_back-path words paths p shows ranges apart within =
    ap (option_and_then (traced_back_by words p.place)) channel ∙ ap (option_and_then (traced_back_to words p.place p.channel)) frame
    ∙ ap (option_and_then (traced_back_at words p.place p.channel p.line.frame)) switch ∙ ap (option_map along) x where
      r : IsPath p
      r = ranges p within

      held : Fields words p
      held = fields words paths p shows ranges within

      along : ℕ → Path
      along x = record { line = record { frame = p.line.frame; switch = p.line.switch; x = x }; channel = p.channel; place = p.place }

      channel : field_at_place Other (word_of words (TrunkSwitch p.place.frame p.place.switch)) p.place.appearance ≡ Some p.channel
      channel = least Other _ p.place.appearance p.channel r.channel held.trunk (λ j in_j e.
          let o = trunk_owner words paths p.place.frame p.place.switch j p.place.appearance shows ranges r.place.frame r.place.switch in_j e in
          let same = apart p o.0 within o.1 (inr (inl (sym (place_at o.0 p.place j o.2)))) in
          ap (λ (q : Path). q.channel) same ∙ o.2.channel)

      frame : field_at_place Other (word_of words (TrunkJunctor p.place.frame p.channel)) p.place.switch ≡ Some p.line.frame
      frame = least Other _ p.place.switch p.line.frame r.line.frame held.trunk_junctor (λ j in_j e.
          let o = trunk_junctor_owner words paths p.place.frame p.channel j p.place.switch shows ranges r.place.frame r.channel in_j e in
          let switch : o.0.place.switch ≡ p.place.switch = omega (arith, o.2.value) in
          let link =
          trunk_link_at o.0 p.place.frame p.place.switch p.channel (1 + o.0.place.appearance)
          (record { frame = o.2.frame; switch = switch; channel = o.2.channel; value = refl }) in
          let same = apart p o.0 within o.1 (inr (inr (inr (inr (sym link))))) in
          ap (λ (q : Path). q.line.frame) same ∙ o.2.line_frame)

      switch : place_at_field Other (word_of words (LineJunctor p.line.frame p.channel)) p.place.frame ≡ Some p.line.switch
      switch = told-place Other _ p.line.switch r.line.switch held.line_junctor

      x : place_at_field LineShape (word_of words (LineSwitch p.line.frame p.line.switch)) p.channel ≡ Some p.line.x
      x = told-place LineShape _ p.line.x r.line.x held.line

-- a line in no path, and a place in none, has no trace
pub traced-none : (words : List ℕ) (paths : List Path) (line : Line) → ShowsPaths words paths → AreInRange paths → IsLine line
    → ((q : Path) → IsIn q paths → has_line line q ≡ false) → traced words line ≡ None
traced-none words paths line shows ranges l none = ap (option_and_then (traced_by words line)) (line_field-none words paths line shows ranges l none)

pub traced_back-none : (words : List ℕ) (paths : List Path) (place : TrunkPlace) → ShowsPaths words paths → AreInRange paths → IsTrunkPlace place
    → ((q : Path) → IsIn q paths → has_place place q ≡ false) → traced_back words place ≡ None
traced_back-none words paths place shows ranges p none =
    ap (option_and_then (traced_back_by words place)) (no_field Other _ place.appearance (λ j in_j e.
    let o = trunk_owner words paths place.frame place.switch j place.appearance shows ranges p.frame p.switch in_j e in
    true≢false (sym ((place_eq-exact o.0.place place).1 (place_at o.0 place j o.2)) ∙ none o.0 o.1)))

-- what a search in a list finds
pub data Found (test : Path → Bool) (paths : List Path) (found : Option Path) : Type 0 where
  One : (p : Path) → IsIn p paths → test p ≡ true → found ≡ Some p → Found test paths found
  NoOne : ((p : Path) → IsIn p paths → test p ≡ false) → found ≡ None → Found test paths found

pub find-found : (test : Path → Bool) (paths : List Path) → Found test paths (find test paths)
find-found test [] = NoOne (λ p within. absurd within) refl
find-found test (p ∷ paths) = here (test p) refl (find-found test paths) where
  later : (q : Path) → test p ≡ false → ((q : Path) → IsIn q paths → test q ≡ false) → IsIn q (p ∷ paths) → test q ≡ false
  later q first rest (inl e) = ap test e ∙ first
  later q first rest (inr within) = rest q within

  here : (b : Bool) → test p ≡ b → Found test paths (find test paths) → Found test (p ∷ paths) (cond b (Some p) (find test paths))
  here true e rest = One p (inl refl) e refl
  here false e (One q within passes found) = One q (inr within) passes found
  here false e (NoOne none found) = NoOne (λ q within. later q e none within) found

-- the trace of a line is its path in the set, if it has one
pub traced-shown : (words : List ℕ) (paths : List Path) (line : Line) → IsLine line → ShowsPaths words paths → AreInRange paths → AreApart paths
    → traced words line ≡ find (has_line line) paths
traced-shown words paths line l shows ranges apart = by_found (find-found (has_line line) paths) where
  by_found : Found (has_line line) paths (find (has_line line) paths) → traced words line ≡ find (has_line line) paths
  by_found (One p within passes found) =
      ap (traced words) (sym ((line_eq-exact p.line line).0 passes)) ∙ traced-path words paths p shows ranges apart within ∙ sym found
  by_found (NoOne none found) = traced-none words paths line shows ranges l none ∙ sym found

pub traced_back-shown : (words : List ℕ) (paths : List Path) (place : TrunkPlace) → IsTrunkPlace place → ShowsPaths words paths → AreInRange paths
    → AreApart paths → traced_back words place ≡ find (has_place place) paths
traced_back-shown words paths place p' shows ranges apart = by_found (find-found (has_place place) paths) where
  by_found : Found (has_place place) paths (find (has_place place) paths) → traced_back words place ≡ find (has_place place) paths
  by_found (One p within passes found) =
      ap (traced_back words) (sym ((place_eq-exact p.place place).0 passes)) ∙ traced_back-path words paths p shows ranges apart within ∙ sym found
  by_found (NoOne none found) = traced_back-none words paths place shows ranges p' none ∙ sym found
