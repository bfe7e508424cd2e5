-- on words that show a set of paths, each path has four of the closed fields, and one of those of
-- line switches
use Rattle.std.proofs.Common.{◌≡◌, ◌≢◌, ℕ, ◌+◌, ◌*◌, ◌/◌, ◌%◌, ◌<◌, ◌≤◌, ◌==◌, if◌then◌else◌, List, [], ◌∷◌, length, get_or, inl, inr, refl, sym, ◌∙◌, ap}
use Rattle.std.proofs.Common.{subst, arith, get_or-set_same, get_or-set_other}
use Rattle.xbar_equip.specs.{Among.IsIn, Path.IsPath, Paths.{IsSet, AreApart}, Crosspoint.{crosspoints, crosspoint_at}}
use Rattle.xbar_equip.specs.{Word.{LineSwitch, LineJunctor, TrunkSwitch, TrunkJunctor}, declared.{path.Path.Path, crosspoint.Crosspoint.Crosspoint}}
use Rattle.{xbar_equip.proofs.PathSets.before-apart, xbar_switch.specs.{Field.{field_of, with_open}, declared.shape.Shape.{Shape, TheVariants.Line}}}
use Rattle.xbar_switch.proofs.Fields.{field_of-open_same, field_of-open_other}
use Rattle.xbar_match.specs.{Switches.{shape_at, held_at}, Shows.{AreInRange, ShowsPaths}, Effects.{IsCrosspoint, opened_word, open_at, open_path, EachOpens}}
use Rattle.xbar_match.specs.Counts.{closed_fields, closed_line_fields, closed_switch_fields}
use Rattle.xbar_match.proofs.{SwitchShapes.shape_at-line_switch, OneCrosspoint.length-open_at, PathEffects.{crosspoint, Removes, four_opened, open_path-shows}}
use Rattle.xbar_match.proofs.ClosedCounts.{sum_below-same, sum_below-none, sum_below-change, counts-closed, counts-open}

-- opening a closed field leaves one closed field fewer in the word
closed_fields-open : (shape : Shape) (word v : ℕ) → v < 10 → (field_of shape word v ≡ 0 → ⊥)
    → closed_fields shape word ≡ closed_fields shape (with_open shape word v) + 1
closed_fields-open shape word v in_range closed =
    let new = with_open shape word v in
    let f : ℕ → ℕ = λ j. if field_of shape word j == 0 then 0 else 1 in
    let g : ℕ → ℕ = λ j. if field_of shape new j == 0 then 0 else 1 in
    let here : f v ≡ g v + 1 =
    counts-closed (field_of shape word v) closed ∙ ap (λ n. n + 1) (sym (counts-open (field_of shape new v) (field_of-open_same shape word v in_range))) in
    sum_below-change f g v 1 10 in_range here (λ j below differs. ap (λ (h : ℕ). let n : ℕ = if h == 0 then 0 else 1 in n)
    (sym (field_of-open_other shape word v j in_range below differs)))

-- the word of a crosspoint after the crosspoint is opened, and every other word
opened_here : (words : List ℕ) (c : Crosspoint) → c.word < length words → get_or (open_at words c) c.word 0 ≡ opened_word c (get_or words c.word 0)
opened_here words c within = get_or-set_same words c.word (opened_word c (get_or words c.word 0)) 0 within

opened_elsewhere : (words : List ℕ) (c : Crosspoint) (n : ℕ) → n ≢ c.word → get_or (open_at words c) n 0 ≡ get_or words n 0
opened_elsewhere words c n differs = get_or-set_other words c.word n (opened_word c (get_or words c.word 0)) 0 differs

-- opening a closed crosspoint leaves one closed field fewer
pub closed_switch_fields-open_at : (words : List ℕ) (c : Crosspoint) → 400 ≤ length words → IsCrosspoint c → held_at words c.word c.field ≡ c.value
    → closed_switch_fields words ≡ closed_switch_fields (open_at words c) + 1
closed_switch_fields-open_at words c long is held =
    let f : ℕ → ℕ = λ n. closed_fields (shape_at n) (get_or words n 0) in
    let g : ℕ → ℕ = λ n. closed_fields (shape_at n) (get_or (open_at words c) n 0) in
    let closed : held_at words c.word c.field ≡ 0 → ⊥ = λ e. omega (arith, is.closed, held, e) in
    let here : f c.word ≡ g c.word + 1 =
    closed_fields-open (shape_at c.word) (get_or words c.word 0) c.field is.field closed
    ∙ ap (λ w. closed_fields (shape_at c.word) w + 1) (sym (opened_here words c (omega (arith, is.word)))) in
    sum_below-change f g c.word 1 400 is.word here (λ n below differs. ap (closed_fields (shape_at n)) (sym (opened_elsewhere words c n differs)))

-- the same for line switches; opening a crosspoint of another switch changes nothing there
pub closed_line_fields-open_line : (words : List ℕ) (c : Crosspoint) (frame switch : ℕ) → 400 ≤ length words → frame < 10 → switch < 10
    → c.word ≡ 20 * frame + switch → IsCrosspoint c → held_at words c.word c.field ≡ c.value
    → closed_line_fields words ≡ closed_line_fields (open_at words c) + 1
closed_line_fields-open_line words c frame switch long in_frame in_switch at is held =
    let f : ℕ → ℕ = λ k. closed_fields Line (get_or words (20 * (k / 10) + k % 10) 0) in
    let g : ℕ → ℕ = λ k. closed_fields Line (get_or (open_at words c) (20 * (k / 10) + k % 10) 0) in
    let k = 10 * frame + switch in
    let number : c.word ≡ 20 * (k / 10) + k % 10 = omega (arith, at) in
    let shape : shape_at c.word ≡ Line = ap shape_at at ∙ shape_at-line_switch frame switch in_frame in_switch in
    let closed : held_at words c.word c.field ≡ 0 → ⊥ = λ e. omega (arith, is.closed, held, e) in
    let one : closed_fields (shape_at c.word) (get_or words c.word 0) ≡ closed_fields (shape_at c.word) (get_or (open_at words c) c.word 0) + 1 =
    closed_fields-open (shape_at c.word) (get_or words c.word 0) c.field is.field closed
    ∙ ap (λ w. closed_fields (shape_at c.word) w + 1) (sym (opened_here words c (omega (arith, is.word)))) in
    let by_line : closed_fields Line (get_or words c.word 0) ≡ closed_fields Line (get_or (open_at words c) c.word 0) + 1 =
    subst (λ (s : Shape). closed_fields s (get_or words c.word 0) ≡ closed_fields s (get_or (open_at words c) c.word 0) + 1) shape one in
    let here : f k ≡ g k + 1 =
    subst (λ (n : ℕ). closed_fields Line (get_or words n 0) ≡ closed_fields Line (get_or (open_at words c) n 0) + 1) number by_line in
    sum_below-change f g k 1 100 (omega arith) here
    (λ j below differs. ap (closed_fields Line) (sym (opened_elsewhere words c (20 * (j / 10) + j % 10) (λ e. differs (omega (arith, at, e))))))

pub closed_line_fields-open_other : (words : List ℕ) (c : Crosspoint) → ((frame switch : ℕ) → frame < 10 → switch < 10 → 20 * frame + switch ≡ c.word → ⊥)
    → closed_line_fields words ≡ closed_line_fields (open_at words c)
closed_line_fields-open_other words c other =
    sum_below-same (λ k. closed_fields Line (get_or words (20 * (k / 10) + k % 10) 0))
    (λ k. closed_fields Line (get_or (open_at words c) (20 * (k / 10) + k % 10) 0)) 100
    (λ j below. ap (closed_fields Line) (sym (opened_elsewhere words c (20 * (j / 10) + j % 10) (other (j / 10) (j % 10) (omega arith) (omega arith)))))

four_more : (a b c d e : ℕ) → a ≡ b + 1 → b ≡ c + 1 → c ≡ d + 1 → d ≡ e + 1 → a ≡ e + 4
four_more a b c d e one two three four = omega arith

-- opening the four crosspoints of a path
pub record CountsFour (words : List ℕ) (path : Path) : Type 0 where
  pub closed : closed_switch_fields words ≡ closed_switch_fields (open_path words path) + 4
  pub lines : closed_line_fields words ≡ closed_line_fields (open_path words path) + 1
  pub long : 400 ≤ length (open_path words path)

pub counts_four : (words : List ℕ) (path : Path) → 400 ≤ length words → IsPath path → EachOpens words (crosspoints path) → CountsFour words path
unfolding open_path
counts_four words path long p steps =
    let f = p.line.frame in let s = p.line.switch in let n = p.channel in let t = p.place.frame in let u = p.place.switch in
    let c1 = crosspoint_at (LineSwitch path.line.frame path.line.switch) path.channel path.line.x in
    let c2 = crosspoint_at (LineJunctor path.line.frame path.channel) path.place.frame path.line.switch in
    let c3 = crosspoint_at (TrunkJunctor path.place.frame path.channel) path.line.frame path.place.switch in
    let c4 = crosspoint_at (TrunkSwitch path.place.frame path.place.switch) path.channel path.place.appearance in
    let k1 = crosspoint path c1 p (inl refl) in let k2 = crosspoint path c2 p (inr (inl refl)) in
    let k3 = crosspoint path c3 p (inr (inr (inl refl))) in let k4 = crosspoint path c4 p (inr (inr (inr (inl refl)))) in
    let words1 = open_at words c1 in let words2 = open_at words1 c2 in let words3 = open_at words2 c3 in let words4 = open_at words3 c4 in
    let long1 : 400 ≤ length words1 = omega (arith, length-open_at words c1) in
    let long2 : 400 ≤ length words2 = omega (arith, length-open_at words1 c2) in
    let long3 : 400 ≤ length words3 = omega (arith, length-open_at words2 c3) in
    let long4 : 400 ≤ length words4 = omega (arith, length-open_at words3 c4) in
    let one = closed_switch_fields-open_at words c1 long k1 steps.0 in
    let two = closed_switch_fields-open_at words1 c2 long1 k2 steps.1.0 in
    let three = closed_switch_fields-open_at words2 c3 long2 k3 steps.1.1.0 in
    let four = closed_switch_fields-open_at words3 c4 long3 k4 steps.1.1.1.0 in
    let line = closed_line_fields-open_line words c1 path.line.frame path.line.switch long f s refl k1 steps.0 in
    let line_junctor = closed_line_fields-open_other words1 c2 (λ frame switch a b e. omega arith) in
    let trunk_junctor = closed_line_fields-open_other words2 c3 (λ frame switch a b e. omega arith) in
    let trunk = closed_line_fields-open_other words3 c4 (λ frame switch a b e. omega arith) in
    record {
      closed =
          four_more (closed_switch_fields words) (closed_switch_fields words1) (closed_switch_fields words2) (closed_switch_fields words3)
          (closed_switch_fields words4) one two three four;
      lines = line ∙ ap (λ x. x + 1) (line_junctor ∙ trunk_junctor ∙ trunk);
      long = long4;
    }

-- words that show no path have no closed field
counts_none : (words : List ℕ) → ShowsPaths words [] → (closed_switch_fields words ≡ 0) × (closed_line_fields words ≡ 0)
counts_none words shows = (
  sum_below-none (λ n. closed_fields (shape_at n) (get_or words n 0)) 400 (λ n below. no_field n below),
  sum_below-none (λ k. closed_fields Line (get_or words (20 * (k / 10) + k % 10) 0)) 100
      (λ k below. ap (λ (s : Shape). closed_fields s (get_or words (20 * (k / 10) + k % 10) 0))
      (sym (shape_at-line_switch (k / 10) (k % 10) (omega arith) (omega arith))) ∙ no_field (20 * (k / 10) + k % 10) (omega arith)),
) where
  no_field : (n : ℕ) → n < 400 → closed_fields (shape_at n) (get_or words n 0) ≡ 0
  no_field n below = sum_below-none (λ v. if field_of (shape_at n) (get_or words n 0) v == 0 then 0 else 1) 10
      (λ v in_range. elim ((shows.switch n below).others v in_range)
      [ inl e ↦ counts-open (field_of (shape_at n) (get_or words n 0) v) e | inr is ↦ absurd is.1 ])

-- the rest of a set is the set without its first path
rest-removes : (p : Path) (paths : List Path) → IsSet (p ∷ paths) → Removes (p ∷ paths) paths p
rest-removes p paths is_set = record {
  there = λ q within. within;
  back = λ q within. inr within;
  other = λ q within same. before-apart p paths is_set.0 (subst (λ (x : Path). IsIn x paths) same within);
}

pub record CountsPaths (words : List ℕ) (paths : List Path) : Type 0 where
  pub closed : closed_switch_fields words ≡ 4 * length paths
  pub lines : closed_line_fields words ≡ length paths

pub counted : (words : List ℕ) (paths : List Path) → 400 ≤ length words → ShowsPaths words paths → AreInRange paths → AreApart paths → IsSet paths
    → CountsPaths words paths
counted words [] long shows ranges apart is_set = let none = counts_none words shows in record { closed = none.0; lines = none.1 }
counted words (p ∷ paths) long shows ranges apart is_set =
    let four = counts_four words p long (ranges p (inl refl)) (four_opened words (p ∷ paths) p long shows ranges (inl refl)).steps in
    let rest = open_path-shows words (p ∷ paths) paths p long shows ranges apart (inl refl) (rest-removes p paths is_set) in
    let fewer = counted (open_path words p) paths four.long rest (λ q within. ranges q (inr within)) (λ q r a b. apart q r (inr a) (inr b)) is_set.1 in
    record { closed = omega (arith, four.closed, fewer.closed); lines = omega (arith, four.lines, fewer.lines) }
