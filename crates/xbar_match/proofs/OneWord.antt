-- the same for one word: what it shows after those of a path's crosspoints that are in it are
-- closed or opened
use Rattle.std.proofs.Common.{◌≡◌, ℕ, ◌<◌, ◌==◌, if◌then◌else◌, true, List, [], ◌∷◌, length, get_or, fold, inl, inr, refl, sym, ◌∙◌, ap, subst, arith, eq-eqb}
use Rattle.std.proofs.Common.{ne_eqb, get_or-set_same, get_or-set_other}
use Rattle.{std.proofs.lemmas.Bool.cases_eq, xbar_equip.specs.{Among.IsIn, Path.IsPath, Paths.{AreApart, has_idle_links}, Crosspoint.crosspoints}}
use Rattle.xbar_equip.specs.declared.{path.Path.Path, crosspoint.Crosspoint.Crosspoint}
use Rattle.xbar_match.specs.{Shows.{AreInRange, IsClosedIn, WordShows}, Effects.{IsCrosspoint, closed_word, opened_word, close_in, open_in, close_path_in}}
use Rattle.xbar_match.specs.Effects.{open_path_in, close_at, open_at, close_path, open_path}
use Rattle.xbar_match.proofs.OneCrosspoint.{With, Without, IsFree, same-shows, close-shows, open-shows, elsewhere-with, elsewhere-without, length-close_at}
use Rattle.xbar_match.proofs.{OneCrosspoint.length-open_at, PathEffects.{line_of, line_junctor_of, trunk_junctor_of, trunk_of, crosspoint_line}}
use Rattle.xbar_match.proofs.PathEffects.{crosspoint_line_junctor, crosspoint_trunk_junctor, crosspoint_trunk, closed-ranges, stand_apart, in_turn, idle-free}
use Rattle.xbar_match.proofs.PathEffects.{With4, Without4, Adds, Removes, with_four-in, in-with_four, without_four-in, in-without_four}

-- in the crosspoint's own word, and in another
chosen : (c : Crosspoint) (word new : ℕ) → ◌≡◌ {A = ℕ} (if c.word == c.word then new else word) new
chosen c word new = rw (eq-eqb c.word c.word refl) refl

passed : (c : Crosspoint) (n word new : ℕ) → (c.word ≡ n → ⊥) → ◌≡◌ {A = ℕ} (if c.word == n then new else word) word
passed c n word new differs = rw (ne_eqb c.word n differs) refl

-- one word after a crosspoint is closed, and after one is opened
pub close_in-shows : (P : Crosspoint → Type 0) (c : Crosspoint) (n word : ℕ) → IsCrosspoint c → IsFree P c → WordShows P n word
    → WordShows (With P c) n (close_in n word c)
close_in-shows P c n word is free shows = elim (cases_eq c.word n) [
  | inl same ↦
      subst (λ (m : ℕ). WordShows P m word → WordShows (With P c) m (close_in m word c)) same
      (λ here. subst (λ (w : ℕ). WordShows (With P c) c.word w) (sym (chosen c word (closed_word c word))) (close-shows P c word is free here)) shows
  | inr differs ↦
      subst (λ (w : ℕ). WordShows (With P c) n w) (sym (passed c n word (closed_word c word) differs)) (elsewhere-with P c n word (λ e. differs (sym e)) shows)
]

pub open_in-shows : (P : Crosspoint → Type 0) (c : Crosspoint) (n word : ℕ) → ((d : Crosspoint) → P d → d.field < 10) → P c → WordShows P n word
    → WordShows (Without P c) n (open_in n word c)
open_in-shows P c n word ranges is shows = elim (cases_eq c.word n) [
  | inl same ↦
      subst (λ (m : ℕ). WordShows P m word → WordShows (Without P c) m (open_in m word c)) same
      (λ here. subst (λ (w : ℕ). WordShows (Without P c) c.word w) (sym (chosen c word (opened_word c word))) (open-shows P c word ranges is here)) shows
  | inr differs ↦
      subst (λ (w : ℕ). WordShows (Without P c) n w) (sym (passed c n word (opened_word c word) differs))
      (elsewhere-without P c n word (λ e. differs (sym e)) shows)
]

-- one word after a path with idle links is closed
pub close_path_in-shows : (paths more : List Path) (path : Path) (n word : ℕ) → AreInRange paths → IsPath path → has_idle_links paths path ≡ true
    → Adds paths more path
    → WordShows (IsClosedIn paths) n word → WordShows (IsClosedIn more) n (close_path_in n word path)
unfolding close_path_in
close_path_in-shows paths more path n word ranges p idle adds shows =
    let P = IsClosedIn paths in
    let turn = in_turn P path p (idle-free paths path ranges p idle) in
    let c1 = line_of path in let c2 = line_junctor_of path in let c3 = trunk_junctor_of path in let c4 = trunk_of path in
    let one = close_in-shows P c1 n word (crosspoint_line path p) turn.line shows in
    let two = close_in-shows (With P c1) c2 n (close_in n word c1) (crosspoint_line_junctor path p) turn.line_junctor one in
    let three = close_in-shows (With (With P c1) c2) c3 n (close_in n (close_in n word c1) c2) (crosspoint_trunk_junctor path p) turn.trunk_junctor two in
    let four =
    close_in-shows (With (With (With P c1) c2) c3) c4 n (close_in n (close_in n (close_in n word c1) c2) c3) (crosspoint_trunk path p) turn.trunk three in
    same-shows (With4 P path) (IsClosedIn more) n (fold (close_in n) word (crosspoints path)) (λ d. with_four-in paths more path d adds)
    (λ d. in-with_four paths more path d adds) four

-- one word after one of the paths is opened
pub open_path_in-shows : (paths rest : List Path) (path : Path) (n word : ℕ) → AreInRange paths → AreApart paths → IsIn path paths → Removes paths rest path
    → WordShows (IsClosedIn paths) n word → WordShows (IsClosedIn rest) n (open_path_in n word path)
unfolding open_path_in
open_path_in-shows paths rest path n word ranges apart within removes shows =
    let P = IsClosedIn paths in
    let ends = stand_apart path (ranges path within) in
    let c1 = line_of path in let c2 = line_junctor_of path in let c3 = trunk_junctor_of path in let c4 = trunk_of path in
    let P1 = Without P c1 in let P2 = Without P1 c2 in let P3 = Without P2 c3 in
    let fields = closed-ranges paths ranges in
    let is1 : P c1 = (path, within, inl refl) in
    let is2 : P1 c2 = ((path, within, inr (inl refl)), λ e. ends.line_line_junctor (ap (λ (x : Crosspoint). x.word) (sym e))) in
    let is3 : P2 c3 = (
      ((path, within, inr (inr (inl refl))), λ e. ends.line_trunk_junctor (ap (λ (x : Crosspoint). x.word) (sym e))),
      λ e. ends.line_junctor_trunk_junctor (ap (λ (x : Crosspoint). x.word) (sym e)),
    ) in
    let is4 : P3 c4 = (
      (
        ((path, within, inr (inr (inr (inl refl)))), λ e. ends.line_trunk (ap (λ (x : Crosspoint). x.word) (sym e))),
        λ e. ends.line_junctor_trunk (ap (λ (x : Crosspoint). x.word) (sym e)),
      ),
      λ e. ends.trunk_junctor_trunk (ap (λ (x : Crosspoint). x.word) (sym e)),
    ) in
    let one = open_in-shows P c1 n word fields is1 shows in
    let two = open_in-shows P1 c2 n (open_in n word c1) (λ d is. fields d is.0) is2 one in
    let three = open_in-shows P2 c3 n (open_in n (open_in n word c1) c2) (λ d is. fields d is.0.0) is3 two in
    let four = open_in-shows P3 c4 n (open_in n (open_in n (open_in n word c1) c2) c3) (λ d is. fields d is.0.0.0) is4 three in
    same-shows (Without4 P path) (IsClosedIn rest) n (fold (open_in n) word (crosspoints path)) (λ d. without_four-in paths rest path d removes)
    (λ d. in-without_four paths rest path d ranges apart within removes) four

-- word n of the words after a crosspoint is closed or opened
pub close_at-word : (words : List ℕ) (c : Crosspoint) (n : ℕ) → n < length words → get_or (close_at words c) n 0 ≡ close_in n (get_or words n 0) c
close_at-word words c n within = elim (cases_eq c.word n) [
  | inl same ↦
      subst (λ (m : ℕ). m < length words → get_or (close_at words c) m 0 ≡ close_in m (get_or words m 0) c) same
      (λ here. get_or-set_same words c.word (closed_word c (get_or words c.word 0)) 0 here
      ∙ sym (chosen c (get_or words c.word 0) (closed_word c (get_or words c.word 0)))) within
  | inr differs ↦
      get_or-set_other words c.word n (closed_word c (get_or words c.word 0)) 0 (λ e. differs (sym e))
      ∙ sym (passed c n (get_or words n 0) (closed_word c (get_or words n 0)) differs)
]

pub open_at-word : (words : List ℕ) (c : Crosspoint) (n : ℕ) → n < length words → get_or (open_at words c) n 0 ≡ open_in n (get_or words n 0) c
open_at-word words c n within = elim (cases_eq c.word n) [
  | inl same ↦
      subst (λ (m : ℕ). m < length words → get_or (open_at words c) m 0 ≡ open_in m (get_or words m 0) c) same
      (λ here. get_or-set_same words c.word (opened_word c (get_or words c.word 0)) 0 here
      ∙ sym (chosen c (get_or words c.word 0) (opened_word c (get_or words c.word 0)))) within
  | inr differs ↦
      get_or-set_other words c.word n (opened_word c (get_or words c.word 0)) 0 (λ e. differs (sym e))
      ∙ sym (passed c n (get_or words n 0) (opened_word c (get_or words n 0)) differs)
]

-- the same of several crosspoints, one after another
pub fold_close-word : (words : List ℕ) (cs : List Crosspoint) (n : ℕ) → n < length words
    → get_or (fold close_at words cs) n 0 ≡ fold (close_in n) (get_or words n 0) cs
fold_close-word words [] n within = refl
fold_close-word words (c ∷ cs) n within =
    fold_close-word (close_at words c) cs n (omega (arith, length-close_at words c)) ∙ ap (λ w. fold (close_in n) w cs) (close_at-word words c n within)

pub fold_open-word : (words : List ℕ) (cs : List Crosspoint) (n : ℕ) → n < length words
    → get_or (fold open_at words cs) n 0 ≡ fold (open_in n) (get_or words n 0) cs
fold_open-word words [] n within = refl
fold_open-word words (c ∷ cs) n within =
    fold_open-word (open_at words c) cs n (omega (arith, length-open_at words c)) ∙ ap (λ w. fold (open_in n) w cs) (open_at-word words c n within)

-- and of the four of a path
pub close_path-word : (words : List ℕ) (path : Path) (n : ℕ) → n < length words → get_or (close_path words path) n 0 ≡ close_path_in n (get_or words n 0) path
unfolding close_path close_path_in
close_path-word words path n within = fold_close-word words (crosspoints path) n within

pub open_path-word : (words : List ℕ) (path : Path) (n : ℕ) → n < length words → get_or (open_path words path) n 0 ≡ open_path_in n (get_or words n 0) path
unfolding open_path open_path_in
open_path-word words path n within = fold_open-word words (crosspoints path) n within
