-- a path that can be added to an orderly set, which stays orderly
use Rattle.std.proofs.Common.{◌≡◌, ◌+◌, ◌⊎◌, true, List, length, inl, inr, refl, sym, ◌∙◌, subst, ◌&&◌}
use Rattle.xbar_equip.specs.{Among.IsIn, Path.{IsPath, SharesPart, line_link, junctor, trunk_link}}
use Rattle.xbar_equip.specs.{Paths.{has_line, has_place, has_link, is_idle, has_idle_links, with_path}, declared.path.Path.Path}
use Rattle.xbar_equip.proofs.{Logic.both, PathSets.{with-in, set-with}, PathTests.{line_eq-exact, place_eq-exact, has_link-exact}}
use Rattle.{xbar_plan.specs.Tables.Tables, xbar_office.{specs.LawfulSet.{IsMembersPlace, IsOrderlySet}, proofs.AddedPaths.{not_of_set, length-with}}}

-- a path whose parts are all idle, and whose place is a member's
pub record CanStand (plan : Tables) (paths : List Path) (path : Path) : Type 0 where
  pub range : IsPath path
  pub line : is_idle (has_line path.line) paths ≡ true
  pub place : is_idle (has_place path.place) paths ≡ true
  pub links : has_idle_links paths path ≡ true
  pub own : IsMembersPlace plan path.place

shares_back : (p q : Path) → SharesPart p q → SharesPart q p
shares_back p q (inl e) = inl (sym e)
shares_back p q (inr (inl e)) = inr (inl (sym e))
shares_back p q (inr (inr (inl e))) = inr (inr (inl (sym e)))
shares_back p q (inr (inr (inr (inl e)))) = inr (inr (inr (inl (sym e))))
shares_back p q (inr (inr (inr (inr e)))) = inr (inr (inr (inr (sym e))))

module _ (plan : Tables) (paths : List Path) (path : Path) (can : CanStand plan paths path) where
  -- the path shares no part with a path of the set
  clash : (q : Path) → IsIn q paths → SharesPart path q → ⊥
  clash q within (inl e) = not_of_set (has_line path.line) paths q can.line ((line_eq-exact q.line path.line).1 (sym e)) within
  clash q within (inr (inl e)) = not_of_set (has_place path.place) paths q can.place ((place_eq-exact q.place path.place).1 (sym e)) within
  clash q within (inr (inr (inl e))) =
      let links =
      both (is_idle (has_link (line_link path)) paths && is_idle (has_link (junctor path)) paths) (is_idle (has_link (trunk_link path)) paths) can.links in
      let first = both (is_idle (has_link (line_link path)) paths) (is_idle (has_link (junctor path)) paths) links.0 in
      not_of_set (has_link (line_link path)) paths q first.0 ((has_link-exact (line_link path) q).1 (inl (sym e))) within
  clash q within (inr (inr (inr (inl e)))) =
      let links =
      both (is_idle (has_link (line_link path)) paths && is_idle (has_link (junctor path)) paths) (is_idle (has_link (trunk_link path)) paths) can.links in
      let first = both (is_idle (has_link (line_link path)) paths) (is_idle (has_link (junctor path)) paths) links.0 in
      not_of_set (has_link (junctor path)) paths q first.1 ((has_link-exact (junctor path) q).1 (inr (inl (sym e)))) within
  clash q within (inr (inr (inr (inr e)))) =
      let links =
      both (is_idle (has_link (line_link path)) paths && is_idle (has_link (junctor path)) paths) (is_idle (has_link (trunk_link path)) paths) can.links in
      not_of_set (has_link (trunk_link path)) paths q links.1 ((has_link-exact (trunk_link path) q).1 (inr (inr (sym e)))) within

  apart_with : IsOrderlySet plan paths → (p q : Path) → (p ≡ path) ⊎ IsIn p paths → (q ≡ path) ⊎ IsIn q paths → SharesPart p q → p ≡ q
  apart_with orderly p q (inl first) (inl second) shares = first ∙ sym second
  apart_with orderly p q (inl first) (inr within) shares = absurd (clash q within (subst (λ (x : Path). SharesPart x q) first shares))
  apart_with orderly p q (inr within) (inl second) shares =
      absurd (clash p within (subst (λ (x : Path). SharesPart x p) second (shares_back p q shares)))
  apart_with orderly p q (inr within) (inr other) shares = orderly.apart p q within other shares

  -- the set with the path added is orderly
  pub orderly-with : IsOrderlySet plan paths → IsOrderlySet plan (with_path paths path)
  orderly-with orderly = record {
    set = set-with paths path orderly.set;
    ranges = λ q within. elim (with-in paths path q within) [ inl e ↦ subst (λ (x : Path). IsPath x) (sym e) can.range | inr there ↦ orderly.ranges q there ];
    places =
        λ q within. elim (with-in paths path q within) [
          | inl e ↦ subst (λ (x : Path). IsMembersPlace plan x.place) (sym e) can.own
          | inr there ↦ orderly.places q there
        ];
    apart = λ p q in_p in_q. apart_with orderly p q (with-in paths path p in_p) (with-in paths path q in_q);
  }

  -- and longer by one
  pub length-stands : length (with_path paths path) ≡ length paths + 1
  length-stands = length-with paths path (not_of_set (has_line path.line) paths path can.line ((line_eq-exact path.line path.line).1 refl))
