-- what the ends of completing jobs and of releases determine of the set after them
use Rattle.std.proofs.Common.{◌≡◌, ◌≢◌, ℕ, true, List, refl, sym, ◌∙◌, ap, subst, ◌↔◌, Option, Some, None}
use Rattle.xbar_equip.specs.{Among.IsIn, Dialled.code_of, Len.{Line, IsLine}, Paths.{IsSet, has_line, is_idle, without_path}, declared.path.Path.Path}
use Rattle.xbar_equip.proofs.{Lists.found_passes, PathSets.{without-in, in-without, set-without}, PathTests.line_eq-exact}
use Rattle.{xbar_plan.specs.{Tables.{Tables, route_of}, Lawful.IsLawful}, xbar_office.specs.{Complete.{call, complete, complete_from}, Done.{Done, with_added}}}
use Rattle.xbar_office.specs.{LawfulSet.IsLawfulSet, Release.{without_other, release, release_from}, AddedPaths.added_by}
use Rattle.xbar_office.specs.{Standing.{path_of, other_path, register_path}, declared.reply.End.{End, TheVariants.{Connected, Released}}}
use Rattle.xbar_office.proofs.{AddedByEnd.AreOfTwoLines, CompletedJobs.{adds, line_idle, complete-is_call}}

module _ (plan : Tables) (paths : List Path) (line : Line) (dialled : ℕ) (laws : IsLawful plan) (lawful : IsLawfulSet plan paths) (in_range : IsLine line) where
  -- if the end names no path, only the register's path is gone
  pub only_gives_back : (own : Path) → register_path plan paths line ≡ Some own → added_by (complete plan paths line dialled).reply.end ≡ None
      → (complete plan paths line dialled).paths ≡ without_path paths own
  only_gives_back own register none =
      let is = complete-is_call plan paths line dialled own laws lawful in_range register in
      let done = call plan (without_path paths own) line dialled (route_of plan (code_of dialled)) in
      let nothing : added_by done.reply.end ≡ None = ap (λ (d : Done). added_by d.reply.end) (sym is) ∙ none in
      ap (λ (d : Done). d.paths) is ∙ (adds plan paths line dialled own laws lawful in_range register).added ∙ ap (with_added (without_path paths own)) nothing

  -- so the line is idle then
  pub idle_then : (own : Path) → register_path plan paths line ≡ Some own → added_by (complete plan paths line dialled).reply.end ≡ None
      → is_idle (has_line line) (complete plan paths line dialled).paths ≡ true
  idle_then own register none =
      subst (λ (p : List Path). is_idle (has_line line) p ≡ true) (sym (only_gives_back own register none))
      (line_idle plan paths line dialled own laws lawful in_range register)

  two_lines_of : (end : End) → AreOfTwoLines (added_by end) → (calling called : Path) (trial : ℕ) → end ≡ Connected calling (Some called) trial
      → called.line ≢ calling.line
  two_lines_of end are calling called trial is = subst (λ (e : End). AreOfTwoLines (added_by e)) is are called refl

  -- the two paths of a call are of different lines
  pub never_its_own_line : (calling called : Path) (trial : ℕ) → (complete plan paths line dialled).reply.end ≡ Connected calling (Some called) trial
      → called.line ≢ calling.line
  never_its_own_line calling called trial is = of (register_path plan paths line) refl is where
    of : (found : Option Path) → register_path plan paths line ≡ found
        → (complete_from plan paths line dialled found).reply.end ≡ Connected calling (Some called) trial → called.line ≢ calling.line
    of None e is = cc
    of (Some own) e is = two_lines_of _ (adds plan paths line dialled own laws lawful in_range e).apart calling called trial is

-- a path is left if it was there and is neither of those removed
pub left_in : (paths : List Path) (own : Path) (other : Option Path) → IsSet paths → (q : Path)
    → IsIn q (without_other (without_path paths own) other) ↔ (IsIn q paths × (q ≢ own) × (other ≢ Some q))
left_in paths own None set q = (λ within. let was = without-in paths own q set within in (was.0, was.1, λ e. cc), λ was. in-without paths own q was.0 was.1)
left_in paths own (Some other) set q = (
  λ within.
      let rest = without-in (without_path paths own) other q (set-without paths own set) within in
      let was = without-in paths own q set rest.0 in
      (was.0, was.1, λ e. let same : other ≡ q = cc in rest.1 (sym same)),
  λ was. in-without (without_path paths own) other q (in-without paths own q was.0 was.1) (λ same. was.2 (ap (λ (p : Path). Some p) (sym same))),
)

-- a release leaves exactly the paths that it does not name
pub leaves_others : (plan : Tables) (paths : List Path) (line : Line) (own : Path) (other : Option Path) → IsLawfulSet plan paths
    → (release plan paths line).reply.end ≡ Released own other
    → (q : Path) → IsIn q (release plan paths line).paths ↔ (IsIn q paths × (q ≢ own) × (other ≢ Some q))
leaves_others plan paths line own other lawful is q = of (path_of paths line) is where
  of : (found : Option Path) → (release_from plan paths found).reply.end ≡ Released own other
      → IsIn q (release_from plan paths found).paths ↔ (IsIn q paths × (q ≢ own) × (other ≢ Some q))
  of None is = cc
  of (Some path) is =
      let own_is : path ≡ own = cc in
      let other_is : other_path plan paths path ≡ other = cc in
      let here = left_in paths path (other_path plan paths path) lawful.orderly.set q in
      let there =
      subst (λ (p : Path). IsIn q (without_other (without_path paths path) (other_path plan paths path))
      ↔ (IsIn q paths × (q ≢ p) × (other_path plan paths path ≢ Some q))) own_is here in
      subst (λ (o : Option Path). IsIn q (without_other (without_path paths path) (other_path plan paths path)) ↔ (IsIn q paths × (q ≢ own) × (o ≢ Some q)))
      other_is there

-- and the own path was the line's
pub names_its_path : (plan : Tables) (paths : List Path) (line : Line) (own : Path) (other : Option Path)
    → (release plan paths line).reply.end ≡ Released own other → IsIn own paths × (own.line ≡ line)
names_its_path plan paths line own other is = of (path_of paths line) refl is where
  of : (found : Option Path) → path_of paths line ≡ found → (release_from plan paths found).reply.end ≡ Released own other → IsIn own paths × (own.line ≡ line)
  of None e is = cc
  of (Some path) e is =
      let own_is : path ≡ own = cc in
      let passes = found_passes (has_line line) paths path e in
      subst (λ (p : Path). IsIn p paths × (p.line ≡ line)) own_is (passes.0, (line_eq-exact path.line line).0 passes.1)
