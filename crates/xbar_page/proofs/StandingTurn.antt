-- The paths that stand after a turn are those of its section.
use Rattle.std.proofs.Common.{◌≡◌, ℕ, zero, suc, ◌+◌, List, [], ◌∷◌, ap, ◌∙◌, arith, Some, slice_get}
use Rattle.{xbar_equip.specs.declared.path.Path.Path, xbar_office.specs.declared.reply.Record.Record, xbar_plan.specs.Tables.Tables}
use Rattle.xbar_page.{specs.{Sections.{Section, sections}, Stays.{has_path, sets_of, standing, stays}}, proofs.StandingPath.{and_true, tells}}

set_at : (all : List Section) (place : ℕ) (section : Section) → slice_get all place ≡ Some section → slice_get (sets_of all) place ≡ Some section.paths
set_at [] place section is = absurd cc
set_at (first ∷ more) zero section is = let same : first ≡ section = cc in ap (λ (s : Section). Some s.paths) same
set_at (first ∷ more) (suc place) section is = set_at more place section is

pub standing_turn : (plan : Tables) (records : List Record) (place : ℕ) (section : Section) → slice_get (sections plan records) place ≡ Some section
    → (path : Path)
    → has_path path (standing place (stays (sets_of (sections plan records)))) ≡ has_path path section.paths
standing_turn plan records place section is path =
    let same : place ≡ 0 + place = omega arith in
    ap (λ (turn : ℕ). has_path path (standing turn (stays (sets_of (sections plan records))))) same
    ∙ tells path place 0 [] (sets_of (sections plan records)) section.paths (set_at (sections plan records) place section is)
    ∙ and_true (has_path path section.paths)
