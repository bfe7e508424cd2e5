-- what the effects that open paths make of words that show a set
use Rattle.std.proofs.Common.{◌≡◌, ◌≢◌, ℕ, ◌≤◌, List, [], ◌∷◌, length, get_or, fold, map, inl, inr, refl, sym, ◌∙◌, ap, subst, arith, get_or-set_other}
use Rattle.std.proofs.Common.{length-set, Option, Some, None}
use Rattle.turns.specs.System.{AreDue, perform_all}
use Rattle.xbar_equip.specs.{Among.IsIn, Crosspoint.crosspoints, Path.IsPath, Paths.without_path, declared.{crosspoint.Crosspoint.Crosspoint, path.Path.Path}}
use Rattle.{xbar_plan.specs.Tables.Tables, xbar_match.specs.{Effects.{open_at, open_path, EachOpens}, Shows.ShowsPaths}}
use Rattle.xbar_match.proofs.PathEffects.{crosspoint, four_opened, open_path-shows, without_path-removes}
use Rattle.{xbar_office.specs.{LawfulSet.IsOrderlySet, Release.without_other}, xbar_jobs.specs.{Closing.{path_opens, other_opens}, Office.office}}
use Rattle.xbar_jobs.{specs.declared.effect.Effect.TheVariants.Open, proofs.TakenMembers.{Adds as LeadsTo, nothing_added as nothing_opened}}

-- opening crosspoints leaves every other word as it is
pub open_all-elsewhere : (words : List ℕ) (cs : List Crosspoint) (n : ℕ) → ((c : Crosspoint) → IsIn c cs → n ≢ c.word)
    → get_or (fold open_at words cs) n 0 ≡ get_or words n 0
open_all-elsewhere words [] n other = refl
open_all-elsewhere words (c ∷ cs) n other =
    open_all-elsewhere (open_at words c) cs n (λ d within. other d (inr within))
    ∙ get_or-set_other words c.word n _ 0 (other c (inl refl))

-- opening a path leaves the words after the switches as they are
pub open_path-behind : (words : List ℕ) (path : Path) (n : ℕ) → IsPath path → 400 ≤ n → get_or (open_path words path) n 0 ≡ get_or words n 0
unfolding open_path
open_path-behind words path n range behind =
    open_all-elsewhere words (crosspoints path) n (λ c within same. let is = crosspoint path c range within in let below = is.word in omega arith)

length-open_all : (words : List ℕ) (cs : List Crosspoint) → length (fold open_at words cs) ≡ length words
length-open_all words [] = refl
length-open_all words (c ∷ cs) = length-open_all (open_at words c) cs ∙ length-set words c.word _

-- nor does it change how many there are
pub length-open_path : (words : List ℕ) (path : Path) → length (open_path words path) ≡ length words
unfolding open_path
length-open_path words path = length-open_all words (crosspoints path)

module _ (plan : Tables) where
  -- the effects that open a path's crosspoints open the path
  pub perform_all-path_opens : (words : List ℕ) (path : Path) → perform_all (office plan) words (path_opens path) ≡ open_path words path
  unfolding perform_all open_path
  perform_all-path_opens words path = refl

  -- and each of them is due, if each crosspoint is closed until then
  pub opens-due : (words : List ℕ) (cs : List Crosspoint) → EachOpens words cs → AreDue (office plan) words (map Open cs)
  opens-due words [] each = tt
  opens-due words (c ∷ cs) each = (each.0, opens-due (open_at words c) cs each.1)

  -- a path of the set is taken out by opening it
  pub one_opened : (words : List ℕ) (paths : List Path) (path : Path) → 400 ≤ length words → ShowsPaths words paths → IsOrderlySet plan paths → IsIn path paths
      → LeadsTo plan words (path_opens path) (without_path paths path)
  one_opened words paths path long shows orderly within =
      let opened = sym (perform_all-path_opens words path) in
      record {
        switches =
            subst (λ (after : List ℕ). ShowsPaths after (without_path paths path)) opened
            (open_path-shows words paths (without_path paths path) path long shows orderly.ranges orderly.apart within
            (without_path-removes paths path orderly.set));
        behind =
            λ n above. ap (λ (after : List ℕ). get_or after n 0) (perform_all-path_opens words path)
            ∙ open_path-behind words path n (orderly.ranges path within) above;
        size = ap (length {A = ℕ}) (perform_all-path_opens words path) ∙ length-open_path words path;
        due = opens-due words (crosspoints path) (four_opened words paths path long shows orderly.ranges within).steps;
      }

  -- and so is the other party's, if there is one
  pub other_opened : (words : List ℕ) (paths : List Path) (other : Option Path) → 400 ≤ length words → ShowsPaths words paths → IsOrderlySet plan paths
      → ((path : Path) → other ≡ Some path → IsIn path paths) → LeadsTo plan words (other_opens other) (without_other paths other)
  other_opened words paths None long shows orderly there = nothing_opened plan words paths shows
  other_opened words paths (Some path) long shows orderly there = one_opened words paths path long shows orderly (there path refl)
