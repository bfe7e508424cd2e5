-- Which section is at which index.
use Rattle.std.proofs.Common.{◌≡◌, ℕ, zero, suc, ◌+◌, List, [], ◌∷◌, length, take, refl, sym, ap, add-one, Option, Some, slice_get}
use Rattle.{xbar_equip.specs.declared.path.Path.Path, xbar_office.specs.{Legal.{after_jobs, jobs_of}, Whole.whole, declared.reply.Record.Record}}
use Rattle.{xbar_plan.specs.Tables.Tables, xbar_page.specs.Sections.{Section, sections_from, turn_at}}

module _ (plan : Tables) where
  pub length-sections : (paths : List Path) (before : Option ℕ) (records : List Record) → length (sections_from plan paths before records) ≡ length records
  length-sections paths before [] = refl
  length-sections paths before (owner ∷ more) = ap suc (length-sections (whole plan paths owner.job).paths (Some owner.turn) more)

  shown_below : (paths : List Path) (before : Option ℕ) (records : List Record) (place : ℕ) (section : Section)
      → slice_get (sections_from plan paths before records) place ≡ Some section
      → (slice_get records place ≡ Some section.owner) × (section.paths ≡ after_jobs plan paths (jobs_of (take (suc place) records)))
  shown_below paths before [] place section is = absurd cc
  shown_below paths before (owner ∷ more) zero section is =
      let first : Section = record { owner = owner; paths = (whole plan paths owner.job).paths; links = record { before = before; after = turn_at more 0 } } in
      let same : first ≡ section = cc in
      (ap (λ (s : Section). Some s.owner) same, sym (ap (λ (s : Section). s.paths) same))
  shown_below paths before (owner ∷ more) (suc place) section is =
      shown_below (whole plan paths owner.job).paths (Some owner.turn) more place section is

  pub shown_at : (paths : List Path) (before : Option ℕ) (records : List Record) (place : ℕ) (section : Section)
      → slice_get (sections_from plan paths before records) place ≡ Some section
      → (slice_get records place ≡ Some section.owner) × (section.paths ≡ after_jobs plan paths (jobs_of (take (place + 1) records)))
  shown_at paths before records place section is = rw add-one (shown_below paths before records place section is)
