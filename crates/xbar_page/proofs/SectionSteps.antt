-- The sections of the records that are left: one more is done, and none is left.
use Rattle.std.proofs.Common.{◌≡◌, ℕ, zero, suc, ◌+◌, ◌<◌, ◌≤◌, List, [], ◌∷◌, ◌++◌, drop, length, slice_index_or, refl, sym, ap, ◌∙◌, append_assoc, append-nil}
use Rattle.std.proofs.Common.{Option, Some, flat_map}
use Rattle.{std.proofs.lemmas.List.{at_drop_all, at_drop_more}, xbar_equip.specs.declared.path.Path.Path}
use Rattle.{xbar_office.specs.{Whole.whole, declared.reply.Record.Record}, xbar_plan.specs.Tables.Tables}
use Rattle.xbar_page.specs.{Section.section_text, Sections.{Section, sections_from, turn_at}, Stays.sets_of, declared.links.Links.Links}

turn_dropped : (records : List Record) (place : ℕ) → turn_at records place ≡ turn_at (drop place records) 0
turn_dropped records zero = refl
turn_dropped [] (suc place) = refl
turn_dropped (owner ∷ more) (suc place) = turn_dropped more place

-- a section as text, whatever the paths after its turn
section_of : Record → List Path → Links → Section
section_of owner paths links = record { owner = owner; paths = paths; links = links }

-- the text of sections says nothing of the paths that they begin with
pub same_sections : (plan : Tables) (paths other : List Path) (before : Option ℕ) (records : List Record)
    → flat_map (section_text plan) (sections_from plan paths before records) ≡ flat_map (section_text plan) (sections_from plan other before records)
unfolding section_text
same_sections plan paths other before [] = refl
same_sections plan paths other before (owner ∷ more) =
    ap (λ (t : List ℕ). section_text plan (record { owner = owner; paths = paths; links = record { before = before; after = turn_at more 0 } }) ++ t)
    (same_sections plan (whole plan paths owner.job).paths (whole plan other owner.job).paths (Some owner.turn) more)

module _ (plan : Tables) (before : Option ℕ) (records : List Record) (place : ℕ) (text : List ℕ) where
  with_sections : List Record → List ℕ
  with_sections left = text ++ flat_map (section_text plan) (sections_from plan [] before left)

  pub next_section : (owner : Record) → owner ≡ slice_index_or records place owner → place < length records
      → (text
      ++ section_text plan (record {
        owner = owner;
        paths = (whole plan [] owner.job).paths;
        links = record { before = before; after = turn_at records (place + 1) };
      }))
      ++ flat_map (section_text plan) (sections_from plan [] (Some owner.turn) (drop (place + 1) records))
      ≡ text ++ flat_map (section_text plan) (sections_from plan [] before (drop place records))
  unfolding with_sections
  next_section owner is below =
      let now = (whole plan [] owner.job).paths in
      let later = flat_map (section_text plan) (sections_from plan [] (Some owner.turn) (drop (place + 1) records)) in
      append_assoc text (section_text plan (record { owner = owner; paths = now; links = record { before = before; after = turn_at records (place + 1) } }))
      later
      ∙ ap (λ (after : Option ℕ). text
      ++ (section_text plan (record { owner = owner; paths = now; links = record { before = before; after = after } }) ++ later))
      (turn_dropped records (place + 1))
      ∙ ap (λ (t : List ℕ). text
      ++ (section_text plan (record { owner = owner; paths = now; links = record { before = before; after = turn_at (drop (place + 1) records) 0 } }) ++ t))
      (same_sections plan [] now (Some owner.turn) (drop (place + 1) records))
      ∙ ap (λ (e : Record). with_sections (e ∷ drop (place + 1) records)) is
      ∙ sym (at_drop_more with_sections records place owner below)

  pub no_section : length records ≤ place → text ≡ text ++ flat_map (section_text plan) (sections_from plan [] before (drop place records))
  unfolding with_sections
  no_section over = sym (append-nil text) ∙ sym (at_drop_all with_sections records place over)

-- which turn comes before the sections changes none of their sets
pub same_sets : (plan : Tables) (paths : List Path) (before other : Option ℕ) (records : List Record)
    → sets_of (sections_from plan paths before records) ≡ sets_of (sections_from plan paths other records)
same_sets plan paths before other [] = refl
same_sets plan paths before other (owner ∷ more) = refl

module _ (plan : Tables) (before : Option ℕ) (records : List Record) (place : ℕ) (paths : List Path) (sets : List (List Path)) where
  with_sets : List Record → List (List Path)
  with_sets left = sets ++ sets_of (sections_from plan paths before left)

  pub next_set : (owner : Record) → owner ≡ slice_index_or records place owner → place < length records
      → (sets ++ (whole plan paths owner.job).paths ∷ []) ++ sets_of (sections_from plan (whole plan paths owner.job).paths before (drop (place + 1) records))
      ≡ sets ++ sets_of (sections_from plan paths before (drop place records))
  unfolding with_sets
  next_set owner is below =
      let now = (whole plan paths owner.job).paths in
      append_assoc sets (now ∷ []) (sets_of (sections_from plan now before (drop (place + 1) records)))
      ∙ ap (λ (t : List (List Path)). sets ++ now ∷ t) (same_sets plan now before (Some owner.turn) (drop (place + 1) records))
      ∙ ap (λ (e : Record). with_sets (e ∷ drop (place + 1) records)) is
      ∙ sym (at_drop_more with_sets records place owner below)

  pub no_set : length records ≤ place → sets ≡ sets ++ sets_of (sections_from plan paths before (drop place records))
  unfolding with_sets
  no_set over = sym (append-nil sets) ∙ sym (at_drop_all with_sets records place over)
