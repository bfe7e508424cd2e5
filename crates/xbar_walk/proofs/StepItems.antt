-- the item of an event: a test, or the lines of any other event; or its object
use Rattle.std.proofs.Common.{◌≡◌, ℕ, true, false, List, ◌++◌, append-nil, refl, sym, ◌∙◌, ap, codes}
use Rattle.{xbar_office.specs.declared.{job.Job.Job, reply.Record.Record}, xbar_jobs.specs.declared.program.Step.Step}
use Rattle.xbar_step_text.specs.{Lines.{assignment_line, settling_line, step_lines}, Objects.{assignment_object, settling_object, step_object}, Places.place_of}
use Rattle.xbar_step_text.specs.declared.{observation.Observation.Observation, place.Place.Place}
use Rattle.xbar_walk.specs.Items.{Item, Says, Tests, after_object, assignment_item, before_object, is_json, item_in, item_of, settling_item, step_item}
use Rattle.xbar_walk.specs.declared.detail.Detail.{Detail, TheVariants.{Each, Short, JsonLines, JsonList}}
use Rattle.xbar_jobs.specs.declared.program.Step.TheVariants as step

-- an object with what is written around it
abbrev pub framed : Detail → List ℕ → List ℕ
framed detail object = before_object detail ++ (object ++ after_object detail)

in_words : (detail : Detail) (item : Item) (object : List ℕ) → is_json detail ≡ false → item ≡ item_in detail item object
in_words Each item object words = refl
in_words Short item object words = refl
in_words JsonLines item object words = absurd cc
in_words JsonList item object words = absurd cc

as_object : (detail : Detail) (item : Item) (object : List ℕ) → is_json detail ≡ true → Says (framed detail object) ≡ item_in detail item object
as_object Each item object json = absurd cc
as_object Short item object json = absurd cc
as_object JsonLines item object json = refl
as_object JsonList item object json = ap (λ (text : List ℕ). Says (codes "," ++ text)) (append-nil object)

module _ (detail : Detail) (number marker : ℕ) (observed : Observation) (records : List Record) where
  pub test_item : (word : ℕ) (place : Place) → is_json detail ≡ false → observed.step ≡ step.Test word → place ≡ place_of word
      → Tests (record { number = number; marker = marker; place = place; word = observed.found }) ≡ step_item detail number marker observed records
  unfolding step_item
  test_item word place words is at =
      ap (λ (p : Place). Tests (record { number = number; marker = marker; place = p; word = observed.found })) at
      ∙ sym (ap (λ (made : Step). item_of made number marker observed records) is)
      ∙ in_words detail _ (step_object number marker observed records) words

  said : (made : Step) → ((word : ℕ) → made ≡ step.Test word → ⊥)
      → Says (step_lines number marker observed records) ≡ item_of made number marker observed records
  said (step.Test word) other = absurd (other word refl)
  said _ other = refl

  pub other_item : is_json detail ≡ false → ((word : ℕ) → observed.step ≡ step.Test word → ⊥)
      → Says (step_lines number marker observed records) ≡ step_item detail number marker observed records
  unfolding step_item
  other_item words other = said observed.step other ∙ in_words detail _ (step_object number marker observed records) words

  pub object_item : is_json detail ≡ true → Says (framed detail (step_object number marker observed records)) ≡ step_item detail number marker observed records
  unfolding step_item
  object_item json = as_object detail _ (step_object number marker observed records) json

module _ (detail : Detail) (marker job_no : ℕ) (job : Job) where
  pub assignment_said : is_json detail ≡ false → Says (assignment_line marker job_no job) ≡ assignment_item detail marker job_no job
  unfolding assignment_item
  assignment_said words = in_words detail _ (assignment_object marker job_no job) words

  pub assignment_framed : is_json detail ≡ true → Says (framed detail (assignment_object marker job_no job)) ≡ assignment_item detail marker job_no job
  unfolding assignment_item
  assignment_framed json = as_object detail _ (assignment_object marker job_no job) json

module _ (detail : Detail) where
  pub settling_said : is_json detail ≡ false → Says settling_line ≡ settling_item detail
  unfolding settling_item
  settling_said words = in_words detail _ settling_object words

  pub settling_framed : is_json detail ≡ true → Says (framed detail settling_object) ≡ settling_item detail
  unfolding settling_item
  settling_framed json = as_object detail _ settling_object json
