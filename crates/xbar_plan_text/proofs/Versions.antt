use Rattle.std.proofs.Common.{◌≡◌, ℕ, Bool, true, false, List, [], ◌∷◌, length, refl, sym, ◌∙◌, ap, Option, Some, None, Ok, option_map, option_and_then, ◌==◌}
use Rattle.std.proofs.Common.{if◌then◌else◌}
use Rattle.{toml.specs.Data.{Data, Members}, xbar_plan.specs.Tables.{Tables, Station}, xbar_plan_text.specs.Texts.{read_all, group_of, station_of}}
use Rattle.xbar_plan_text.specs.{Texts.{station_of_parts, number_of, line_of, parts, code_entry_of, fault_of}, Document.{Four, Entries, together, needs}}
use Rattle.xbar_plan_text.specs.Document.{entries_of, lists_of, values_of, plan_of_entries, plan_of_lists, plan_of_values, plan_of_version, plan_of_document}
use Rattle.xbar_plan_text.{specs.{Document.DifferInVersion, declared.read.version.Version.TheVariants.{One, Two}}, proofs.Stages.document_read}
use Rattle.xbar_plan.specs.declared.fault.PlanFault.TheVariants as fault

-- a directory number's text that can be read in version 1 can be read in version 2, with the same
-- result
station_too : (ps : List (List ℕ)) (station : Station) → station_of_parts One ps ≡ Some station → station_of_parts Two ps ≡ Some station
station_too [] station e = cc
station_too (number ∷ lines) station e = of (length lines == 1) refl e where
  of : (b : Bool) → (length lines == 1) ≡ b
      → (if b then option_and_then (λ n. option_map {U = Station} (λ ls. record { number = n; lines = ls }) (read_all line_of lines)) (number_of number) else
      None)
      ≡ Some station → option_and_then (λ n. option_map {U = Station} (λ ls. record { number = n; lines = ls }) (read_all line_of lines)) (number_of number)
      ≡ Some station
  of true is e = e
  of false is e = cc

-- so can all texts
all_too : {A B : Type 0} (f g : A → Option B) → ((x : A) (y : B) → f x ≡ Some y → g x ≡ Some y) → (xs : List A) (ys : List B) → read_all f xs ≡ Some ys
    → read_all g xs ≡ Some ys
all_too f g too [] ys e = e
all_too {A} {B} f g too (x ∷ xs) ys e = of (f x) refl (read_all f xs) refl (all_too f g too xs) e where
  of : (o : Option B) → f x ≡ o → (p : Option (List B)) → read_all f xs ≡ p → ((zs : List B) → read_all f xs ≡ Some zs → read_all g xs ≡ Some zs)
      → option_and_then (λ first. option_map {U = List B} (λ others. first ∷ others) p) o ≡ Some ys
      → option_and_then (λ first. option_map {U = List B} (λ others. first ∷ others) (read_all g xs)) (g x) ≡ Some ys
  of None here p others later e = cc
  of (Some y) here None others later e = cc
  of (Some y) here (Some zs) others later e = rw (too x y here, later zs others) e

-- f of four values stays the same if the second value does
together_too : {A B C D E : Type 0} (f : A → B → C → D → E) (a : Option A) (b b' : Option B) (c : Option C) (d : Option D) (all : E)
    → ((x : B) → b ≡ Some x → b' ≡ Some x) → together f a b c d ≡ Some all → together f a b' c d ≡ Some all
together_too f None b b' c d all too e = cc
together_too f (Some x) None b' c d all too e = cc
together_too f (Some x) (Some y) b' c d all too e = rw (too y refl) e

entries_too : (lists : Four (List (List ℕ))) (entries : Entries) → entries_of One lists ≡ Some entries → entries_of Two lists ≡ Some entries
entries_too lists entries e =
    together_too {E = Entries} (λ groups stations codes faults. record { groups = groups; stations = stations; codes = codes; faults = faults })
    (read_all group_of lists.groups) (read_all (station_of One) lists.numbers) (read_all (station_of Two) lists.numbers)
    (read_all code_entry_of lists.codes) (read_all fault_of lists.faults) entries
    (all_too (station_of One) (station_of Two) (λ text. station_too (parts text)) lists.numbers) e

lists_too : (lists : Four (List (List ℕ))) (tables : Tables) → plan_of_lists One lists ≡ Ok tables → plan_of_lists Two lists ≡ Ok tables
unfolding plan_of_lists
lists_too lists tables e = of (entries_of One lists) refl e where
  of : (o : Option Entries) → entries_of One lists ≡ o → needs fault.Malformed o plan_of_entries ≡ Ok tables
      → needs fault.Malformed (entries_of Two lists) plan_of_entries ≡ Ok tables
  of None is e = cc
  of (Some entries) is e = ap (λ (o : Option Entries). needs fault.Malformed o plan_of_entries) (entries_too lists entries is) ∙ e

values_too : (values : Four Data) (tables : Tables) → plan_of_values One values ≡ Ok tables → plan_of_values Two values ≡ Ok tables
unfolding plan_of_values
values_too values tables e = of (lists_of values) e where
  of : (o : Option (Four (List (List ℕ)))) → needs fault.NotTexts o (plan_of_lists One) ≡ Ok tables → needs fault.NotTexts o (plan_of_lists Two) ≡ Ok tables
  of None e = cc
  of (Some lists) e = lists_too lists tables e

version_too : (one two : Members) (tables : Tables) → values_of one ≡ values_of two → plan_of_version one One ≡ Ok tables → plan_of_version two Two ≡ Ok tables
unfolding plan_of_version
version_too one two tables same e = of (values_of two) (ap (λ (o : Option (Four Data)). needs fault.KeyMissing o (plan_of_values One)) (sym same) ∙ e) where
  of : (o : Option (Four Data)) → needs fault.KeyMissing o (plan_of_values One) ≡ Ok tables → needs fault.KeyMissing o (plan_of_values Two) ≡ Ok tables
  of None e = cc
  of (Some values) e = values_too values tables e

-- a document that is accepted in version 1 is accepted in version 2, with the same tables
pub document_too : (one two : Members) (tables : Tables) → DifferInVersion one two → plan_of_document one ≡ Ok tables → plan_of_document two ≡ Ok tables
document_too one two tables differ e =
    document_read two Two differ.two ∙ version_too one two tables differ.same (sym (document_read one One differ.one) ∙ e)
