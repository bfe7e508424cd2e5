use Rattle.std.proofs.Common.{◌≡◌, ℕ, Bool, true, false, List, [], ◌∷◌, refl, ◌∙◌, ap, Option, Some, None, Result, Err, option_map, option_and_then}
use Rattle.std.proofs.Common.{if◌then◌else◌, IsUtf8}
use Rattle.{std.{specs.Str.is_utf8, proofs.lemmas.Str.{IsUtf8-from_is_utf8, is_utf8-from_IsUtf8}}, toml.specs.{Data.{Members, as_str}, Parse.parse_document}}
use Rattle.{toml.specs.{View.{view, items_view}, declared.value.Value.Value}, xbar_plan.specs.{Tables.Tables, declared.fault.PlanFault.PlanFault}}
use Rattle.xbar_plan_text.specs.{Texts.read_all, Document.{document_of, texts_of_items, needs}}

-- bytes that are UTF-8 and parse are a document
pub document-some : (bytes : List ℕ) (document : Members) → IsUtf8 bytes → parse_document bytes ≡ Some document → document_of bytes ≡ Some document
unfolding document_of
document-some bytes document text parsed =
    ap (λ (b : Bool). if b then parse_document bytes else None) (is_utf8-from_IsUtf8 bytes text) ∙ parsed

pub document-none : (bytes : List ℕ) → (IsUtf8 bytes → parse_document bytes ≡ None) → document_of bytes ≡ None
unfolding document_of
document-none bytes refused = of (is_utf8 bytes) refl where
  of : (b : Bool) → is_utf8 bytes ≡ b → (if b then parse_document bytes else None) ≡ None
  of true e = refused (IsUtf8-from_is_utf8 bytes e)
  of false e = refl

-- the strings of items are those of each value
pub texts-read : (values : List Value) → texts_of_items (items_view values) ≡ read_all (λ value. as_str (view value)) values
texts-read [] = refl
texts-read (value ∷ values) =
    ap (λ (o : Option (List (List ℕ))). option_and_then (λ text. option_map {U = List (List ℕ)} (λ texts. text ∷ texts) o) (as_str (view value)))
    (texts-read values)

-- a stage with a value goes on, and a stage without one ends with its fault
pub goes_on : {A : Type 0} (told : PlanFault) (wanted : Option A) (next : A → Result Tables PlanFault) (value : A) → wanted ≡ Some value
    → needs told wanted next ≡ next value
goes_on {A} told wanted next value e = ap (λ (o : Option A). needs told o next) e

pub ends : {A : Type 0} (told : PlanFault) (wanted : Option A) (next : A → Result Tables PlanFault) → wanted ≡ None → needs told wanted next ≡ Err told
ends {A} told wanted next e = ap (λ (o : Option A). needs told o next) e
