-- a walk needs no word that was read, and no connector that is held
use Rattle.std.proofs.Common.{◌≡◌, ℕ, Bool, true, false, List, [], ◌∷◌, inl, inr, refl, sym, ◌∙◌, ap, Option, Some, None, Err, true≢false}
use Rattle.turns.specs.{Among.IsIn, Script.{Ends, TestThen, SeizeThen, first_wanted, is_held, left, left_of_test, left_of_seizing, value_read, walk}}
use Rattle.{turns.specs.declared.wanted.Wanted.TheVariants.{Seize, Test}, xbar_equip.specs.{Conn.conn_eq, declared.conn.Conn.Conn}}
use Rattle.{xbar_equip.proofs.{Logic.or_true, PathTests.conn_eq-itself}, xbar_jobs.specs.Script.{Script, Seen}}

-- the word that a walk needs next was not read
pub wants_unread : {A : Type 0} (seen : Seen) (word : ℕ) (script : Script A) → walk conn_eq seen script ≡ Err (Test word) → value_read seen.readings word ≡ None
unfolding walk left left_of_test left_of_seizing first_wanted
wants_unread {A} seen word (Ends found) wants = cc
wants_unread {A} seen word (TestThen other script) wants = at (value_read seen.readings other) refl (λ value. wants_unread seen word (script value)) wants where
  at : (o : Option ℕ) → value_read seen.readings other ≡ o
      → ((value : ℕ) → walk conn_eq seen (script value) ≡ Err (Test word) → value_read seen.readings word ≡ None)
      → first_wanted (left_of_test script (λ value. left conn_eq seen (script value)) other o) ≡ Err (Test word) → value_read seen.readings word ≡ None
  at None none later e = let same : other ≡ word = cc in ap (value_read seen.readings) (sym same) ∙ none
  at (Some value) is later e = later value e
wants_unread {A} seen word (SeizeThen conn script) wants = at (is_held conn_eq seen.held conn) (wants_unread seen word script) wants where
  at : (b : Bool) → (walk conn_eq seen script ≡ Err (Test word) → value_read seen.readings word ≡ None)
      → first_wanted (left_of_seizing script (left conn_eq seen script) conn b) ≡ Err (Test word) → value_read seen.readings word ≡ None
  at false later e = absurd cc
  at true later e = later e

held_has : (held : List Conn) (conn : Conn) → IsIn conn held → is_held conn_eq held conn ≡ true
unfolding is_held
held_has [] conn within = absurd within
held_has (own ∷ held) conn (inl e) = rw (ap (conn_eq own) e ∙ conn_eq-itself own) refl
held_has (own ∷ held) conn (inr later) = rw (held_has held conn later) (or_true (conn_eq own conn))

-- the connector that it needs next is not held
wants_unheld : {A : Type 0} (seen : Seen) (conn : Conn) (script : Script A) → walk conn_eq seen script ≡ Err (Seize conn)
    → is_held conn_eq seen.held conn ≡ false
unfolding walk left left_of_test left_of_seizing first_wanted
wants_unheld {A} seen conn (Ends found) wants = cc
wants_unheld {A} seen conn (TestThen word script) wants = at (value_read seen.readings word) (λ value. wants_unheld seen conn (script value)) wants where
  at : (o : Option ℕ) → ((value : ℕ) → walk conn_eq seen (script value) ≡ Err (Seize conn) → is_held conn_eq seen.held conn ≡ false)
      → first_wanted (left_of_test script (λ value. left conn_eq seen (script value)) word o) ≡ Err (Seize conn) → is_held conn_eq seen.held conn ≡ false
  at None later e = absurd cc
  at (Some value) later e = later value e
wants_unheld {A} seen conn (SeizeThen other script) wants = at (is_held conn_eq seen.held other) refl (wants_unheld seen conn script) wants where
  at : (b : Bool) → is_held conn_eq seen.held other ≡ b → (walk conn_eq seen script ≡ Err (Seize conn) → is_held conn_eq seen.held conn ≡ false)
      → first_wanted (left_of_seizing script (left conn_eq seen script) other b) ≡ Err (Seize conn) → is_held conn_eq seen.held conn ≡ false
  at false free later e = let same : other ≡ conn = cc in ap (is_held conn_eq seen.held) (sym same) ∙ free
  at true own later e = later e

pub wants_free : {A : Type 0} (seen : Seen) (conn : Conn) (script : Script A) → walk conn_eq seen script ≡ Err (Seize conn) → ¬ IsIn conn seen.held
wants_free seen conn script wants = λ within. true≢false (sym (held_has seen.held conn within) ∙ wants_unheld seen conn script wants)
