-- what was found stays found
use Rattle.std.proofs.Common.{◌≡◌, ℕ, Bool, true, false, refl, Option, Some, None, Ok}
use Rattle.turns.specs.{Script.{Script, Ends, TestThen, SeizeThen, is_held, value_read, left, left_of_test, left_of_seizing, first_wanted, walk}, Seen.Seen}
use Rattle.attempts.specs.Points.{Extends}

module _ {Lock : Type 0} (same : Lock → Lock → Bool) where
  -- what was walked through is walked through with more
  pub gone_through : {A : Type 0} (seen more : Seen Lock) (script : Script Lock A) (found : A) → Extends same seen more → walk same seen script ≡ Ok found
      → walk same more script ≡ Ok found
  unfolding walk left left_of_test left_of_seizing first_wanted
  gone_through {A} seen more (Ends end) found extends e = e
  gone_through {A} seen more (TestThen word script) found extends e =
      at (value_read seen.readings word) refl (λ value. gone_through seen more (script value) found extends) e where
        at : (o : Option ℕ) → value_read seen.readings word ≡ o
            → ((value : ℕ) → walk same seen (script value) ≡ Ok found → walk same more (script value) ≡ Ok found)
            → first_wanted (left_of_test script (λ value. left same seen (script value)) word o) ≡ Ok found
            → first_wanted (left_of_test script (λ value. left same more (script value)) word (value_read more.readings word)) ≡ Ok found
        at None none later e = absurd cc
        at (Some value) is later e = rw (extends.readings word value is) (later value e)
  gone_through {A} seen more (SeizeThen lock script) found extends e =
      at (is_held same seen.held lock) refl (gone_through seen more script found extends) e where
        at : (b : Bool) → is_held same seen.held lock ≡ b → (walk same seen script ≡ Ok found → walk same more script ≡ Ok found)
            → first_wanted (left_of_seizing script (left same seen script) lock b) ≡ Ok found
            → first_wanted (left_of_seizing script (left same more script) lock (is_held same more.held lock)) ≡ Ok found
        at false is later e = absurd cc
        at true is later e = rw (extends.held lock is) (later e)
