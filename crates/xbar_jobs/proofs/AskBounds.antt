-- how much scripts one after another ask for
use Rattle.std.proofs.Common.{◌≡◌, ℕ, zero, suc, ◌+◌, ◌-◌, ◌≤◌, refl, arith}
use Rattle.{std.specs.Prelude.⊤, turns.specs.Script.{AsksAtMost, Ends, TestThen, SeizeThen, ◌>>=◌, read_with}}
use Rattle.xbar_jobs.specs.{Others.{SeizesOthers, others}, Script.Script}

-- whatever is read, a script has at most `tests` tests and `seizings` seizings, at most `most` of
-- these of connectors besides line link frames
unfoldable pub Asks : {A : Type 0} → ℕ → ℕ → ℕ → Script A → Type 0
Asks tests seizings most (Ends found) = ⊤
Asks zero seizings most (TestThen word script) = ⊥
Asks (suc tests) seizings most (TestThen word script) = (value : ℕ) → Asks tests seizings most (script value)
Asks tests zero most (SeizeThen conn script) = ⊥
Asks tests (suc seizings) most (SeizeThen conn script) = (others conn ≤ most) × Asks tests seizings (most - others conn) script

pub asks_at_most : {A : Type 0} (tests seizings most : ℕ) (script : Script A) → Asks tests seizings most script → AsksAtMost tests seizings script
unfolding Asks AsksAtMost
asks_at_most tests seizings most (Ends found) asks = tt
asks_at_most zero seizings most (TestThen word script) asks = asks
asks_at_most (suc tests) seizings most (TestThen word script) asks = λ value fits. asks_at_most tests seizings most (script value) (asks value)
asks_at_most tests zero most (SeizeThen conn script) asks = asks
asks_at_most tests (suc seizings) most (SeizeThen conn script) asks = asks_at_most tests seizings (most - others conn) script asks.1

pub seizes_others : {A : Type 0} (tests seizings most : ℕ) (script : Script A) → Asks tests seizings most script → SeizesOthers most script
unfolding Asks SeizesOthers
seizes_others tests seizings most (Ends found) asks = tt
seizes_others zero seizings most (TestThen word script) asks = absurd asks
seizes_others (suc tests) seizings most (TestThen word script) asks = λ value. seizes_others tests seizings most (script value) (asks value)
seizes_others tests zero most (SeizeThen conn script) asks = absurd asks
seizes_others tests (suc seizings) most (SeizeThen conn script) asks = (asks.0, seizes_others tests seizings (most - others conn) script asks.1)

-- a script that keeps to some bounds keeps to greater ones
pub asks_more : {A : Type 0} (tests seizings few most_tests most_seizings most : ℕ) (script : Script A) → tests ≤ most_tests → seizings ≤ most_seizings
    → few ≤ most → Asks tests seizings few script → Asks most_tests most_seizings most script
unfolding Asks
asks_more tests seizings few most_tests most_seizings most (Ends found) fewer fewer_seizings below asks = asks
asks_more zero seizings few most_tests most_seizings most (TestThen word script) fewer fewer_seizings below asks = absurd asks
asks_more (suc tests) seizings few zero most_seizings most (TestThen word script) fewer fewer_seizings below asks = absurd (omega arith)
asks_more (suc tests) seizings few (suc most_tests) most_seizings most (TestThen word script) fewer fewer_seizings below asks =
    λ value. asks_more tests seizings few most_tests most_seizings most (script value) (omega arith) fewer_seizings below (asks value)
asks_more tests zero few most_tests most_seizings most (SeizeThen conn script) fewer fewer_seizings below asks = absurd asks
asks_more tests (suc seizings) few most_tests zero most (SeizeThen conn script) fewer fewer_seizings below asks = absurd (omega arith)
asks_more tests (suc seizings) few most_tests (suc most_seizings) most (SeizeThen conn script) fewer fewer_seizings below (one, asks) = (
  omega (arith, one),
  asks_more tests seizings (few - others conn) most_tests most_seizings (most - others conn) script fewer (omega arith) (omega (arith, one)) asks,
)

-- a script and then another ask for no more than both together
pub asks_bind : {A B : Type 0} (tests seizings few more_tests more_seizings more all_tests all_seizings all : ℕ) (script : Script A) (next : A → Script B)
    → all_tests ≡ tests + more_tests → all_seizings ≡ seizings + more_seizings → all ≡ few + more → Asks tests seizings few script
    → ((found : A) → Asks more_tests more_seizings more (next found)) → Asks all_tests all_seizings all (script >>= next)
unfolding Asks ◌>>=◌
asks_bind tests seizings few more_tests more_seizings more all_tests all_seizings all (Ends found) next sum sum_seizings sum_few asks later =
    asks_more more_tests more_seizings more all_tests all_seizings all (next found) (omega arith) (omega arith) (omega arith) (later found)
asks_bind zero seizings few more_tests more_seizings more all_tests all_seizings all (TestThen word script) next sum sum_seizings sum_few asks later =
    absurd asks
asks_bind (suc tests) seizings few more_tests more_seizings more zero all_seizings all (TestThen word script) next sum sum_seizings sum_few asks later =
    absurd (omega arith)
asks_bind (suc tests) seizings few more_tests more_seizings more (suc all_tests) all_seizings all (TestThen word script) next sum sum_seizings sum_few asks
    later =
    λ value. asks_bind tests seizings few more_tests more_seizings more all_tests all_seizings all (script value) next (omega arith) sum_seizings sum_few
    (asks value) later
asks_bind tests zero few more_tests more_seizings more all_tests all_seizings all (SeizeThen conn script) next sum sum_seizings sum_few asks later = absurd asks
asks_bind tests (suc seizings) few more_tests more_seizings more all_tests zero all (SeizeThen conn script) next sum sum_seizings sum_few asks later =
    absurd (omega arith)
asks_bind tests (suc seizings) few more_tests more_seizings more all_tests (suc all_seizings) all (SeizeThen conn script) next sum sum_seizings sum_few
    (one, asks) later = (
      omega (arith, one),
      asks_bind tests seizings (few - others conn) more_tests more_seizings more all_tests all_seizings (all - others conn) script next sum (omega arith)
          (omega (arith, one)) asks later,
    )

pub asks_then : {A B : Type 0} (tests seizings few more_tests more_seizings more : ℕ) (script : Script A) (next : A → Script B) → Asks tests seizings few script
    → ((found : A) → Asks more_tests more_seizings more (next found)) → Asks (tests + more_tests) (seizings + more_seizings) (few + more) (script >>= next)
asks_then tests seizings few more_tests more_seizings more script next =
    asks_bind tests seizings few more_tests more_seizings more (tests + more_tests) (seizings + more_seizings) (few + more) script next refl refl refl

-- what ends after a script asks for no more than that
pub asks_end : {A B : Type 0} (tests seizings few : ℕ) (script : Script A) (next : A → Script B) → Asks tests seizings few script
    → ((found : A) → Asks 0 0 0 (next found)) → Asks tests seizings few (script >>= next)
asks_end tests seizings few script next = asks_bind tests seizings few 0 0 0 tests seizings few script next (omega arith) (omega arith) (omega arith)

-- words that are read as something makes them change nothing of it
pub asks_read : {A : Type 0} (change : ℕ → ℕ → ℕ) (tests seizings most : ℕ) (script : Script A) → Asks tests seizings most script
    → Asks tests seizings most (read_with change script)
unfolding Asks read_with
asks_read change tests seizings most (Ends found) asks = tt
asks_read change zero seizings most (TestThen word script) asks = asks
asks_read change (suc tests) seizings most (TestThen word script) asks =
    λ value. asks_read change tests seizings most (script (change word value)) (asks (change word value))
asks_read change tests zero most (SeizeThen conn script) asks = asks
asks_read change tests (suc seizings) most (SeizeThen conn script) asks = (asks.0, asks_read change tests seizings (most - others conn) script asks.1)

-- what is not less than a script's seizings of connectors besides line link frames
pub others_more : {A : Type 0} (few most : ℕ) (script : Script A) → few ≤ most → SeizesOthers few script → SeizesOthers most script
unfolding SeizesOthers
others_more few most (Ends found) fewer seizes = tt
others_more few most (TestThen word script) fewer seizes = λ value. others_more few most (script value) fewer (seizes value)
others_more few most (SeizeThen conn script) fewer (one, seizes) =
    (omega (arith, one), others_more (few - others conn) (most - others conn) script (omega (arith, one)) seizes)
