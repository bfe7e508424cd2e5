use Rattle.std.proofs.Common.{◌≡◌, List, [], ◌∷◌, ◌++◌, refl, ◌∙◌, ap, append_assoc, subst, sym, ℕ, Bool, true, false, Result, Ok, Err, if◌then◌else◌}
use Rattle.turns.specs.{Seen.AreReadWords, Script.{Script, Ends, TestThen, SeizeThen, is_held, value_read, left, left_of_test, left_of_seizing, first_wanted}}
use Rattle.turns.specs.{Script.walk, System.{System, IsSystem, DecidesUnder}, Attempt.{AttemptOf, IsValid, IsValidIn, HasTurned, begin, change, changed}}
use Rattle.turns.specs.Attempt.{walk_result, giving_back, goes_on, operated, restarted, restarted_in, read_in, rest_of, seen_of, denied, forgotten}
use Rattle.turns.specs.declared.answer.Answer.{Answer, TheVariants.{Asked, Seized, Held, Preferred, Again, Value, Turn as TurnNumber, Done}}
use Rattle.turns.specs.declared.phase.Phase.{Phase, TheVariants.{Requests, Seizes as SeizesNext, Tests as TestsNext, Turns, Withdraws, GivesBack, Operates}}
use Rattle.turns.{specs.declared.wanted.Wanted.{Wanted, TheVariants.{Seize, Test}}, proofs.Keeping.{walk_keeps, WalkFits}}

-- with nothing held and nothing read all of a script is left
pub left_fresh : {Lock A : Type 0} (same : Lock → Lock → Bool) (script : Script Lock A) → left same (record { held = []; readings = [] }) script ≡ script
unfolding left left_of_test left_of_seizing is_held value_read
left_fresh same (Ends found) = refl
left_fresh same (TestThen word script) = refl
left_fresh same (SeizeThen lock script) = refl

module _ (O : System) (is : IsSystem O) where
  open O use {Lock, Job, Effect, Decision, IsLock}

  pub stands_begin : (job : Job) → O.IsJob job → IsValid O (begin O job)
  unfolding walk
  stands_begin job right = ap first_wanted (left_fresh O.same (O.script job)) ∙ is.first job right

  -- what the walk of an attempt comes to fits the locks held
  pub come_fits : (a : AttemptOf O) → O.IsJob a.job → AreReadWords a.readings → WalkFits O (DecidesUnder O) a.held (walk_result O a)
  come_fits a right read =
      walk_keeps O (λ x y e. (is.same x y).0 e) (DecidesUnder O) (seen_of a) read [] (O.script a.job) (λ lock none. absurd none) (is.keeps a.job right)

  -- a lock that the walk needs next is one of the system's
  pub wanted_lock : (a : AttemptOf O) (lock : Lock) → O.IsJob a.job → AreReadWords a.readings → walk_result O a ≡ Err (Seize lock) → IsLock lock
  wanted_lock a lock right read come = subst (WalkFits O (DecidesUnder O) a.held) come (come_fits a right read)

  pub stands_on : (a : AttemptOf O) (to : Result Decision (Wanted Lock ℕ)) → walk_result O a ≡ to → IsValid O (goes_on O a to)
  stands_on a (Ok decision) come = record { decision = decision; come = come; reply = refl; effects = refl }
  stands_on a (Err (Seize lock)) come = come
  stands_on a (Err (Test word)) come = come

  stands_freed : (a : AttemptOf O) (held : List Lock) → O.IsJob a.job → IsValid O (giving_back O a held)
  stands_freed a [] right = stands_begin a.job right
  stands_freed a (lock ∷ held) right = λ e. absurd cc

  stands_operated : (a : AttemptOf O) (turn : ℕ) (effects : List Effect) → a.phase ≡ Operates turn → a.effects ≡ effects → HasTurned O a
      → IsValid O (operated a effects)
  stands_operated a turn [] at left turned =
      subst (IsValidIn O (operated a [])) (sym at)
      (record { seen = turned.seen; decision = turned.decision; come = turned.come; made = turned.made; reply = turned.reply; effects = turned.effects })
  stands_operated a turn (effect ∷ effects) at left turned = subst (IsValidIn O (operated a (effect ∷ effects))) (sym at) (record {
    seen = turned.seen;
    decision = turned.decision;
    come = turned.come;
    made = turned.made ++ effect ∷ [];
    reply = turned.reply;
    effects = turned.effects ∙ ap (λ (l : List Effect). turned.made ++ l) left ∙ sym (append_assoc turned.made (effect ∷ []) effects);
  })

  -- a denied request
  stands_denied : (asks : Bool) (a : AttemptOf O) (lock : Lock) → O.IsJob a.job → IsLock lock
      → IsValid O (if asks then denied a lock else giving_back O (forgotten a) a.held)
  stands_denied true a lock right there = there
  stands_denied false a lock right there = stands_freed (forgotten a) a.held right

  changes_in : (a : AttemptOf O) (phase : Phase Lock ℕ) (answer : Answer) → O.IsJob a.job → AreReadWords (read_in phase a.readings) → a.phase ≡ phase
      → IsValid O a → IsValidIn O a phase → IsValid O (changed O a phase answer)
  changes_in a (Requests lock) (Asked word) right read at all valid = valid
  changes_in a (Requests lock) Seized right read at all valid =
      stands_on (record a { held = a.held ++ lock ∷ [] }) (walk_result O (record a { held = a.held ++ lock ∷ [] })) refl
  changes_in a (Requests lock) (Held holder) right read at all valid = stands_denied O.sharing.asks a lock right (wanted_lock a lock right read valid)
  changes_in a (Requests lock) (Preferred other) right read at all valid = stands_denied O.sharing.asks a lock right (wanted_lock a lock right read valid)
  changes_in a (SeizesNext lock expected) Seized right read at all valid =
      stands_on (record a { held = a.held ++ lock ∷ [] }) (walk_result O (record a { held = a.held ++ lock ∷ [] })) refl
  changes_in a (SeizesNext lock expected) (Held holder) right read at all valid = wanted_lock a lock right read valid
  changes_in a (SeizesNext lock expected) (Preferred other) right read at all valid = wanted_lock a lock right read valid
  changes_in a (SeizesNext lock expected) (Again word) right read at all valid = valid
  changes_in a (TestsNext word) (Value value) right read at all valid =
      let more : AttemptOf O = record a { readings = a.readings ++ record { word = word; value = value } ∷ [] } in
      stands_on more (walk_result O more) refl
  changes_in a Turns (TurnNumber number) right read at all valid =
      record { seen = seen_of a; decision = valid.decision; come = valid.come; made = []; reply = valid.reply; effects = sym valid.effects }
  changes_in a (Withdraws lock) Done right read at all valid = stands_freed a a.held right
  changes_in a GivesBack Done right read at all valid = stands_freed a (rest_of a.held) right
  changes_in a (Operates turn) Done right read at all valid = stands_operated a turn a.effects at refl valid
  changes_in a _ _ right read at all valid = all

  pub stands_change : (a : AttemptOf O) (answer : Answer) → O.IsJob a.job → AreReadWords (read_in a.phase a.readings) → IsValid O a
      → IsValid O (change O a answer)
  stands_change a answer right read valid = changes_in a a.phase answer right read refl valid valid

  restarts_in : (a : AttemptOf O) (phase : Phase Lock ℕ) → O.IsJob a.job → AreReadWords (read_in phase a.readings) → IsValid O a → IsValidIn O a phase
      → IsValid O (restarted_in O phase a)
  restarts_in a (Requests lock) right read all valid = stands_freed (forgotten a) a.held right
  restarts_in a (SeizesNext lock expected) right read all valid = wanted_lock a lock right read valid
  restarts_in a (TestsNext word) right read all valid = stands_freed (forgotten a) a.held right
  restarts_in a Turns right read all valid = stands_freed (forgotten a) a.held right
  restarts_in a (Withdraws lock) right read all valid = all
  restarts_in a GivesBack right read all valid = all
  restarts_in a (Operates turn) right read all valid = all

  pub stands_restarted : (a : AttemptOf O) → O.IsJob a.job → AreReadWords (read_in a.phase a.readings) → IsValid O a → IsValid O (restarted O a)
  stands_restarted a right read valid = restarts_in a a.phase right read valid valid
