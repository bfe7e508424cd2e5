-- how many steps an attempt takes that is never denied a lock
use Rattle.std.proofs.Common.{◌≡◌, ℕ, suc, ◌+◌, ◌-◌, ◌*◌, ◌<◌, ◌≤◌, ◌^◌, Bool, true, false, List, [], ◌∷◌, ◌++◌, length, length-append, refl, sym, ap, subst}
use Rattle.std.proofs.Common.{arith, Option, Some, None, Result, Ok, Err, if◌then◌else◌}
use Rattle.turns.specs.{Seen.{Seen, AreReadWords}, Script.{Script, Ends, TestThen, SeizeThen, AsksAtMost, is_held, value_read, left, left_of_test}}
use Rattle.turns.specs.{Script.{left_of_seizing, first_wanted, walk}, System.{System, IsSystem, AreWords}, Attempt.{AttemptOf, IsAnswer, IsValid, IsValidIn}}
use Rattle.turns.specs.Attempt.{act, act_in, begin, change, changed, closing_act, denied, forgotten, walk_result, free_act, giving_back, goes_on}
use Rattle.turns.specs.{Attempt.{effects_left_in, operated, read_in, rest_of, seen_of}, World.World, Law.{FitsIn, IsSound}, Bounds.{AreBounded, AreSteady}}
use Rattle.turns.specs.{Bounds.{AllEndsHave, IsSteady}, declared.answer.Answer.{Answer, TheVariants.{Asked, Seized, Held, Preferred, Again, Value}}}
use Rattle.turns.specs.declared.{answer.Answer.TheVariants.{Turn as TurnNumber, Done}, phase.Phase.{Phase, TheVariants.{Requests, Seizes as SeizesNext}}}
use Rattle.turns.specs.declared.{phase.Phase.TheVariants.{Tests as TestsNext, Turns, Withdraws, GivesBack, Operates}, reading.Reading.Reading}
use Rattle.turns.{specs.declared.wanted.Wanted.{Wanted, TheVariants.{Seize, Test}}, proofs.Room.{Grows, held_last, held_before, read_last, read_before}}
use Rattle.turns.proofs.{Room.{left_asks, seized_at, read_at}, Sound.are_read, Standing.stands_change, Words.{read_more, run_ends, value_read-below}}

module _ {Lock A : Type 0} (same : Lock → Lock → Bool) (Has : A → Type 0) (seen : Seen Lock) (read : AreReadWords seen.readings) where
  -- what is left of a script ends as the script does
  left_ends : (script : Script Lock A) → AllEndsHave Has script → AllEndsHave Has (left same seen script)
  unfolding AllEndsHave left left_of_test left_of_seizing
  left_ends (Ends found) has = has
  left_ends (TestThen word script) has = at (value_read seen.readings word) refl (λ value below. left_ends (script value) (has value below)) where
    at : (o : Option ℕ) → value_read seen.readings word ≡ o → ((value : ℕ) → value < 2 ^ 64 → AllEndsHave Has (left same seen (script value)))
        → AllEndsHave Has (left_of_test script (λ value. left same seen (script value)) word o)
    at None is later = has
    at (Some value) is later = later value (value_read-below seen.readings word value read is)
  left_ends (SeizeThen lock script) has = at (is_held same seen.held lock) (left_ends script has) where
    at : (b : Bool) → AllEndsHave Has (left same seen script) → AllEndsHave Has (left_of_seizing script (left same seen script) lock b)
    at false later = has
    at true later = later

  first_end : (script : Script Lock A) (found : A) → AllEndsHave Has script → first_wanted script ≡ Ok found → Has found
  unfolding AllEndsHave first_wanted
  first_end (Ends end) found has e = let one : end ≡ found = cc in subst Has one has
  first_end (TestThen word script) found has e = absurd cc
  first_end (SeizeThen lock script) found has e = absurd cc

  -- and so does a walk through it
  pub walk_ends : (script : Script Lock A) (found : A) → AllEndsHave Has script → walk same seen script ≡ Ok found → Has found
  unfolding walk
  walk_ends script found has e = first_end (left same seen script) found (left_ends script has) e

-- past the turn, and in giving back, a step has no other answer than that it is done
free_done : (O : System) (held : List O.Lock) (answer : Answer) → IsAnswer O (free_act held) answer → answer ≡ Done
free_done O [] answer fits = absurd fits
free_done O (lock ∷ held) Done fits = refl
free_done O (lock ∷ held) answer fits = absurd fits

closing_done : (O : System) (effects : List O.Effect) (held : List O.Lock) (answer : Answer) → IsAnswer O (closing_act effects held) answer → answer ≡ Done
closing_done O [] held answer fits = free_done O held answer fits
closing_done O (effect ∷ effects) held Done fits = refl
closing_done O (effect ∷ effects) held answer fits = absurd fits

module _ (O : System) where
  freed_job : (a : AttemptOf O) (held : List O.Lock) → (giving_back O a held).job ≡ a.job
  freed_job a [] = refl
  freed_job a (lock ∷ held) = refl

  goes_on_job : (a : AttemptOf O) (to : Result O.Decision (Wanted O.Lock ℕ)) → (goes_on O a to).job ≡ a.job
  goes_on_job a (Ok decision) = refl
  goes_on_job a (Err (Seize lock)) = refl
  goes_on_job a (Err (Test word)) = refl

  operated_job : (a : AttemptOf O) (effects : List O.Effect) → (operated a effects).job ≡ a.job
  operated_job a [] = refl
  operated_job a (effect ∷ effects) = refl

  denied_job : (asks : Bool) (a : AttemptOf O) (lock : O.Lock) → (if asks then denied a lock else giving_back O (forgotten a) a.held).job ≡ a.job
  denied_job true a lock = refl
  denied_job false a lock = freed_job (forgotten a) a.held

  -- an attempt's job stays
  changed_job : (a : AttemptOf O) (phase : Phase O.Lock ℕ) (answer : Answer) → (changed O a phase answer).job ≡ a.job
  changed_job a (Requests lock) (Asked word) = refl
  changed_job a (Requests lock) Seized = let b : AttemptOf O = record a { held = a.held ++ lock ∷ [] } in goes_on_job b (walk_result O b)
  changed_job a (Requests lock) (Held holder) = denied_job O.sharing.asks a lock
  changed_job a (Requests lock) (Preferred other) = denied_job O.sharing.asks a lock
  changed_job a (SeizesNext lock expected) Seized = let b : AttemptOf O = record a { held = a.held ++ lock ∷ [] } in goes_on_job b (walk_result O b)
  changed_job a (SeizesNext lock expected) (Held holder) = refl
  changed_job a (SeizesNext lock expected) (Preferred other) = refl
  changed_job a (SeizesNext lock expected) (Again word) = refl
  changed_job a (TestsNext word) (Value value) = let b : AttemptOf O = record a { readings = a.readings ++ record { word = word; value = value } ∷ [] } in
      goes_on_job b (walk_result O b)
  changed_job a Turns (TurnNumber number) = refl
  changed_job a (Withdraws lock) Done = freed_job a a.held
  changed_job a GivesBack Done = freed_job a (rest_of a.held)
  changed_job a (Operates turn) Done = operated_job a a.effects
  changed_job a _ _ = refl

  pub job_stays : (a : AttemptOf O) (answer : Answer) → O.IsJob a.job → O.IsJob (change O a answer).job
  job_stays a answer right = subst O.IsJob (sym (changed_job a a.phase answer)) right

module _ (O : System) (is : IsSystem O) (tests seizings effects : ℕ) (bounded : AreBounded O tests seizings effects) where
  open O use {Lock, Job, Effect, Decision}

  -- this many steps are enough for a whole job
  abbrev pub whole_job : ℕ
  whole_job = 3 * seizings + tests + effects + 1

  -- this many are enough for what is left of its script, its turn, its effects and its frees
  pub record HasRoom (enough : ℕ) (a : AttemptOf O) : Type 0 where
    pub more_tests : ℕ
    pub more_seizings : ℕ
    pub read : AreReadWords a.readings
    pub asks : AsksAtMost more_tests more_seizings (left O.same (seen_of a) (O.script a.job))
    pub fits : 3 * more_seizings + more_tests + effects + 1 + length a.held ≤ enough

  -- this many steps are enough for an attempt in a phase
  abbrev pub WithinIn : ℕ → AttemptOf O → Phase Lock ℕ → Type 0
  WithinIn enough a (Requests lock) = HasRoom enough a
  WithinIn enough a (SeizesNext lock expected) = HasRoom (suc enough) a
  WithinIn enough a (TestsNext word) = HasRoom enough a
  WithinIn enough a Turns = AreReadWords a.readings × (length a.effects + 1 + length a.held ≤ enough)
  WithinIn enough a (Withdraws lock) = 1 + length a.held + whole_job ≤ enough
  WithinIn enough a GivesBack = length a.held + whole_job ≤ enough
  WithinIn enough a (Operates turn) = length a.effects + length a.held ≤ enough

  abbrev pub IsWithin : ℕ → AttemptOf O → Type 0
  IsWithin enough a = WithinIn enough a a.phase

  -- a decision has at most `effects` effects
  few_effects : (job : Job) (seen : Seen Lock) (decision : Decision) → O.IsJob job → AreReadWords seen.readings → walk O.same seen (O.script job) ≡ Ok decision
      → length (O.effects_of decision) ≤ effects
  few_effects job seen decision right read come =
      walk_ends O.same (λ d. length (O.effects_of d) ≤ effects) seen read (O.script job) decision (bounded.effects job right) come

  within_on : (enough : ℕ) (a : AttemptOf O) (to : Result Decision (Wanted Lock ℕ)) → O.IsJob a.job → walk_result O a ≡ to → HasRoom enough a
      → IsWithin enough (goes_on O a to)
  within_on enough a (Ok decision) right come room = (room.read, omega (arith, few_effects a.job (seen_of a) decision right room.read come, room.fits))
  within_on enough a (Err (Seize lock)) right come room =
      record { more_tests = room.more_tests; more_seizings = room.more_seizings; read = room.read; asks = room.asks; fits = room.fits }
  within_on enough a (Err (Test word)) right come room =
      record { more_tests = room.more_tests; more_seizings = room.more_seizings; read = room.read; asks = room.asks; fits = room.fits }

  -- an attempt has room for a whole job besides what it holds
  pub room_anywhere : (a : AttemptOf O) → O.IsJob a.job → AreReadWords a.readings → HasRoom (whole_job + length a.held) a
  room_anywhere a right read = record {
    more_tests = tests;
    more_seizings = seizings;
    read = read;
    asks = left_asks O.same (λ lock. (is.same lock lock).1 refl) (seen_of a) tests seizings (O.script a.job) read (bounded.asks a.job right);
    fits = omega arith;
  }

  pub within_begin : (enough : ℕ) (job : Job) → O.IsJob job → whole_job ≤ enough → IsWithin enough (begin O job)
  within_begin enough job right fits =
      let room = room_anywhere (begin O job) right (λ r none. absurd none) in
      record { more_tests = room.more_tests; more_seizings = room.more_seizings; read = room.read; asks = room.asks; fits = omega (arith, room.fits) }

  within_freed : (enough : ℕ) (a : AttemptOf O) (held : List Lock) → O.IsJob a.job → length held + whole_job ≤ enough → IsWithin enough (giving_back O a held)
  within_freed enough a [] right fits = within_begin enough a.job right (omega arith)
  within_freed enough a (lock ∷ held) right fits = fits

  -- a lock that was needed is held: one seize less
  pub room_seized : (enough : ℕ) (a : AttemptOf O) (lock : Lock) → walk_result O a ≡ Err (Seize lock) → HasRoom (suc (suc enough)) a
      → HasRoom enough (record a { held = a.held ++ lock ∷ [] })
  unfolding walk
  room_seized enough a lock come room =
      let more : Seen Lock = record { held = a.held ++ lock ∷ []; readings = a.readings } in
      let self : (l : Lock) → O.same l l ≡ true = λ l. (is.same l l).1 refl in
      let grows : Grows O.same self (seen_of a) more = record { held = λ l e. held_before O.same self a.held lock l e; readings = λ word value e. e } in
      let one =
      seized_at O.same self (seen_of a) more lock room.more_tests room.more_seizings (O.script a.job) (left O.same (seen_of a) (O.script a.job)) grows room.read
      (held_last O.same self a.held lock) refl come room.asks in
      record {
        more_tests = room.more_tests;
        more_seizings = one.rest;
        read = room.read;
        asks = one.asks;
        fits = omega (arith, room.fits, one.one, length-append a.held (lock ∷ []));
      }

  -- a word that was needed is read: one test less
  room_read : (enough : ℕ) (a : AttemptOf O) (reading : Reading ℕ) → reading.value < 2 ^ 64 → walk_result O a ≡ Err (Test reading.word) → HasRoom (suc enough) a
      → HasRoom enough (record a { readings = a.readings ++ reading ∷ [] })
  unfolding walk
  room_read enough a reading below come room =
      let more : Seen Lock = record { held = a.held; readings = a.readings ++ reading ∷ [] } in
      let self : (l : Lock) → O.same l l ≡ true = λ l. (is.same l l).1 refl in
      let grows : Grows O.same self (seen_of a) more =
      record { held = λ l e. e; readings = λ word value e. read_before O.same self a.readings reading word value e } in
      let read = read_more a.readings reading room.read below in
      let one =
      read_at O.same self (seen_of a) more reading.word room.more_tests room.more_seizings (O.script a.job) (left O.same (seen_of a) (O.script a.job)) grows
      read (read_last O.same self a.readings reading) refl come room.asks in
      record {
        more_tests = one.rest;
        more_seizings = room.more_seizings;
        read = read;
        asks = one.asks;
        fits = omega (arith, room.fits, one.one);
      }

  -- the same room, counted from more
  pub room_more : (enough more : ℕ) (a : AttemptOf O) → enough ≤ more → HasRoom enough a → HasRoom more a
  room_more enough more a fits room =
      record { more_tests = room.more_tests; more_seizings = room.more_seizings; read = room.read; asks = room.asks; fits = omega (arith, room.fits) }

  -- a step was made, so there is one less to make
  pub record HasMadeOne (enough : ℕ) (a : AttemptOf O) : Type 0 where
    pub less : ℕ
    pub one : enough ≡ suc less
    pub within : IsWithin less a

  made_operated : (enough turn : ℕ) (a : AttemptOf O) (left : List Effect) (held : List Lock) → a.phase ≡ Operates turn → a.effects ≡ left → a.held ≡ held
      → length left + length held ≤ enough → IsAnswer O (closing_act left held) Done → HasMadeOne enough (operated a left)
  made_operated enough turn a [] [] at these those fits answer = absurd answer
  made_operated enough turn a [] (lock ∷ held) at these those fits answer =
      let none : length a.effects ≡ 0 = ap (length {A = Effect}) these in
      let rest : length (rest_of a.held) ≡ length held = ap (λ (l : List Lock). length (rest_of l)) those in
      record { less = enough - 1; one = omega arith; within = subst (WithinIn (enough - 1) (operated a [])) (sym at) (omega (arith, none, rest)) }
  made_operated enough turn a (effect ∷ left) held at these those fits answer =
      let all : length a.held ≡ length held = ap (length {A = Lock}) those in
      record { less = enough - 1; one = omega arith; within = subst (WithinIn (enough - 1) (operated a (effect ∷ left))) (sym at) (omega (arith, all)) }

  made_given : (enough : ℕ) (a : AttemptOf O) (held : List Lock) → a.held ≡ held → O.IsJob a.job → length held + whole_job ≤ enough
      → IsAnswer O (free_act held) Done → HasMadeOne enough (giving_back O a (rest_of held))
  made_given enough a [] those right fits answer = absurd answer
  made_given enough a (lock ∷ held) those right fits answer =
      record { less = enough - 1; one = omega arith; within = within_freed (enough - 1) a held right (omega arith) }

  -- a steady answer to an attempt's step leaves one step less
  pub made_in : (enough : ℕ) (a : AttemptOf O) (phase : Phase Lock ℕ) (answer : Answer) → O.IsJob a.job → a.phase ≡ phase → IsValidIn O a phase
      → WithinIn enough a phase → IsAnswer O (act_in phase a) answer → IsSteady answer → HasMadeOne enough (changed O a phase answer)
  made_in enough a (Requests lock) (Asked word) right at valid room fits steady = record {
    less = enough - 1;
    one = omega (arith, room.fits);
    within = record { more_tests = room.more_tests; more_seizings = room.more_seizings; read = room.read; asks = room.asks; fits = omega (arith, room.fits) };
  }
  made_in enough a (Requests lock) Seized right at valid room fits steady =
      let b : AttemptOf O = record a { held = a.held ++ lock ∷ [] } in
      let after = room_seized (enough - 1) a lock valid (room_more enough (suc (suc (enough - 1))) a (omega arith) room) in
      record { less = enough - 1; one = omega (arith, room.fits); within = within_on (enough - 1) b (walk_result O b) right refl after }
  made_in enough a (Requests lock) (Held holder) right at valid room fits steady = absurd steady
  made_in enough a (Requests lock) (Preferred other) right at valid room fits steady = absurd steady
  made_in enough a (Requests lock) answer right at valid room fits steady = absurd fits
  made_in enough a (SeizesNext lock expected) Seized right at valid room fits steady =
      let b : AttemptOf O = record a { held = a.held ++ lock ∷ [] } in
      let after = room_seized (enough - 1) a lock valid (room_more (suc enough) (suc (suc (enough - 1))) a (omega arith) room) in
      record { less = enough - 1; one = omega (arith, after.fits); within = within_on (enough - 1) b (walk_result O b) right refl after }
  made_in enough a (SeizesNext lock expected) (Held holder) right at valid room fits steady = absurd steady
  made_in enough a (SeizesNext lock expected) (Preferred other) right at valid room fits steady = absurd steady
  made_in enough a (SeizesNext lock expected) (Again word) right at valid room fits steady = absurd steady
  made_in enough a (SeizesNext lock expected) answer right at valid room fits steady = absurd fits
  made_in enough a (TestsNext word) (Value value) right at valid room fits steady =
      let reading : Reading ℕ = record { word = word; value = value } in
      let b : AttemptOf O = record a { readings = a.readings ++ reading ∷ [] } in
      let after = room_read (enough - 1) a reading fits valid (room_more enough (suc (enough - 1)) a (omega arith) room) in
      record { less = enough - 1; one = omega (arith, room.fits); within = within_on (enough - 1) b (walk_result O b) right refl after }
  made_in enough a (TestsNext word) answer right at valid room fits steady = absurd fits
  made_in enough a Turns (TurnNumber number) right at valid room fits steady =
      record { less = enough - 1; one = omega (arith, room.1); within = omega (arith, room.1) }
  made_in enough a Turns answer right at valid room fits steady = absurd fits
  made_in enough a (Withdraws lock) Done right at valid room fits steady =
      record { less = enough - 1; one = omega arith; within = within_freed (enough - 1) a a.held right (omega arith) }
  made_in enough a (Withdraws lock) answer right at valid room fits steady = absurd fits
  made_in enough a GivesBack Done right at valid room fits steady = made_given enough a a.held refl right room fits
  made_in enough a GivesBack answer right at valid room fits steady = let done : answer ≡ Done = free_done O a.held answer fits in absurd cc
  made_in enough a (Operates turn) Done right at valid room fits steady = made_operated enough turn a a.effects a.held at refl refl room fits
  made_in enough a (Operates turn) answer right at valid room fits steady = let done : answer ≡ Done = closing_done O a.effects a.held answer fits in absurd cc

  pub made_one : (enough : ℕ) (a : AttemptOf O) (answer : Answer) → O.IsJob a.job → IsValid O a → IsWithin enough a → IsAnswer O (act a) answer
      → IsSteady answer → HasMadeOne enough (change O a answer)
  made_one enough a answer right valid within fits steady = made_in enough a a.phase answer right refl valid within fits steady

  -- what it has read fits its words
  within_read : (enough : ℕ) (a : AttemptOf O) (phase : Phase Lock ℕ) → WithinIn enough a phase → AreReadWords (read_in phase a.readings)
  within_read enough a (Requests lock) room = room.read
  within_read enough a (SeizesNext lock expected) room = room.read
  within_read enough a (TestsNext word) room = room.read
  within_read enough a Turns within = within.0
  within_read enough a (Withdraws lock) within = λ r none. absurd none
  within_read enough a GivesBack within = λ r none. absurd none
  within_read enough a (Operates turn) within = λ r none. absurd none

  -- steady answers, one after another, are no more than are enough
  pub steady_within : (enough : ℕ) (a : AttemptOf O) (answers : List Answer) → O.IsJob a.job → IsValid O a → IsWithin enough a → AreSteady O a answers
      → length answers ≤ enough
  steady_within enough a [] right valid within steady = omega arith
  steady_within enough a (answer ∷ answers) right valid within (fits, steady, later) =
      let one = made_one enough a answer right valid within fits steady in
      let rest =
      steady_within one.less (change O a answer) answers (job_stays O a answer right)
      (stands_change O is a answer right (within_read enough a a.phase within) valid) one.within later in
      omega (arith, one.one, rest)

  -- wherever it is, an attempt ends in a whole job's steps once what it holds is freed
  within_in : (a : AttemptOf O) (phase : Phase Lock ℕ) → O.IsJob a.job → IsValidIn O a phase → AreReadWords (read_in phase a.readings)
      → length (effects_left_in phase a.effects) ≤ effects → WithinIn (1 + length a.held + whole_job) a phase
  within_in a (Requests lock) right valid read few =
      room_more (whole_job + length a.held) (1 + length a.held + whole_job) a (omega arith) (room_anywhere a right read)
  within_in a (SeizesNext lock expected) right valid read few =
      room_more (whole_job + length a.held) (suc (1 + length a.held + whole_job)) a (omega arith) (room_anywhere a right read)
  within_in a (TestsNext word) right valid read few =
      room_more (whole_job + length a.held) (1 + length a.held + whole_job) a (omega arith) (room_anywhere a right read)
  within_in a Turns right valid read few =
      (read, omega (arith, ap (length {A = Effect}) valid.effects, few_effects a.job (seen_of a) valid.decision right read valid.come))
  within_in a (Withdraws lock) right valid read few = omega arith
  within_in a GivesBack right valid read few = omega arith
  within_in a (Operates turn) right valid read few = omega (arith, few)

  -- at most `effects` effects are left
  left_few : (w : World O) (k number : ℕ) (a : AttemptOf O) (phase : Phase Lock ℕ) → O.IsJob a.job → FitsIn O w k number a phase
      → length (effects_left_in phase a.effects) ≤ effects
  left_few w k number a (Requests lock) right fits = omega arith
  left_few w k number a (SeizesNext lock expected) right fits = omega arith
  left_few w k number a (TestsNext word) right fits = omega arith
  left_few w k number a Turns right fits = omega arith
  left_few w k number a (Withdraws lock) right fits = omega arith
  left_few w k number a GivesBack right fits = omega arith
  left_few w k number a (Operates turn) right fits =
      let decided = fits.decided in
      omega (
        arith,
        ap (length {A = Effect}) decided.effects,
        length-append decided.made a.effects,
        run_ends (λ d. length (O.effects_of d) ≤ effects) decided.words (O.script a.job) decided.are_words (bounded.effects a.job right),
      )

  pub within_anywhere : (w : World O) (k number : ℕ) (a : AttemptOf O) → AreWords w.words → IsSound O w k number a → IsWithin (1 + length a.held + whole_job) a
  within_anywhere w k number a are sound =
      within_in a a.phase sound.job sound.valid (are_read O w.words a.held (read_in a.phase a.readings) are sound.read)
      (left_few w k number a a.phase sound.job sound.fits)
