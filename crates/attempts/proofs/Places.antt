-- an attempt has room for what is left of its script, and its next step is on a word of the system
use Rattle.std.proofs.Common.{◌≡◌, ℕ, Bool, true, false, ◌+◌, ◌-◌, ◌<◌, ◌^◌, List, [], ◌∷◌, ◌++◌, length, length-append, inl, inr, refl, sym, subst, arith}
use Rattle.std.proofs.Common.{Result, Ok, Err, if◌then◌else◌}
use Rattle.turns.specs.Attempt.{AttemptOf, IsValidIn, act, act_in, closing_act, free_act, begin, change, changed, walk_result, denied, forgotten, giving_back}
use Rattle.turns.specs.{Attempt.{goes_on, operated, read_in, rest_of, restarted, restarted_in, seen_of}, Script.{AsksAtMost, left, walk}}
use Rattle.turns.specs.{Seen.{Seen, AreReadWords}, System.{System, IsSystem, DecidesUnder, IsUnder}, World.place, declared.answer.Answer.Answer}
use Rattle.turns.specs.declared.{answer.Answer.TheVariants.{Asked, Seized, Held, Preferred, Again, Value, Turn, Done}, phase.Phase.Phase}
use Rattle.turns.specs.declared.{phase.Phase.TheVariants.{Requests, Seizes, Tests, Turns, Withdraws, GivesBack, Operates}, reading.Reading.Reading}
use Rattle.turns.{specs.declared.wanted.Wanted.{Wanted, TheVariants.{Seize, Test}}, proofs.{Keeping.{FitsHeld, WalkFits}, Lists.in_more}}
use Rattle.turns.proofs.Room.{Grows, held_last, held_before, read_last, read_before, left_asks, seized_at, read_at}
use Rattle.turns.proofs.{Standing.{come_fits, stands_begin, stands_change, stands_restarted, wanted_lock}, SteadyAttempts.job_stays, Words.read_more}
use Rattle.attempts.specs.Validity.{AreLocks, AreThere, IsValidInBounds, HasRoom, HasRoomIn}
use Rattle.attempts.specs.Applied as taken

-- an attempt that has room for what its script needs next has room for what is left then
pub record RoomAfter (Room : Type 0) (length most : ℕ) : Type 0 where
  pub fits : length < most
  pub room : Room

-- a value that was tested fits a word
abbrev pub FitsValue : Answer → Type 0
FitsValue answer = taken.FitsValue answer

none_read : AreReadWords []
none_read = λ r none. absurd none

-- of what was read what counts fits its words too
read_still : {Lock : Type 0} (phase : Phase Lock ℕ) (readings : List (Reading ℕ)) → AreReadWords readings → AreReadWords (read_in phase readings)
read_still (Withdraws lock) readings read = none_read
read_still GivesBack readings read = none_read
read_still (Operates turn) readings read = none_read
read_still phase readings read = read

module _ (O : System) (is : IsSystem O) (most_readings most_held : ℕ)
    (asks : (job : O.Job) → O.IsJob job → AsksAtMost most_readings most_held (O.script job)) where
  open O use {Lock, Job, Effect, Decision}

  itself : (lock : Lock) → O.same lock lock ≡ true
  itself lock = (is.same lock lock).1 refl

  abbrev Room : AttemptOf O → Type 0
  Room a = HasRoom O most_readings most_held a

  abbrev RoomIn : AttemptOf O → Phase Lock ℕ → Type 0
  RoomIn a phase = HasRoomIn O most_readings most_held a phase

  abbrev Locks : List Lock → Type 0
  Locks held = AreLocks O most_readings most_held held

  abbrev There : List Effect → Type 0
  There effects = AreThere O most_readings most_held effects

  pub room_seized : (a : AttemptOf O) (lock : Lock) → AreReadWords a.readings → walk_result O a ≡ Err (Seize lock) → Room a
      → RoomAfter (Room (record a { held = a.held ++ lock ∷ [] })) (length a.held) most_held
  unfolding walk
  room_seized a lock read come fits =
      let more : Seen Lock = record { held = a.held ++ lock ∷ []; readings = a.readings } in
      let grows : Grows O.same itself (seen_of a) more = record { held = λ c e. held_before O.same itself a.held lock c e; readings = λ word value e. e } in
      let room =
      seized_at O.same itself (seen_of a) more lock (most_readings - length a.readings) (most_held - length a.held) (O.script a.job)
      (left O.same (seen_of a) (O.script a.job)) grows read (held_last O.same itself a.held lock) refl come fits in
      let size : length (a.held ++ lock ∷ []) ≡ length a.held + 1 = length-append a.held (lock ∷ []) in
      let rest : room.rest ≡ most_held - length (a.held ++ lock ∷ []) = omega (arith, room.one, size) in
      record {
        fits = omega (arith, room.one);
        room = subst (λ (n : ℕ). AsksAtMost (most_readings - length a.readings) n (left O.same more (O.script a.job))) rest room.asks;
      }

  pub room_read : (a : AttemptOf O) (reading : Reading ℕ) → AreReadWords a.readings → reading.value < 2 ^ 64 → walk_result O a ≡ Err (Test reading.word)
      → Room a → RoomAfter (Room (record a { readings = a.readings ++ reading ∷ [] })) (length a.readings) most_readings
  unfolding walk
  room_read a reading read below come fits =
      let more : Seen Lock = record { held = a.held; readings = a.readings ++ reading ∷ [] } in
      let grows : Grows O.same itself (seen_of a) more =
      record { held = λ c e. e; readings = λ word value e. read_before O.same itself a.readings reading word value e } in
      let room =
      read_at O.same itself (seen_of a) more reading.word (most_readings - length a.readings) (most_held - length a.held) (O.script a.job)
      (left O.same (seen_of a) (O.script a.job)) grows (read_more a.readings reading read below) (read_last O.same itself a.readings reading) refl come fits in
      let size : length (a.readings ++ reading ∷ []) ≡ length a.readings + 1 = length-append a.readings (reading ∷ []) in
      let rest : room.rest ≡ most_readings - length (a.readings ++ reading ∷ []) = omega (arith, room.one, size) in
      record {
        fits = omega (arith, room.one);
        room = subst (λ (n : ℕ). AsksAtMost n (most_held - length a.held) (left O.same more (O.script a.job))) rest room.asks;
      }

  -- one that has just begun has room for all of its script
  room_begin : (job : Job) → O.IsJob job → Room (begin O job)
  room_begin job right =
      let all : AsksAtMost most_readings most_held (left O.same (seen_of (begin O job)) (O.script job)) =
      left_asks O.same itself (record { held = []; readings = [] }) most_readings most_held (O.script job) none_read (asks job right) in
      let tests : most_readings ≡ most_readings - 0 = omega arith in
      let seizings : most_held ≡ most_held - 0 = omega arith in
      subst (λ (n : ℕ). AsksAtMost n (most_held - 0) (left O.same (seen_of (begin O job)) (O.script job))) tests
      (subst (λ (n : ℕ). AsksAtMost most_readings n (left O.same (seen_of (begin O job)) (O.script job))) seizings all)

  room_freed : (a : AttemptOf O) (held : List Lock) → O.IsJob a.job → RoomIn (giving_back O a held) (giving_back O a held).phase
  room_freed a [] right = room_begin a.job right
  room_freed a (lock ∷ held) right = tt

  -- one that goes on keeps its room
  room_on : (a : AttemptOf O) (found : Result Decision (Wanted Lock ℕ)) → Room a → RoomIn (goes_on O a found) (goes_on O a found).phase
  room_on a (Ok decision) room = tt
  room_on a (Err (Seize lock)) room = room
  room_on a (Err (Test word)) room = room

  room_operated : (a : AttemptOf O) (turn : ℕ) (effects : List Effect) → a.phase ≡ Operates turn → RoomIn (operated a effects) (operated a effects).phase
  room_operated a turn [] at = subst (λ (phase : Phase Lock ℕ). RoomIn (operated a []) phase) (sym at) tt
  room_operated a turn (effect ∷ effects) at = subst (λ (phase : Phase Lock ℕ). RoomIn (operated a (effect ∷ effects)) phase) (sym at) tt

  room_denied : (asks : Bool) (a : AttemptOf O) (lock : Lock) → O.IsJob a.job
      → RoomIn (if asks then denied a lock else giving_back O (forgotten a) a.held) (if asks then denied a lock else giving_back O (forgotten a) a.held).phase
  room_denied true a lock right = tt
  room_denied false a lock right = room_freed (forgotten a) a.held right

  -- whatever the answer to its step, a valid attempt has room again
  room_changed : (a : AttemptOf O) (phase : Phase Lock ℕ) (answer : Answer) → FitsValue answer → O.IsJob a.job → AreReadWords a.readings → a.phase ≡ phase
      → RoomIn a a.phase → IsValidIn O a phase → RoomIn a phase → RoomIn (changed O a phase answer) (changed O a phase answer).phase
  room_changed a (Requests lock) (Asked told) fits right read at all valid room = room
  room_changed a (Requests lock) Seized fits right read at all valid room =
      let more : AttemptOf O = record a { held = a.held ++ lock ∷ [] } in
      room_on more (walk_result O more) (room_seized a lock read valid room).room
  room_changed a (Requests lock) (Held holder) fits right read at all valid room = room_denied O.sharing.asks a lock right
  room_changed a (Requests lock) (Preferred other) fits right read at all valid room = room_denied O.sharing.asks a lock right
  room_changed a (Seizes lock expected) Seized fits right read at all valid room =
      let more : AttemptOf O = record a { held = a.held ++ lock ∷ [] } in
      room_on more (walk_result O more) (room_seized a lock read valid room).room
  room_changed a (Seizes lock expected) (Again told) fits right read at all valid room = room
  room_changed a (Seizes lock expected) (Held holder) fits right read at all valid room = tt
  room_changed a (Seizes lock expected) (Preferred other) fits right read at all valid room = tt
  room_changed a (Tests word) (Value value) fits right read at all valid room =
      let more : AttemptOf O = record a { readings = a.readings ++ record { word = word; value = value } ∷ [] } in
      room_on more (walk_result O more) (room_read a (record { word = word; value = value }) read fits valid room).room
  room_changed a Turns (Turn number) fits right read at all valid room = tt
  room_changed a (Withdraws lock) Done fits right read at all valid room = room_freed a a.held right
  room_changed a GivesBack Done fits right read at all valid room = room_freed a (rest_of a.held) right
  room_changed a (Operates turn) Done fits right read at all valid room = room_operated a turn a.effects at
  room_changed a _ _ fits right read at all valid room = all

  -- and so has one that restarts
  room_restarted : (a : AttemptOf O) (phase : Phase Lock ℕ) → O.IsJob a.job → RoomIn a a.phase → RoomIn (restarted_in O phase a) (restarted_in O phase a).phase
  room_restarted a (Seizes lock expected) right all = tt
  room_restarted a (Withdraws lock) right all = all
  room_restarted a GivesBack right all = all
  room_restarted a (Operates turn) right all = all
  room_restarted a phase right all = room_freed (forgotten a) a.held right

  -- whatever its phase: it holds locks of the system, its readings fit words, and its effects are
  -- on words that there are
  pub record Keeps (a : AttemptOf O) : Type 0 where
    pub held : Locks a.held
    pub read : AreReadWords a.readings
    pub effects : There a.effects

  keeps_begin : (job : Job) → Keeps (begin O job)
  keeps_begin job = record { held = λ lock none. absurd none; read = none_read; effects = λ effect none. absurd none }

  under_there : (held : List Lock) (word : ℕ) → IsUnder O held word → word < O.size
  under_there held word under = is.words.word_there word under.lock under.protects

  keeps_decided : (a : AttemptOf O) (decision : Decision) → FitsHeld O (DecidesUnder O) a.held decision → Keeps a → Keeps (goes_on O a (Ok decision))
  keeps_decided a decision fits keeps = record {
    held = keeps.held;
    read = keeps.read;
    effects = λ effect within. under_there fits.some (O.effect_word effect) (fits.fits.under effect within);
  }

  keeps_on : (a : AttemptOf O) (found : Result Decision (Wanted Lock ℕ)) → O.IsJob a.job → walk_result O a ≡ found → Keeps a → Keeps (goes_on O a found)
  keeps_on a (Ok decision) right come keeps =
      keeps_decided a decision (subst (WalkFits O (DecidesUnder O) a.held) come (come_fits O is a right keeps.read)) keeps
  keeps_on a (Err (Seize lock)) right come keeps = record { held = keeps.held; read = keeps.read; effects = keeps.effects }
  keeps_on a (Err (Test word)) right come keeps = record { held = keeps.held; read = keeps.read; effects = keeps.effects }

  keeps_freed : (a : AttemptOf O) (held : List Lock) → Locks held → AreReadWords a.readings → There a.effects → Keeps (giving_back O a held)
  keeps_freed a [] locks read there = keeps_begin a.job
  keeps_freed a (lock ∷ held) locks read there = record { held = locks; read = read; effects = there }

  locks_rest : (held : List Lock) → Locks held → Locks (rest_of held)
  locks_rest [] locks = locks
  locks_rest (lock ∷ held) locks = λ other within. locks other (inr within)

  keeps_operated : (a : AttemptOf O) (effects : List Effect) → There effects → Keeps a → Keeps (operated a effects)
  keeps_operated a [] there keeps = record { held = locks_rest a.held keeps.held; read = keeps.read; effects = keeps.effects }
  keeps_operated a (effect ∷ effects) there keeps = record { held = keeps.held; read = keeps.read; effects = λ other within. there other (inr within) }

  keeps_put_off : (a : AttemptOf O) → Keeps a → Keeps (forgotten a)
  keeps_put_off a keeps = record { held = keeps.held; read = none_read; effects = λ effect none. absurd none }

  keeps_seized : (a : AttemptOf O) (lock : Lock) → O.IsLock lock → Keeps a → Keeps (record a { held = a.held ++ lock ∷ [] })
  keeps_seized a lock own keeps = record {
    held = λ other within. elim (in_more other lock a.held within) [ inl front ↦ keeps.held other front | inr e ↦ subst O.IsLock (sym e) own ];
    read = keeps.read;
    effects = keeps.effects;
  }

  keeps_read : (a : AttemptOf O) (reading : Reading ℕ) → reading.value < 2 ^ 64 → Keeps a → Keeps (record a { readings = a.readings ++ reading ∷ [] })
  keeps_read a reading below keeps = record { held = keeps.held; read = read_more a.readings reading keeps.read below; effects = keeps.effects }

  -- with another phase it keeps the same
  keeps_in : (a : AttemptOf O) (phase : Phase Lock ℕ) → Keeps a → Keeps (record a { phase = phase })
  keeps_in a phase keeps = record { held = keeps.held; read = keeps.read; effects = keeps.effects }

  keeps_given_up : (a : AttemptOf O) → Keeps a → Keeps (giving_back O (forgotten a) a.held)
  keeps_given_up a keeps = keeps_freed (forgotten a) a.held keeps.held none_read (λ effect none. absurd none)

  keeps_denied : (asks : Bool) (a : AttemptOf O) (lock : Lock) → Keeps a → Keeps (if asks then denied a lock else giving_back O (forgotten a) a.held)
  keeps_denied true a lock keeps = keeps_in (forgotten a) (Withdraws lock) (keeps_put_off a keeps)
  keeps_denied false a lock keeps = keeps_given_up a keeps

  keeps_changed : (a : AttemptOf O) (phase : Phase Lock ℕ) (answer : Answer) → FitsValue answer → O.IsJob a.job → IsValidIn O a phase → Keeps a
      → Keeps (changed O a phase answer)
  keeps_changed a (Requests lock) (Asked word) fits right valid keeps = keeps_in a (Seizes lock word) keeps
  keeps_changed a (Requests lock) Seized fits right valid keeps =
      let more : AttemptOf O = record a { held = a.held ++ lock ∷ [] } in
      keeps_on more (walk_result O more) right refl (keeps_seized a lock (wanted_lock O is a lock right keeps.read valid) keeps)
  keeps_changed a (Requests lock) (Held holder) fits right valid keeps = keeps_denied O.sharing.asks a lock keeps
  keeps_changed a (Requests lock) (Preferred other) fits right valid keeps = keeps_denied O.sharing.asks a lock keeps
  keeps_changed a (Seizes lock expected) Seized fits right valid keeps =
      let more : AttemptOf O = record a { held = a.held ++ lock ∷ [] } in
      keeps_on more (walk_result O more) right refl (keeps_seized a lock (wanted_lock O is a lock right keeps.read valid) keeps)
  keeps_changed a (Seizes lock expected) (Again word) fits right valid keeps = keeps_in a (Seizes lock word) keeps
  keeps_changed a (Seizes lock expected) (Held holder) fits right valid keeps = keeps_in (forgotten a) (Withdraws lock) (keeps_put_off a keeps)
  keeps_changed a (Seizes lock expected) (Preferred other) fits right valid keeps = keeps_in (forgotten a) (Withdraws lock) (keeps_put_off a keeps)
  keeps_changed a (Tests word) (Value value) fits right valid keeps =
      let reading : Reading ℕ = record { word = word; value = value } in
      let more : AttemptOf O = record a { readings = a.readings ++ reading ∷ [] } in
      keeps_on more (walk_result O more) right refl (keeps_read a reading fits keeps)
  keeps_changed a Turns (Turn number) fits right valid keeps = keeps_in a (Operates number) keeps
  keeps_changed a (Withdraws lock) Done fits right valid keeps = keeps_freed a a.held keeps.held keeps.read keeps.effects
  keeps_changed a GivesBack Done fits right valid keeps = keeps_freed a (rest_of a.held) (locks_rest a.held keeps.held) keeps.read keeps.effects
  keeps_changed a (Operates turn) Done fits right valid keeps = keeps_operated a a.effects keeps.effects keeps
  keeps_changed a _ _ fits right valid keeps = keeps

  keeps_restarted : (a : AttemptOf O) (phase : Phase Lock ℕ) → Keeps a → Keeps (restarted_in O phase a)
  keeps_restarted a (Seizes lock expected) keeps = keeps_in (forgotten a) (Withdraws lock) (keeps_put_off a keeps)
  keeps_restarted a (Withdraws lock) keeps = keeps
  keeps_restarted a GivesBack keeps = keeps
  keeps_restarted a (Operates turn) keeps = keeps
  keeps_restarted a phase keeps = keeps_given_up a keeps

  -- its job stays
  job_freed : (a : AttemptOf O) (held : List Lock) → (giving_back O a held).job ≡ a.job
  job_freed a [] = refl
  job_freed a (lock ∷ held) = refl

  job_restarted : (a : AttemptOf O) (phase : Phase Lock ℕ) → (restarted_in O phase a).job ≡ a.job
  job_restarted a (Requests lock) = job_freed (forgotten a) a.held
  job_restarted a (Tests word) = job_freed (forgotten a) a.held
  job_restarted a Turns = job_freed (forgotten a) a.held
  job_restarted a phase = refl

  abbrev Placed : AttemptOf O → Type 0
  Placed a = IsValidInBounds O most_readings most_held a

  keeps_of : (a : AttemptOf O) → Placed a → Keeps a
  keeps_of a p = record { held = p.held; read = p.read; effects = p.effects }

  pub place_begin : (job : Job) → O.IsJob job → Placed (begin O job)
  place_begin job right =
      let keeps = keeps_begin job in
      record { job = right; comes = stands_begin O is job right; room = room_begin job right; held = keeps.held; read = keeps.read; effects = keeps.effects }

  pub place_change : (a : AttemptOf O) (answer : Answer) → FitsValue answer → Placed a → Placed (change O a answer)
  place_change a answer fits p =
      let keeps = keeps_changed a a.phase answer fits p.job p.comes (keeps_of a p) in
      record {
        job = job_stays O a answer p.job;
        comes = stands_change O is a answer p.job (read_still a.phase a.readings p.read) p.comes;
        room = room_changed a a.phase answer fits p.job p.read refl p.room p.comes p.room;
        held = keeps.held;
        read = keeps.read;
        effects = keeps.effects;
      }

  pub place_restarted : (a : AttemptOf O) → Placed a → Placed (restarted O a)
  place_restarted a p =
      let keeps = keeps_restarted a a.phase (keeps_of a p) in
      record {
        job = subst O.IsJob (sym (job_restarted a a.phase)) p.job;
        comes = stands_restarted O is a p.job (read_still a.phase a.readings p.read) p.comes;
        room = room_restarted a a.phase p.job p.room;
        held = keeps.held;
        read = keeps.read;
        effects = keeps.effects;
      }

  -- its next step is made on one of the words
  free_there : (held : List Lock) → Locks held → place O (free_act held) < O.size
  free_there [] locks = is.words.turn_there
  free_there (lock ∷ held) locks = is.words.lock_word_there lock (locks lock (inl refl))

  closing_there : (effects : List Effect) (held : List Lock) → There effects → Locks held → place O (closing_act effects held) < O.size
  closing_there [] held there locks = free_there held locks
  closing_there (effect ∷ effects) held there locks = there effect (inl refl)

  place_in : (a : AttemptOf O) (phase : Phase Lock ℕ) → O.IsJob a.job → Keeps a → IsValidIn O a phase → place O (act_in phase a) < O.size
  place_in a (Requests lock) right keeps valid = is.words.lock_word_there lock (wanted_lock O is a lock right keeps.read valid)
  place_in a (Seizes lock expected) right keeps valid = is.words.lock_word_there lock (wanted_lock O is a lock right keeps.read valid)
  place_in a (Tests word) right keeps valid = under_there a.held word (subst (WalkFits O (DecidesUnder O) a.held) valid (come_fits O is a right keeps.read))
  place_in a Turns right keeps valid = is.words.turn_there
  place_in a (Withdraws lock) right keeps valid = is.words.lock_word_there lock valid
  place_in a GivesBack right keeps valid = free_there a.held keeps.held
  place_in a (Operates turn) right keeps turned = closing_there a.effects a.held keeps.effects keeps.held

  pub place_there : (a : AttemptOf O) → Placed a → place O (act a) < O.size
  place_there a p = place_in a a.phase p.job (keeps_of a p) p.comes

  -- in its phase, an attempt has room for what the phase says that it needs
  pub fits_seize : (a : AttemptOf O) (lock : Lock) (expected : ℕ) → a.phase ≡ Seizes lock expected → Placed a → length a.held < most_held
  fits_seize a lock expected e p =
      (room_seized a lock p.read (subst (λ (phase : Phase Lock ℕ). IsValidIn O a phase) e p.comes)
      (subst (λ (phase : Phase Lock ℕ). RoomIn a phase) e p.room)).fits

  pub fits_request : (a : AttemptOf O) (lock : Lock) → a.phase ≡ Requests lock → Placed a → length a.held < most_held
  fits_request a lock e p =
      (room_seized a lock p.read (subst (λ (phase : Phase Lock ℕ). IsValidIn O a phase) e p.comes)
      (subst (λ (phase : Phase Lock ℕ). RoomIn a phase) e p.room)).fits

  pub fits_test : (a : AttemptOf O) (word : ℕ) → a.phase ≡ Tests word → Placed a → length a.readings < most_readings
  fits_test a word e p =
      (room_read a (record { word = word; value = 0 }) p.read (omega arith) (subst (λ (phase : Phase Lock ℕ). IsValidIn O a phase) e p.comes)
      (subst (λ (phase : Phase Lock ℕ). RoomIn a phase) e p.room)).fits
