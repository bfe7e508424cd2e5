use Rattle.std.proofs.Common.{◌≡◌, ℕ, ◌<◌, ◌^◌, List, [], ◌∷◌, slice_index, length, refl, sym, ap, ◌∙◌, subst, Result, Ok, Err, Some, None, true, slice_get}
use Rattle.turns.specs.{Among.{IsIn, AreDistinct}, Sharing.ShowsRequests, System.{System, IsSystem, IsUnder, AreUnder, DecidesUnder, AreWords, FitWords}}
use Rattle.turns.specs.{Seen.AreReadWords, Attempt.{AttemptOf, IsValid, effects_left_in, request_in, walk_result, goes_on, walks_on, begin, giving_back}}
use Rattle.turns.specs.{Attempt.denied, World.{World, RecordOf, after}, Law.{holder_at, FitsIn, IsHeld, IsRead, IsRecorded, IsSound, WasDecided}}
use Rattle.turns.specs.declared.{judgement.Judgement.{Judgement, TheVariants.{Free, Held, Preferred}}, phase.Phase.Phase}
use Rattle.turns.specs.declared.{phase.Phase.TheVariants.{Requests, Seizes, Tests, Turns, Withdraws, GivesBack, Operates}, reading.Reading.Reading}
use Rattle.turns.specs.declared.wanted.Wanted.{Wanted, TheVariants.{Seize, Test}}
use Rattle.turns.proofs.{Completed.due_along, Keeping.{WalkFits, under_more}, Orders.take_before, Standing.{come_fits, stands_begin}}

module _ (O : System) where
  open O use {Lock, Job, Effect, Decision, IsLock, IsJob, sharing}

  -- a world follows another for an actor that holds some locks: they are held by the same, what is
  -- under them is the same, and the order goes on
  pub record Follows (w v : World O) (held : List Lock) : Type 0 where
    pub this : length w.words ≡ O.size
    pub that : length v.words ≡ O.size
    pub holders : (lock : Lock) → IsLock lock → IsIn lock held → holder_at O v.words lock ≡ holder_at O w.words lock
    pub under : (n : ℕ) → IsUnder O held n → slice_index v.words n ≡ slice_index w.words n
    pub order : (i : ℕ) (r : RecordOf O) → slice_get w.order i ≡ Some r → slice_get v.order i ≡ Some r

  -- what actor k has: a job, and locks whose words name it, none of them twice
  pub record Has (words : List ℕ) (k : ℕ) (given : Job) (locks : List Lock) : Type 0 where
    pub job : IsJob given
    pub held : (lock : Lock) → IsIn lock locks → IsHeld O words k lock
    pub distinct : AreDistinct locks

  pub has_sound : (w : World O) (k number : ℕ) (a : AttemptOf O) → IsSound O w k number a → Has w.words k a.job a.held
  has_sound w k number a sound = record { job = sound.job; held = sound.held; distinct = sound.distinct }

  -- a turn that is recorded in the order is recorded in an order that goes on
  abbrev recorded_along : (order other : List (RecordOf O)) (k number turn : ℕ) (a : AttemptOf O)
      → ((i : ℕ) (r : RecordOf O) → slice_get order i ≡ Some r → slice_get other i ≡ Some r) → IsRecorded O order k number turn a
      → IsRecorded O other k number turn a
  recorded_along order other k number turn a on known = record {
    place = known.place;
    recorded = known.recorded;
    at_place = on known.place known.recorded known.at_place;
    turn_is = known.turn_is;
    actor = known.actor;
    number_is = known.number_is;
    job = known.job;
    reply = known.reply;
  }

  -- and it was decided on the same state there
  decided_along : (now then : List ℕ) (order other : List (RecordOf O)) (place : ℕ) (r : RecordOf O) (a : AttemptOf O)
      → ((n : ℕ) → IsUnder O a.held n → slice_index then n ≡ slice_index now n)
      → ((i : ℕ) (x : RecordOf O) → slice_get order i ≡ Some x → slice_get other i ≡ Some x) → slice_get order place ≡ Some r → WasDecided O now order place a
      → WasDecided O then other place a
  decided_along now then order other place r a same on valid decided = record {
    words = decided.words;
    size = decided.size;
    are_words = decided.are_words;
    shows =
        subst (λ (before : List (RecordOf O)). O.Shows decided.words (after O O.opening before)) (sym (take_before order other place r on valid)) decided.shows;
    made = decided.made;
    effects = decided.effects;
    under = decided.under;
    since = λ n over. same n over ∙ decided.since n over;
  }

  fits_along : (system : IsSystem O) (w v : World O) (k number : ℕ) (a : AttemptOf O) → Follows w v a.held → (p : Phase Lock ℕ) → FitsIn O w k number a p
      → FitsIn O v k number a p
  fits_along system w v k number a along (Requests lock) fits = fits
  fits_along system w v k number a along (Seizes lock expected) fits = fits
  fits_along system w v k number a along (Tests word) fits = fits
  fits_along system w v k number a along Turns fits = fits
  fits_along system w v k number a along (Withdraws lock) fits = fits
  fits_along system w v k number a along GivesBack fits = fits
  fits_along system w v k number a along (Operates turn) fits = record {
    under = fits.under;
    fit = fits.fit;
    due = due_along O system a.held w.words v.words a.effects along.this along.that fits.under along.under fits.due;
    recorded = recorded_along w.order v.order k number turn a along.order fits.recorded;
    decided =
        decided_along w.words v.words w.order v.order fits.recorded.place fits.recorded.recorded a along.under along.order fits.recorded.at_place fits.decided;
  }

  -- an attempt is sound in a world that follows for what it holds
  pub sound_along : (system : IsSystem O) (w v : World O) (k number : ℕ) (a : AttemptOf O) → Follows w v a.held → IsSound O w k number a
      → IsSound O v k number a
  sound_along system w v k number a along sound = record {
    job = sound.job;
    held = λ lock within. let h = sound.held lock within in record { there = h.there; names = along.holders lock h.there within ∙ h.names };
    distinct = sound.distinct;
    read = λ r within. let h = sound.read r within in record { value = along.under r.word h.under ∙ h.value; under = h.under };
    valid = sound.valid;
    fits = fits_along system w v k number a along a.phase sound.fits;
  }

  -- the effects that are left are under what is held
  fits_under : (w : World O) (k number : ℕ) (a : AttemptOf O) (p : Phase Lock ℕ) → FitsIn O w k number a p → AreUnder O a.held (effects_left_in p a.effects)
  fits_under w k number a (Requests lock) fits = λ effect none. absurd none
  fits_under w k number a (Seizes lock expected) fits = λ effect none. absurd none
  fits_under w k number a (Tests word) fits = λ effect none. absurd none
  fits_under w k number a Turns fits = λ effect none. absurd none
  fits_under w k number a (Withdraws lock) fits = λ effect none. absurd none
  fits_under w k number a GivesBack fits = λ effect none. absurd none
  fits_under w k number a (Operates turn) fits = fits.under

  pub left_under : (w : World O) (k number : ℕ) (a : AttemptOf O) → IsSound O w k number a → AreUnder O a.held (effects_left_in a.phase a.effects)
  left_under w k number a sound = fits_under w k number a a.phase sound.fits

  -- and they fit their words
  fits_fit : (w : World O) (k number : ℕ) (a : AttemptOf O) (p : Phase Lock ℕ) → FitsIn O w k number a p → FitWords O (effects_left_in p a.effects)
  fits_fit w k number a (Requests lock) fits = λ effect none. absurd none
  fits_fit w k number a (Seizes lock expected) fits = λ effect none. absurd none
  fits_fit w k number a (Tests word) fits = λ effect none. absurd none
  fits_fit w k number a Turns fits = λ effect none. absurd none
  fits_fit w k number a (Withdraws lock) fits = λ effect none. absurd none
  fits_fit w k number a GivesBack fits = λ effect none. absurd none
  fits_fit w k number a (Operates turn) fits = fits.fit

  pub left_fit : (w : World O) (k number : ℕ) (a : AttemptOf O) → IsSound O w k number a → FitWords O (effects_left_in a.phase a.effects)
  left_fit w k number a sound = fits_fit w k number a a.phase sound.fits

  -- what was read in words fits them
  pub are_read : (words : List ℕ) (held : List Lock) (readings : List (Reading ℕ)) → AreWords words
      → ((r : Reading ℕ) → IsIn r readings → IsRead O words held r) → AreReadWords readings
  are_read words held readings are read r within = subst (λ (v : ℕ). v < 2 ^ 64) (read r within).value (are r.word)

  -- a word is under the locks of one actor only
  pub one_actor : (system : IsSystem O) (w : World O) (j k n i l : ℕ) (a b : AttemptOf O) → IsSound O w j i a → IsSound O w k l b → IsUnder O a.held n
      → IsUnder O b.held n → j ≡ k
  one_actor system w j k n i l a b this that under over =
      let e : under.lock ≡ over.lock = system.words.one_protector n under.lock over.lock under.protects over.protects in
      let x = (this.held under.lock under.held).names in
      let y = (that.held over.lock over.held).names in
      let z : holder_at O w.words under.lock ≡ holder_at O w.words over.lock = ap (holder_at O w.words) e in
      cc

  -- after a walk the same locks are held, no effects are to be made yet, and no request is pending
  goes_held : (a : AttemptOf O) (result : Result Decision (Wanted Lock ℕ)) → (goes_on O a result).held ≡ a.held
  goes_held a (Ok decision) = refl
  goes_held a (Err (Seize lock)) = refl
  goes_held a (Err (Test word)) = refl

  goes_left : (a : AttemptOf O) (result : Result Decision (Wanted Lock ℕ)) → effects_left_in (goes_on O a result).phase (goes_on O a result).effects ≡ []
  goes_left a (Ok decision) = refl
  goes_left a (Err (Seize lock)) = refl
  goes_left a (Err (Test word)) = refl

  goes_request : (a : AttemptOf O) (result : Result Decision (Wanted Lock ℕ)) → request_in (goes_on O a result).phase ≡ None
  goes_request a (Ok decision) = refl
  goes_request a (Err (Seize lock)) = refl
  goes_request a (Err (Test word)) = refl

  pub walks_held : (a : AttemptOf O) → (walks_on O a).held ≡ a.held
  walks_held a = goes_held a (walk_result O a)

  pub walks_left : (a : AttemptOf O) → effects_left_in (walks_on O a).phase (walks_on O a).effects ≡ []
  walks_left a = goes_left a (walk_result O a)

  pub walks_request : (a : AttemptOf O) → request_in (walks_on O a).phase ≡ None
  walks_request a = goes_request a (walk_result O a)

  -- and so does giving back
  pub freed_held : (a : AttemptOf O) (locks : List Lock) → (giving_back O a locks).held ≡ locks
  freed_held a [] = refl
  freed_held a (lock ∷ locks) = refl

  pub freed_left : (a : AttemptOf O) (locks : List Lock) → effects_left_in (giving_back O a locks).phase (giving_back O a locks).effects ≡ []
  freed_left a [] = refl
  freed_left a (lock ∷ locks) = refl

  pub freed_request : (a : AttemptOf O) (locks : List Lock) → request_in (giving_back O a locks).phase ≡ None
  freed_request a [] = refl
  freed_request a (lock ∷ locks) = refl

  -- an actor whose request is pending may seize the lock by the word as it is, or is denied it
  abbrev pub on_judgement : AttemptOf O → Lock → ℕ → Judgement → AttemptOf O
  on_judgement a lock word Free = record a { phase = Seizes lock word }
  on_judgement a lock word (Held other) = denied a lock
  on_judgement a lock word (Preferred other) = denied a lock

  pub judged_held : (a : AttemptOf O) (lock : Lock) (word : ℕ) (j : Judgement) → (on_judgement a lock word j).held ≡ a.held
  judged_held a lock word Free = refl
  judged_held a lock word (Held other) = refl
  judged_held a lock word (Preferred other) = refl

  pub judged_left : (a : AttemptOf O) (lock : Lock) (word : ℕ) (j : Judgement)
      → effects_left_in (on_judgement a lock word j).phase (on_judgement a lock word j).effects ≡ []
  judged_left a lock word Free = refl
  judged_left a lock word (Held other) = refl
  judged_left a lock word (Preferred other) = refl

  pub judged_request : (a : AttemptOf O) (lock : Lock) (word : ℕ) (j : Judgement) → request_in (on_judgement a lock word j).phase ≡ Some lock
  judged_request a lock word Free = refl
  judged_request a lock word (Held other) = refl
  judged_request a lock word (Preferred other) = refl

  abbrev AreRead : List ℕ → AttemptOf O → Type 0
  AreRead words a = (r : Reading ℕ) → IsIn r a.readings → IsRead O words a.held r

  -- an attempt that is denied is sound
  pub put_off_sound : (w : World O) (k number : ℕ) (a : AttemptOf O) (lock : Lock) → Has w.words k a.job a.held → IsLock lock
      → IsSound O w k number (denied a lock)
  put_off_sound w k number a lock has is =
      record { job = has.job; held = has.held; distinct = has.distinct; read = λ r none. absurd none; valid = is; fits = tt }

  pub judged_sound : (w : World O) (k number : ℕ) (a : AttemptOf O) (lock : Lock) (word : ℕ) (j : Judgement) → Has w.words k a.job a.held → AreRead w.words a
      → walk_result O a ≡ Err (Seize lock) → IsLock lock → sharing.IsWord word → (ShowsRequests sharing → sharing.requests k word ≡ true)
      → sharing.judged k word ≡ j → IsSound O w k number (on_judgement a lock word j)
  judged_sound w k number a lock word Free has read wants is word_is asked e = record {
    job = has.job;
    held = has.held;
    distinct = has.distinct;
    read = read;
    valid = wants;
    fits = (is, record { is_word = word_is; requested = asked; free = e });
  }
  judged_sound w k number a lock word (Held other) has read wants is word_is asked e = put_off_sound w k number a lock has is
  judged_sound w k number a lock word (Preferred other) has read wants is word_is asked e = put_off_sound w k number a lock has is

  module _ (system : IsSystem O) where
    goes_sound : (w : World O) (k number : ℕ) (a : AttemptOf O) (result : Result Decision (Wanted Lock ℕ)) → Has w.words k a.job a.held → AreRead w.words a
        → walk_result O a ≡ result → WalkFits O (DecidesUnder O) a.held result → IsSound O w k number (goes_on O a result)
    goes_sound w k number a (Ok decision) has read e fits = record {
      job = has.job;
      held = has.held;
      distinct = has.distinct;
      read = read;
      valid = record { decision = decision; come = e; reply = refl; effects = refl };
      fits = record {
        under = λ effect within. under_more O fits.some a.held (O.effect_word effect) fits.among (fits.fits.under effect within);
        fit = fits.fits.fit;
      };
    }
    goes_sound w k number a (Err (Seize lock)) has read e fits =
        record { job = has.job; held = has.held; distinct = has.distinct; read = read; valid = e; fits = fits }
    goes_sound w k number a (Err (Test word)) has read e fits =
        record { job = has.job; held = has.held; distinct = has.distinct; read = read; valid = e; fits = fits }

    -- a walk brings an attempt to where it is sound
    pub walks_sound : (w : World O) (k number : ℕ) (a : AttemptOf O) → AreWords w.words → Has w.words k a.job a.held → AreRead w.words a
        → IsSound O w k number (walks_on O a)
    walks_sound w k number a are has read =
        goes_sound w k number a (walk_result O a) has read refl (come_fits O system a has.job (are_read w.words a.held a.readings are read))

    pub begin_sound : (w : World O) (k number : ℕ) (job : Job) → IsJob job → IsSound O w k number (begin O job)
    begin_sound w k number job given =
        let valid : IsValid O (begin O job) = stands_begin O system job given in
        record {
          job = given;
          held = λ lock none. absurd none;
          distinct = tt;
          read = λ r none. absurd none;
          valid = valid;
          fits = subst (WalkFits O (DecidesUnder O) []) valid (come_fits O system (begin O job) given (λ r none. absurd none));
        }

    pub freed_sound : (w : World O) (k number : ℕ) (a : AttemptOf O) (locks : List Lock) → Has w.words k a.job locks
        → IsSound O w k number (giving_back O a locks)
    freed_sound w k number a [] has = begin_sound w k number a.job has.job
    freed_sound w k number a (lock ∷ locks) has =
        record { job = has.job; held = has.held; distinct = has.distinct; read = λ r none. absurd none; valid = λ e. cc; fits = tt }
