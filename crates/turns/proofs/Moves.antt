use Rattle.std.proofs.Common.{◌≡◌, ◌≢◌, ℕ, ◌<◌, Bool, true, false, List, [], ◌∷◌, ◌++◌, slice_index, slice_set, sym, refl, ap, inl, inr, ◌∙◌, subst, append-nil}
use Rattle.std.proofs.Common.{Option, Some, None, ◌==◌, if◌then◌else◌, eqb-true}
use mathlib.Core.Option.{some}
use lib.ListN.{get_elem?}
use Rattle.turns.specs.{Among.IsIn, Sharing.{IsTrueOf, ShowsRequests, with_request, without_holder as freed_word, without_request}, System.{System, IsSystem}}
use Rattle.turns.specs.Attempt.{AttemptOf, IsValid, change, changed, giving_back, forgotten, effects_left_in, denied, denied_request, request_in, restarted}
use Rattle.turns.specs.{Attempt.{unless_denied, walks_on}, World.{World, ActorOf, RecordOf, Does, effects_left_of, moved}}
use Rattle.turns.specs.{Law.{HasRequested, IsRead, IsSound, Lawful, word_at}, declared.answer.Answer.{Answer, TheVariants.{Asked, Seized, Again, Done}}}
use Rattle.turns.specs.declared.{judgement.Judgement.{Judgement, TheVariants.{Free, Held, Preferred}}, phase.Phase.Phase}
use Rattle.turns.specs.declared.{phase.Phase.TheVariants.{Requests, Seizes, Tests, Turns, Withdraws, GivesBack, Operates}, reading.Reading.Reading}
use Rattle.turns.proofs.{Lists.{in_more, index_other, set_idle}, Keeping.under_more, Locking.no_lock_word, Standing.stands_change}
use Rattle.turns.proofs.Sound.{Has, freed_held, freed_left, freed_request, freed_sound, has_sound, judged_held, judged_left, judged_request, judged_sound}
use Rattle.turns.proofs.{Sound.{on_judgement, put_off_sound, walks_held, walks_left, walks_request, walks_sound}, Settings.renewed, Quiet.{few_actors, still}}
use Rattle.turns.proofs.{LockMoves.{added_others, cleared_others, cleared_own, frees, none_some, rest_has, stays, takes}, Effects.makes, Turning.turns}

-- an attempt in a phase
abbrev pub attempt : (O : System) → Phase O.Lock ℕ → O.Job → List (Reading ℕ) → List O.Lock → Option O.Reply → List O.Effect → AttemptOf O
attempt O phase job readings held reply effects = record { job = job; readings = readings; held = held; phase = phase; reply = reply; effects = effects }

module _ (O : System) where
  open O use {Lock, sharing}

  -- an answer to a request that is a step of its own, and to the seizing of a lock whose word was
  -- another
  denied_on : (a : AttemptOf O) (lock : Lock) → sharing.asks ≡ true → denied a lock ≡ denied_request O a lock
  denied_on a lock asks = ap (λ (b : Bool). if b then denied a lock else giving_back O (forgotten a) a.held) (sym asks)

  asked_on : (a : AttemptOf O) (lock : Lock) (word : ℕ) (j : Judgement) → sharing.asks ≡ true
      → on_judgement O a lock word j ≡ changed O a (Requests lock) (unless_denied (Asked word) j)
  asked_on a lock word Free asks = refl
  asked_on a lock word (Held other) asks = denied_on a lock asks
  asked_on a lock word (Preferred other) asks = denied_on a lock asks

  again_on : (a : AttemptOf O) (lock : Lock) (expected word : ℕ) (j : Judgement)
      → on_judgement O a lock word j ≡ changed O a (Seizes lock expected) (unless_denied (Again word) j)
  again_on a lock expected word Free = refl
  again_on a lock expected word (Held other) = refl
  again_on a lock expected word (Preferred other) = refl

module _ (O : System) (system : IsSystem O) (w : World O) (law : Lawful O w) (k number : ℕ) where
  open O use {Lock, Job, Reply, Effect, IsLock, lock_word, sharing}

  -- no record is added
  same_order : (words : List ℕ) (actors : List (ActorOf O)) → Lawful O (record { words = words; actors = actors; order = w.order })
      → Lawful O (record { words = words; actors = actors; order = w.order ++ [] })
  same_order words actors h =
      subst (λ (order : List (RecordOf O)). Lawful O (record { words = words; actors = actors; order = order })) (sym (append-nil w.order)) h

  -- a word is set to what it was
  idle_word : (n : ℕ) (new : AttemptOf O) → Lawful O (renewed O w w.words w.order k number new)
      → Lawful O (renewed O w (slice_set w.words n (slice_index w.words n)) w.order k number new)
  idle_word n new h = subst (λ (words : List ℕ). Lawful O (renewed O w words w.order k number new)) (sym (set_idle w.words n)) h

  module _ (a : AttemptOf O) (there : get_elem? w.actors k ≡ some (Does number a)) where
    sound : IsSound O w k number a
    sound = law.sound k number a there

    has : Has O w.words k a.job a.held
    has = has_sound O w k number a sound

    -- the words stay, and so does what is held and requested
    pub rests : (new : AttemptOf O) → effects_left_of O (Does number new) ≡ effects_left_of O (Does number a) → new.held ≡ a.held
        → request_in new.phase ≡ request_in a.phase → IsSound O w k number new → Lawful O (renewed O w w.words w.order k number new)
    rests new left held asks s =
        still O system w law k (Does number a) there number new left s (λ lock within. subst (λ (l : List Lock). IsIn lock l) (sym held) within)
        (λ lock. ((λ e. asks ∙ e), (λ e. sym asks ∙ e)))

    -- it frees the first lock that it holds
    frees_first : (c : Lock) (rest : List Lock) → a.held ≡ c ∷ rest → (new : AttemptOf O)
        → effects_left_of O (Does number new) ≡ effects_left_of O (Does number a) → request_in a.phase ≡ None → request_in new.phase ≡ None → new.held ≡ rest →
        (Has O (slice_set w.words (lock_word c) (freed_word sharing (word_at O w.words c))) k a.job rest
        → IsSound O (renewed O w (slice_set w.words (lock_word c) (freed_word sharing (word_at O w.words c))) w.order k number new) k number new) →
        Lawful O (renewed O w (slice_set w.words (lock_word c) (freed_word sharing (word_at O w.words c))) w.order k number new)
    frees_first c rest first new left before next held s =
        let is = (sound.held c (subst (λ (l : List Lock). IsIn c l) (sym first) (inl refl))).there in
        let found = word_at O w.words c in
        let v = freed_word sharing found in
        let word = (law.shared c is).is_word in
        frees O system w law k number a there c is v new rest first (system.sharing.freed_is found word) (system.sharing.freed_holder found word)
        (system.sharing.freed_requests found word) (λ shows. shows.freed_others found word) before next left held
        (s (rest_has O system w law k number a there c is v new rest first))

  module _ (job : Job) (readings : List (Reading ℕ)) (held : List Lock) (reply : Option Reply) (effects : List Effect) where
    -- it requests a lock
    module _ (lock : Lock) (there : get_elem? w.actors k ≡ some (Does number (attempt O (Requests lock) job readings held reply effects))) where
      abbrev asking : AttemptOf O
      asking = attempt O (Requests lock) job readings held reply effects

      abbrev word : ℕ
      word = word_at O w.words lock

      abbrev left_word : ℕ
      left_word = with_request sharing k word

      -- the world once the lock's word is this one and the attempt has changed by this answer
      abbrev answered : ℕ → Answer → World O
      answered v answer = renewed O w (slice_set w.words (lock_word lock) v) w.order k number (changed O asking (Requests lock) answer)

      s : IsSound O w k number asking
      s = law.sound k number asking there

      few : k < sharing.most
      few = few_actors O w law k (Does number asking) there

      is_word : sharing.IsWord word
      is_word = (law.shared lock s.fits).is_word

      -- by a step of its own
      asks_first : sharing.asks ≡ true → Lawful O (answered left_word (unless_denied (Asked left_word) (sharing.judged k left_word)))
      asks_first asks =
          let v = left_word in
          let j = sharing.judged k v in
          let now_word = system.sharing.asked_is k word asks few is_word in
          let valid : ShowsRequests sharing → sharing.requests k v ≡ true = λ shows. shows.asked_own k word few is_word in
          subst (λ (new : AttemptOf O). Lawful O (renewed O w (slice_set w.words (lock_word lock) v) w.order k number new)) (asked_on O asking lock v j asks)
          (stays O system w law k number asking there lock s.fits v (on_judgement O asking lock v j)
          (system.sharing.asked_holder k word asks few is_word) (judged_held O asking lock v j) (judged_left O asking lock v j)
          (λ now. judged_sound O _ k number asking lock v j (has_sound O _ k number asking now) now.read s.valid s.fits now_word valid refl)
          now_word (record { made = λ e. judged_request O asking lock v j; shown = λ shows e. valid shows })
          (added_others O k word v (system.sharing.asked_requests k word asks few is_word) (λ shows. shows.asked_others k word few is_word))
          (λ other e. absurd cc) (λ other e. let x : Some lock ≡ Some other = sym (judged_request O asking lock v j) ∙ e in cc))

      -- by one that seizes the lock at once if it may, and is denied it otherwise
      denied_at_once : sharing.asks ≡ false → sharing.judged k word ≢ Free
          → Lawful O (renewed O w (slice_set w.words (lock_word lock) left_word) w.order k number (denied_request O asking lock))
      denied_at_once once denied_so =
          let given = giving_back O (forgotten asking) held in
          subst (λ (v : ℕ). Lawful O (renewed O w (slice_set w.words (lock_word lock) v) w.order k number (denied_request O asking lock)))
          (sym (system.sharing.left_at_once k word once few is_word denied_so))
          (idle_word (lock_word lock) (denied_request O asking lock)
          (subst (λ (b : Bool). Lawful O (renewed O w w.words w.order k number (if b then denied asking lock else given))) (sym once)
          (rests asking there given (freed_left O (forgotten asking) held) (freed_held O (forgotten asking) held) (freed_request O (forgotten asking) held)
          (freed_sound O system w k number (forgotten asking) held (has asking there)))))

      seizes_at_once : sharing.asks ≡ false → (j : Judgement) → sharing.judged k word ≡ j → Lawful O (answered left_word (unless_denied Seized j))
      seizes_at_once once Free free =
          let bare : sharing.holder word ≡ 0 = subst (IsTrueOf sharing k word) free (system.sharing.judged_true k word few is_word) in
          subst (λ (v : ℕ). Lawful O (answered v Seized)) (sym (system.sharing.seized_at_once k word once few is_word free))
          (takes O system w law k number asking there lock s.fits (sharing.taken k word) bare (system.sharing.taken_is k word few is_word bare)
          (system.sharing.taken_holder k word few is_word bare) (system.sharing.taken_requests k word few is_word bare)
          (λ shows. shows.taken_others k word few is_word bare) s.read refl (λ other same. absurd cc))
      seizes_at_once once (Held other) judged = denied_at_once once (λ free. let x : Free ≡ Held other = sym free ∙ judged in cc)
      seizes_at_once once (Preferred other) judged = denied_at_once once (λ free. let x : Free ≡ Preferred other = sym free ∙ judged in cc)

      requests_by : (asks : Bool) → sharing.asks ≡ asks
          → Lawful O (answered left_word (if asks then unless_denied (Asked left_word) (sharing.judged k left_word) else unless_denied Seized
          (sharing.judged k word)))
      requests_by true e = asks_first e
      requests_by false e = seizes_at_once e (sharing.judged k word) refl

      requests_in : Lawful O (moved O k number asking w)
      requests_in = same_order _ _ (requests_by sharing.asks refl)

    -- it withdraws its request
    withdraws_in : (lock : Lock) → get_elem? w.actors k ≡ some (Does number (attempt O (Withdraws lock) job readings held reply effects))
        → Lawful O (moved O k number (attempt O (Withdraws lock) job readings held reply effects) w)
    withdraws_in lock there =
        let a = attempt O (Withdraws lock) job readings held reply effects in
        let s = law.sound k number a there in
        let found = word_at O w.words lock in
        let few = few_actors O w law k (Does number a) there in
        let word = (law.shared lock s.valid).is_word in
        let v = without_request sharing k found in
        let cleared = system.sharing.withdrawn_requests k found few word in
        same_order _ _ (stays O system w law k number a there lock s.valid v (giving_back O a held)
        (system.sharing.withdrawn_holder k found few word) (freed_held O a held) (freed_left O a held)
        (λ now. freed_sound O system _ k number a held (has_sound O _ k number a now))
        (system.sharing.withdrawn_is k found few word)
        (cleared_own O k found v lock (request_in (giving_back O a held).phase) few cleared (freed_request O a held))
        (cleared_others O k found v cleared (λ shows. shows.withdrawn_others k found few word))
        (λ other e. cc) (λ other e. absurd (none_some (request_in (giving_back O a held).phase) other (freed_request O a held) e)))

    -- it seizes a lock whose word is as expected, or finds another word
    seizes_in : (lock : Lock) (expected : ℕ) → get_elem? w.actors k ≡ some (Does number (attempt O (Seizes lock expected) job readings held reply effects))
        → (t : Bool) → (word_at O w.words lock == expected) ≡ t →
        Lawful O (renewed O w (slice_set w.words (lock_word lock) (if t then sharing.taken k expected else word_at O w.words lock)) w.order k number
        (change O (attempt O (Seizes lock expected) job readings held reply effects)
        (if t then Seized else unless_denied (Again (word_at O w.words lock)) (sharing.judged k (word_at O w.words lock)))))
    seizes_in lock expected there true e =
        let a = attempt O (Seizes lock expected) job readings held reply effects in
        let s = law.sound k number a there in
        let found = word_at O w.words lock in
        let few = few_actors O w law k (Does number a) there in
        let word = (law.shared lock s.fits.0).is_word in
        let judged : sharing.judged k found ≡ Free = ap (sharing.judged k) (eqb-true found expected e) ∙ s.fits.1.free in
        let free : sharing.holder found ≡ 0 = subst (IsTrueOf sharing k found) judged (system.sharing.judged_true k found few word) in
        let is : found ≡ expected = eqb-true found expected e in
        subst (λ (x : ℕ). Lawful O (renewed O w (slice_set w.words (lock_word lock) (sharing.taken k x)) w.order k number
        (walks_on O (record a { held = held ++ lock ∷ [] })))) is
        (takes O system w law k number a there lock s.fits.0 (sharing.taken k found) free (system.sharing.taken_is k found few word free)
        (system.sharing.taken_holder k found few word free) (system.sharing.taken_requests k found few word free)
        (λ shows. shows.taken_others k found few word free) s.read refl (λ other same. cc))
    seizes_in lock expected there false e =
        let a = attempt O (Seizes lock expected) job readings held reply effects in
        let s = law.sound k number a there in
        let found = word_at O w.words lock in
        let j = sharing.judged k found in
        let few = few_actors O w law k (Does number a) there in
        let shared = law.shared lock s.fits.0 in
        let asks : HasRequested O w.actors k lock = record { number = number; attempt = a; does = there; requests = refl } in
        idle_word (lock_word lock) (change O a (unless_denied (Again found) j))
        (subst (λ (new : AttemptOf O). Lawful O (renewed O w w.words w.order k number new)) (again_on O a lock expected found j)
        (rests a there (on_judgement O a lock found j) (judged_left O a lock found j) (judged_held O a lock found j) (judged_request O a lock found j)
        (judged_sound O w k number a lock found j (has a there) s.read s.valid s.fits.0 shared.is_word (λ shows. (shared.requested k few).shown shows asks)
        refl)))

    -- it tests a word
    tests_in : (word : ℕ) → get_elem? w.actors k ≡ some (Does number (attempt O (Tests word) job readings held reply effects))
        → Lawful O (moved O k number (attempt O (Tests word) job readings held reply effects) w)
    tests_in word there =
        let a = attempt O (Tests word) job readings held reply effects in
        let s = law.sound k number a there in
        let found = slice_index w.words word in
        let r : Reading ℕ = record { word = word; value = found } in
        let new = record a { readings = readings ++ r ∷ [] } in
        let read : (x : Reading ℕ) → IsIn x (readings ++ r ∷ []) → IsRead O w.words held x =
        λ x within. elim (in_more x r readings within)
        [ inl front ↦ s.read x front | inr e ↦ subst (λ (y : Reading ℕ). IsRead O w.words held y) (sym e) (record { value = refl; under = s.fits }) ] in
        same_order _ _ (idle_word word (walks_on O new) (rests a there (walks_on O new) (walks_left O new) (walks_held O new) (walks_request O new)
        (walks_sound O system w k number new law.are_words (has a there) read)))

    -- it has nothing left to do
    ends_in : (turn : ℕ) → get_elem? w.actors k ≡ some (Does number (attempt O (Operates turn) job readings [] reply []))
        → Lawful O (moved O k number (attempt O (Operates turn) job readings [] reply []) w)
    ends_in turn there =
        let a = attempt O (Operates turn) job readings [] reply [] in
        same_order _ _ (idle_word O.turn_word a (rests a there a refl refl refl (law.sound k number a there)))

    -- it frees the first of what it holds, past its turn
    closes_in : (turn : ℕ) (c : Lock) (rest : List Lock)
        → get_elem? w.actors k ≡ some (Does number (attempt O (Operates turn) job readings (c ∷ rest) reply []))
        → Lawful O (moved O k number (attempt O (Operates turn) job readings (c ∷ rest) reply []) w)
    closes_in turn c rest there =
        let a = attempt O (Operates turn) job readings (c ∷ rest) reply [] in
        let s = law.sound k number a there in
        let known = s.fits.recorded in
        let decided = s.fits.decided in
        let valid : IsValid O (record a { held = rest }) = stands_change O system a Done s.job (λ r none. absurd none) s.valid in
        same_order _ _ (frees_first a there c rest refl (record a { held = rest }) refl refl refl refl (λ h. record {
          job = h.job;
          held = h.held;
          distinct = h.distinct;
          read = λ r none. absurd none;
          valid = valid;
          fits = record {
            under = λ effect none. absurd none;
            fit = λ effect none. absurd none;
            due = tt;
            recorded = record {
              place = known.place;
              recorded = known.recorded;
              at_place = known.at_place;
              turn_is = known.turn_is;
              actor = known.actor;
              number_is = known.number_is;
              job = known.job;
              reply = known.reply;
            };
            decided = record {
              words = decided.words;
              size = decided.size;
              are_words = decided.are_words;
              shows = decided.shows;
              made = decided.made;
              effects = decided.effects;
              under = λ effect none. absurd none;
              since =
                  λ n over. index_other w.words (lock_word c) n _ (no_lock_word O system n over.lock c (s.held c (inl refl)).there over.protects)
                  ∙ decided.since n (under_more O rest (c ∷ rest) n (λ lock within. inr within) over);
            };
          };
        }))

  -- it gives up, and gives back what it holds
  gives_up : (phase : Phase Lock ℕ) (job : Job) (readings : List (Reading ℕ)) (held : List Lock) (reply : Option Reply) (effects : List Effect)
      → get_elem? w.actors k ≡ some (Does number (attempt O phase job readings held reply effects)) → effects_left_in phase effects ≡ []
      → request_in phase ≡ None
      → Lawful O (renewed O w w.words w.order k number (giving_back O (forgotten (attempt O phase job readings held reply effects)) held))
  gives_up phase job readings held reply effects there left asks =
      let a = attempt O phase job readings held reply effects in
      rests a there (giving_back O (forgotten a) held) (freed_left O (forgotten a) held ∙ sym left) (freed_held O (forgotten a) held)
      (freed_request O (forgotten a) held ∙ sym asks) (freed_sound O system w k number (forgotten a) held (has a there))

  -- each step keeps the law, phase by phase
  pub keeps_in : (phase : Phase Lock ℕ) (job : Job) (readings : List (Reading ℕ)) (held : List Lock) (reply : Option Reply) (effects : List Effect)
      → get_elem? w.actors k ≡ some (Does number (attempt O phase job readings held reply effects))
      → Lawful O (moved O k number (attempt O phase job readings held reply effects) w)
  keeps_in (Requests lock) job readings held reply effects there = requests_in job readings held reply effects lock there
  keeps_in (Seizes lock expected) job readings held reply effects there =
      same_order _ _ (seizes_in job readings held reply effects lock expected there (word_at O w.words lock == expected) refl)
  keeps_in (Tests word) job readings held reply effects there = tests_in job readings held reply effects word there
  keeps_in Turns job readings held reply effects there = turns O system w law k number job readings held reply effects there
  keeps_in (Withdraws lock) job readings held reply effects there = withdraws_in job readings held reply effects lock there
  keeps_in GivesBack job readings [] reply effects there = absurd ((law.sound k number (attempt O GivesBack job readings [] reply effects) there).valid refl)
  keeps_in GivesBack job readings (c ∷ rest) reply effects there =
      let a = attempt O GivesBack job readings (c ∷ rest) reply effects in
      same_order _ _ (frees_first a there c rest refl (giving_back O a rest) (freed_left O a rest) refl (freed_request O a rest) (freed_held O a rest)
      (λ h. freed_sound O system _ k number a rest h))
  keeps_in (Operates turn) job readings held reply (effect ∷ effects) there =
      let a = attempt O (Operates turn) job readings held reply (effect ∷ effects) in
      let s = law.sound k number a there in
      same_order _ _ (makes O system w law k number job readings held turn reply effect effects there
      (stands_change O system a Done s.job (λ r none. absurd none) s.valid))
  keeps_in (Operates turn) job readings [] reply [] there = ends_in job readings [] reply [] turn there
  keeps_in (Operates turn) job readings (c ∷ rest) reply [] there = closes_in job readings [] reply [] turn c rest there

  -- so does giving back
  pub gives_back_in : (phase : Phase Lock ℕ) (job : Job) (readings : List (Reading ℕ)) (held : List Lock) (reply : Option Reply) (effects : List Effect)
      → get_elem? w.actors k ≡ some (Does number (attempt O phase job readings held reply effects))
      → Lawful O (renewed O w w.words w.order k number (restarted O (attempt O phase job readings held reply effects)))
  gives_back_in (Requests lock) job readings held reply effects there = gives_up (Requests lock) job readings held reply effects there refl refl
  gives_back_in (Seizes lock expected) job readings held reply effects there =
      let a = attempt O (Seizes lock expected) job readings held reply effects in
      rests a there (denied a lock) refl refl refl (put_off_sound O w k number a lock (has a there) (law.sound k number a there).fits.0)
  gives_back_in (Tests word) job readings held reply effects there = gives_up (Tests word) job readings held reply effects there refl refl
  gives_back_in Turns job readings held reply effects there = gives_up Turns job readings held reply effects there refl refl
  gives_back_in (Withdraws lock) job readings held reply effects there = let a = attempt O (Withdraws lock) job readings held reply effects in
      rests a there a refl refl refl (law.sound k number a there)
  gives_back_in GivesBack job readings held reply effects there = let a = attempt O GivesBack job readings held reply effects in
      rests a there a refl refl refl (law.sound k number a there)
  gives_back_in (Operates turn) job readings held reply effects there = let a = attempt O (Operates turn) job readings held reply effects in
      rests a there a refl refl refl (law.sound k number a there)
