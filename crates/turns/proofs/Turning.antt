use Rattle.std.proofs.Common.{◌≡◌, ◌≢◌, ℕ, ◌+◌, ◌<◌, ◌≤◌, ◌⊎◌, List, [], ◌∷◌, ◌++◌, length, set, slice_index, slice_set, sym, refl, ap, inl, inr, ◌∙◌, subst}
use Rattle.std.proofs.Common.{length-set, zero-add, Option, Some, None}
use Rattle.{std.proofs.Math.Seq.take-append_seam, turns.specs.{Among.IsIn, Clock.{turning, IsCount}, Operations.applied, Script.run, Seen.AreReadFrom}}
use Rattle.turns.specs.{System.{System, IsSystem, AreWords, IsUnder, AreUnder, MayMake, AreAlike, DecidesAs, perform_all, AreDue}, Attempt.AttemptOf}
use Rattle.turns.specs.{Attempt.{HasDecided, seen_of}, World.{World, RecordOf, Idle, Does, value_after, completed, completed_word, after, turn_record}}
use Rattle.turns.specs.{Law.{IsRecorded, IsSound, Lawful, WasDecided, holder_at, word_at}, declared.answer.Answer.TheVariants.{Turn as TurnNumber}}
use Rattle.turns.{specs.declared.{phase.Phase.TheVariants.Turns, reading.Reading.Reading}, proofs.{Lists.{set_here, index_same, index_other}, Walks.walk_run}}
use Rattle.turns.proofs.Completed.{Spares, touch_or_spare, perform_length, perform_index, completed_length, completed_index, due_along, only_one, same_done}
use Rattle.turns.proofs.{Orders.{length_more, get_last, get_before, after_more, legal_more}, TurnCounts.{count_more, turning_fits}, Standing.stands_change}
use Rattle.turns.proofs.{Words.{AllFit, applied_below, completed_below, set_below}, Sound.{are_read, left_fit, sound_along}}
use Rattle.turns.proofs.{Settings.{all_sound, renewed, shared_on}, Quiet.few_actors, Locking.no_turn, Effects.{others_spare, others_spare_then, operating}}
use mathlib.Core.Option.{some}
use lib.ListN.{get_elem?}

module _ (O : System) (system : IsSystem O) (w : World O) (law : Lawful O w) (k number : ℕ) where
  open O use {Lock, Job, Reply, State, Effect, IsLock, lock_word, effect_word, effects_of, reply_of, whole, Shows}

  -- an attempt at its turn
  abbrev pub deciding : Job → List (Reading ℕ) → List Lock → Option Reply → List Effect → AttemptOf O
  deciding job readings held reply effects = record { job = job; readings = readings; held = held; phase = Turns; reply = reply; effects = effects }

  module _ (job : Job) (readings : List (Reading ℕ)) (held : List Lock) (reply : Option Reply) (effects : List Effect)
      (there : get_elem? w.actors k ≡ some (Does number (deciding job readings held reply effects))) where
    abbrev old : AttemptOf O
    old = deciding job readings held reply effects

    abbrev found : ℕ
    found = slice_index w.words O.turn_word

    abbrev new : AttemptOf O
    new = operating O system w law k number job readings held found reply effects

    -- the number that it leaves in the turn word
    abbrev left : ℕ
    left = applied (turning O.clock) found

    abbrev words : List ℕ
    words = completed O w

    abbrev state : State
    state = after O O.opening w.order

    sound : IsSound O w k number old
    sound = law.sound k number old there

    decided : HasDecided O old
    decided = sound.valid

    may : MayMake O held effects
    may = sound.fits

    under : AreUnder O held effects
    under = may.under

    words_long : length words ≡ O.size
    words_long = completed_length O w.actors 0 w.words ∙ law.size

    all_fit : AllFit O w.actors
    all_fit j Idle at = λ effect none. absurd none
    all_fit j (Does i b) at = left_fit O w j i b (law.sound j i b at)

    words_are : AreWords words
    words_are = completed_below O w.actors 0 w.words all_fit law.are_words

    -- what it has read is what the completed words have
    read : AreReadFrom words readings
    read r within =
        let h = sound.read r within in
        let below = subst (λ (l : ℕ). r.word < l) (sym law.size) (system.words.word_there r.word h.under.lock h.under.protects) in
        completed_index O w r.word below
        ∙ only_one O w.actors k r.word (slice_index w.words r.word) (Does number old) there (others_spare O system w law k number old there r.word h.under)
        ∙ h.value

    -- so its decision is that of its script on them
    run_is : run words (O.script job) ≡ decided.decision
    run_is = walk_run O.same words (seen_of old) (O.script job) decided.decision read decided.come

    decides : DecidesAs O words (whole state job) decided.decision
    decides = subst (DecidesAs O words (whole state job)) run_is (system.decides job words state sound.job words_long words_are law.shows)

    abbrev other : List ℕ
    other = slice_set w.words O.turn_word left

    else_same : (n : ℕ) → n ≢ O.turn_word → slice_index other n ≡ slice_index w.words n
    else_same n apart = index_other w.words O.turn_word n left apart

    lock_words : (lock : Lock) → IsLock lock → word_at O other lock ≡ word_at O w.words lock
    lock_words lock is = else_same (lock_word lock) (system.words.turn_apart lock is)

    holders : (lock : Lock) → IsLock lock → holder_at O other lock ≡ holder_at O w.words lock
    holders lock is = ap O.sharing.holder (lock_words lock is)

    -- a protected word, with the effects made: as the completed word with the actor past its turn
    word_same : (n : ℕ) → ((effect : Effect) × IsIn effect effects × (effect_word effect ≡ n)) ⊎ Spares O effects n
        → value_after O effects n (completed_word O w.actors n (slice_index w.words n))
        ≡ completed_word O (set w.actors k (Does number new)) n (slice_index w.words n)
    word_same n (inl t) =
        let within : IsUnder O held n = subst (λ (m : ℕ). IsUnder O held m) t.2 (under t.0 t.1) in
        let v = slice_index w.words n in
        ap (value_after O effects n) (only_one O w.actors k n v (Does number old) there (others_spare O system w law k number old there n within)) ∙
        sym (only_one O (set w.actors k (Does number new)) k n v (Does number new) (set_here w.actors k (Does number new) (Does number old) there)
        (others_spare_then O system w law k number old new there n within))
    word_same n (inr spares) =
        spares (completed_word O w.actors n (slice_index w.words n))
        ∙ sym (same_done O w.actors k n (slice_index w.words n) (Does number old) (Does number new) there spares)

    abbrev then : List (RecordOf O) → World O
    then order = renewed O w other order k number new

    other_long : length other ≡ O.size
    other_long = length-set w.words O.turn_word left ∙ law.size

    alike_then : (order : List (RecordOf O)) → AreAlike O (perform_all O words effects) (completed O (then order))
    alike_then order = record {
      this_length = perform_length O words effects ∙ words_long;
      that_length = completed_length O (set w.actors k (Does number new)) 0 other ∙ other_long;
      under = λ n lock e.
          let below = system.words.word_there n lock e in
          perform_index O words effects n (λ effect within. let u = under effect within in
          subst (λ (l : ℕ). effect_word effect < l) (sym words_long) (system.words.word_there (effect_word effect) u.lock u.protects)) ∙
          ap (value_after O effects n) (completed_index O w n (subst (λ (l : ℕ). n < l) (sym law.size) below)) ∙
          word_same n (touch_or_spare O effects n) ∙
          ap (completed_word O (set w.actors k (Does number new)) n) (sym (else_same n (no_turn O system n lock e))) ∙
          sym (completed_index O (then order) n (subst (λ (l : ℕ). n < l) (sym other_long) below));
    }

    -- under what it holds, the words are the completed ones
    held_same : (n : ℕ) → IsUnder O held n → slice_index other n ≡ slice_index words n
    held_same n u =
        let below = subst (λ (l : ℕ). n < l) (sym law.size) (system.words.word_there n u.lock u.protects) in
        else_same n (no_turn O system n u.lock u.protects)
        ∙ sym (completed_index O w n below
        ∙ only_one O w.actors k n (slice_index w.words n) (Does number old) there (others_spare O system w law k number old there n u))

    -- it was decided on the state that the order so far leaves
    was_decided : (r : RecordOf O) → WasDecided O other (w.order ++ r ∷ []) (length w.order) new
    was_decided r = record {
      words = words;
      size = words_long;
      are_words = words_are;
      shows = subst (λ (before : List (RecordOf O)). Shows words (after O O.opening before)) (sym (take-append_seam w.order (r ∷ []))) law.shows;
      made = [];
      effects = ap effects_of run_is ∙ sym decided.effects;
      under = λ effect left e none. absurd none;
      since = held_same;
    }

    own : (order : List (RecordOf O)) (known : IsRecorded O order k number found new) → WasDecided O other order known.place new
        → IsSound O (then order) k number new
    own order known was = record {
      job = sound.job;
      held = λ lock within. let h = sound.held lock within in record { there = h.there; names = holders lock h.there ∙ h.names };
      distinct = sound.distinct;
      read = λ r none. absurd none;
      valid = stands_change O system old (TurnNumber found) sound.job (are_read O w.words held readings law.are_words sound.read) sound.valid;
      fits = record {
        under = under;
        fit = may.fit;
        due =
            due_along O system held words other effects words_long other_long under held_same
            (subst (λ (l : List Effect). AreDue O words l) (sym decided.effects) decides.due);
        recorded = known;
        decided = was;
      };
    }

    -- actor k takes its turn, with this record
    turns_by : (r : RecordOf O) → r.turn ≡ found → r.actor ≡ k → r.number ≡ number → r.job ≡ job → reply ≡ Some r.reply → r.reply ≡ reply_of decided.decision
        → Lawful O (then (w.order ++ r ∷ []))
    turns_by r turn actor numbered is replied says =
        let at : IsCount O.clock r.turn (0 + length w.order) =
        subst (λ (n : ℕ). IsCount O.clock n (0 + length w.order)) (sym turn)
        (subst (λ (m : ℕ). IsCount O.clock found m) (sym (zero-add (length w.order))) law.turn) in
        let answer : r.reply ≡ (whole state r.job).reply = says ∙ decides.reply ∙ ap (λ (j : Job). (whole state j).reply) (sym is) in
        let last : (whole state job).state ≡ after O O.opening (w.order ++ r ∷ []) =
        ap (λ (j : Job). (whole state j).state) (sym is) ∙ sym (after_more O O.opening w.order r) in
        let shown : Shows (perform_all O words effects) (whole state job).state =
        subst (λ (l : List Effect). Shows (perform_all O words l) (whole state job).state) (sym decided.effects) decides.shows in
        let known : IsRecorded O (w.order ++ r ∷ []) k number found new =
        record {
          place = length w.order;
          recorded = r;
          at_place = get_last w.order r;
          turn_is = turn;
          actor = actor;
          number_is = numbered;
          job = is;
          reply = replied;
        } in
        record {
          few = subst (λ (l : ℕ). l ≤ O.sharing.most) (sym (length-set w.actors k (Does number new))) law.few;
          size = other_long;
          are_words =
              set_below w.words O.turn_word left law.are_words (applied_below (turning O.clock) found (turning_fits O.clock) (law.are_words O.turn_word));
          turn = subst (λ (n : ℕ). IsCount O.clock n (length (w.order ++ r ∷ [])))
              (sym (index_same w.words O.turn_word left (subst (λ (l : ℕ). O.turn_word < l) (sym law.size) system.words.turn_there)))
              (subst (λ (m : ℕ). IsCount O.clock left m) (sym (length_more w.order r)) (count_more O.clock found (length w.order) law.turn));
          legal = legal_more O 0 O.opening w.order r law.legal (subst O.IsJob (sym is) sound.job) at answer;
          shows =
              subst (λ (s : State). Shows (completed O (then (w.order ++ r ∷ []))) s) last
              (system.looks (perform_all O words effects) (completed O (then (w.order ++ r ∷ []))) _ (alike_then (w.order ++ r ∷ [])) shown);
          sound = all_sound O w k (Does number old) there other (w.order ++ r ∷ []) number new (own (w.order ++ r ∷ []) known (was_decided r))
              (λ j i b apart at. sound_along O system w (then (w.order ++ r ∷ [])) j i b (record {
                this = law.size;
                that = other_long;
                holders = λ lock is within. holders lock is;
                under = λ n u. else_same n (no_turn O system n u.lock u.protects);
                order = λ place x e. get_before w.order (r ∷ []) place x e;
              }) (law.sound j i b at));
          shared =
              λ lock is. shared_on O w k (Does number old) there other (w.order ++ r ∷ []) number new lock (law.shared lock is) (lock_words lock is)
              (λ within. within) ((λ e. absurd cc), (λ e. absurd cc)) (few_actors O w law k (Does number old) there);
        }

    by_reply : (given : Option Reply) → reply ≡ given → given ≡ Some (reply_of decided.decision)
        → Lawful O (then (w.order ++ turn_record O k number job given found))
    by_reply None same e = absurd cc
    by_reply (Some said) same e = turns_by (record { turn = found; actor = k; number = number; job = job; reply = said }) refl refl refl refl same cc

    -- actor k takes its turn
    pub turns : Lawful O (then (w.order ++ turn_record O k number job reply found))
    turns = by_reply reply refl decided.reply
