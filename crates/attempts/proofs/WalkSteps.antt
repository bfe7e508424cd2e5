-- the steps that a walk makes itself are single steps of its actor
use Rattle.std.proofs.Common.{subst, ◌≡◌, ◌<◌, ◌^◌, ℕ, zero, suc, ◌+◌, ◌-◌, Bool, true, false, List, [], ◌∷◌, ◌++◌, length, refl, sym, ◌∙◌, ap, slice_set}
use Rattle.std.proofs.Common.{slice_index, arith, inl, inr, Option, Some, None, ◌==◌, Result, Ok, Err, slice_get, if◌then◌else◌, eq-eqb, eqb-true}
use Rattle.std.proofs.lemmas.Option.{slice_get_cases, get_or_from_slice_get}
use Rattle.turns.specs.{Attempt.{AttemptOf, IsAnswerTo, answer_to_request, change, goes_on, unless_denied, walks_on}, declared.act.Act.Act}
use Rattle.turns.specs.declared.{answer.Answer.{Answer, TheVariants.{Again, Asked, Seized, Value}}, judgement.Judgement.{Judgement, TheVariants.Free}}
use Rattle.turns.specs.declared.{phase.Phase.{Phase, TheVariants.{Requests, Seizes, Tests}}, wanted.Wanted.{Wanted, TheVariants.{Seize, Test}}}
use Rattle.turns.specs.{Script.{Script, Ends, TestThen, SeizeThen, is_held, value_read, left, left_of_test, left_of_seizing, first_wanted, walk}, Seen.Seen}
use Rattle.turns.{specs.{Sharing.{IsSharing, IsUnused, with_request}, System.{AreWords, System}}, proofs.Lists.{index_other, index_same, set_idle}}
use Rattle.{turns.proofs.Room.{Grows, held_last}, attempts.specs.WalkOnWords.{WalkState, WalkOutcome, Moment, IsMade, LeadsTo, continued_by, stepped}}
use Rattle.attempts.specs.WalkOnWords.{with_reading, with_lock, read_at_once, may_seize, is_unlocked, walk_on_words_test, walk_on_words_seize, walk_on_words}
use Rattle.attempts.proofs.{WalksOnWords.{grows_reading, grows_lock}, ReadOnce.read_new}
use Rattle.turns.specs.declared.act.Act.TheVariants as act_is
use Rattle.turns.specs.declared.judgement.Judgement.TheVariants as judgement

-- a word that is there is what is found at its place
pub found_there : (words : List ℕ) (word value : ℕ) → slice_get words word ≡ Some value → (word < length words) × (slice_index words word ≡ value)
found_there words word value e =
    (elim ((slice_get_cases words word).1) [ inl there ↦ there.1 | inr past ↦ absurd cc ], get_or_from_slice_get words word value 0 e)

-- of two numbers that are put into a word the second one stays
pub set_twice : (words : List ℕ) (i v w : ℕ) → slice_set (slice_set words i v) i w ≡ slice_set words i w
set_twice [] i v w = refl
set_twice (first ∷ words) zero v w = refl
set_twice (first ∷ words) (suc i) v w = ap (λ (all : List ℕ). first ∷ all) (set_twice words i v w)

-- what is read at once is there, and a step was left
pub read_there : (left room : ℕ) (words : List ℕ) (word value : ℕ) → read_at_once left room words word ≡ Some value
    → (0 < left) × (slice_get words word ≡ Some value)
read_there zero room words word value e = absurd cc
read_there (suc left) zero words word value e = absurd cc
read_there (suc left) (suc room) words word value e = (omega arith, e)

free_zero : (word : Option ℕ) → is_unlocked word ≡ true → word ≡ Some 0
free_zero None e = absurd cc
free_zero (Some zero) e = refl
free_zero (Some (suc word)) e = absurd cc

-- the word of a lock that is seized at once is 0, and two steps were left
pub seized_there : (left room : ℕ) (word : Option ℕ) → may_seize left room word ≡ true → (1 < left) × (word ≡ Some 0)
seized_there zero room word e = absurd cc
seized_there (suc zero) room word e = absurd cc
seized_there (suc (suc left)) zero word e = absurd cc
seized_there (suc (suc left)) (suc room) word e = (omega arith, free_zero word e)

module _ (O : System) (self : (lock : O.Lock) → O.same lock lock ≡ true) (reads seizes k : ℕ) (few : k < O.sharing.most) (sharing : IsSharing O.sharing)
    (unused : IsUnused O.sharing 0) (asking : O.sharing.asks ≡ true) where
  open O use {Lock, Decision}

  -- the word of a lock that nobody else requests or holds, once actor k requests it, and once it
  -- has seized it
  abbrev pub asked : ℕ
  asked = with_request O.sharing k 0

  abbrev pub held_word : ℕ
  held_word = O.sharing.taken k asked

  abbrev plain : Script Lock Decision → WalkState Lock → List ℕ → WalkOutcome Lock Decision
  plain = walk_on_words O.same O.lock_word reads seizes (λ word value. value)

  -- the only actor that requests a lock that nobody holds may go on
  pub asked_free : O.sharing.judged k asked ≡ Free
  asked_free =
      sharing.alone_free k asked few (sharing.asked_is k 0 asking few unused.is_word) (sharing.asked_holder k 0 asking few unused.is_word ∙ unused.free)
      alone where
        alone : (j : ℕ) → j < O.sharing.most → O.sharing.requests j asked ≡ true → j ≡ k
        alone j below e = elim (sharing.asked_requests k 0 asking few unused.is_word j below e) [
          | inl own ↦ own
          | inr other ↦ (let none : O.sharing.requests j 0 ≡ false = unused.unasked j below in absurd cc)
        ]

  -- a request for a lock whose word is 0
  pub asks : (b : AttemptOf O) (lock : Lock) (words : List ℕ) → slice_index words (O.lock_word lock) ≡ 0
      → stepped O k (record { attempt = record b { phase = Requests lock }; words = words })
      ≡ record { attempt = record b { phase = Seizes lock asked }; words = slice_set words (O.lock_word lock) asked }
  asks b lock words there = ap by_found there ∙ ap by_asking asking ∙ ap by_judgement asked_free where
    by_found : ℕ → Moment O
    by_found found = record {
      attempt = change O (record b { phase = Requests lock }) (answer_to_request O.sharing k found);
      words = slice_set words (O.lock_word lock) (with_request O.sharing k found);
    }

    by_asking : Bool → Moment O
    by_asking asks_first = record {
      attempt =
          change O (record b { phase = Requests lock }) (if asks_first then unless_denied (Asked asked) (O.sharing.judged k asked) else unless_denied Seized
          (O.sharing.judged k 0));
      words = slice_set words (O.lock_word lock) asked;
    }

    by_judgement : Judgement → Moment O
    by_judgement judgement = record {
      attempt = change O (record b { phase = Requests lock }) (unless_denied (Asked asked) judgement);
      words = slice_set words (O.lock_word lock) asked;
    }

  -- the seizing of a lock whose word is as expected
  pub takes : (b : AttemptOf O) (lock : Lock) (words : List ℕ) → slice_index words (O.lock_word lock) ≡ asked
      → stepped O k (record { attempt = record b { phase = Seizes lock asked }; words = words })
      ≡ record {
        attempt = walks_on O (record b { held = b.held ++ lock ∷ []; phase = Seizes lock asked });
        words = slice_set words (O.lock_word lock) held_word;
      }
  takes b lock words there = ap by_found there ∙ ap by_test (eq-eqb asked asked refl) where
    by_found : ℕ → Moment O
    by_found found = record {
      attempt = change O (record b { phase = Seizes lock asked }) (if found == asked then Seized else unless_denied (Again found) (O.sharing.judged k found));
      words = slice_set words (O.lock_word lock) (if found == asked then held_word else found);
    }

    by_test : Bool → Moment O
    by_test as_expected = record {
      attempt = change O (record b { phase = Seizes lock asked }) (if as_expected then Seized else unless_denied (Again asked) (O.sharing.judged k asked));
      words = slice_set words (O.lock_word lock) (if as_expected then held_word else asked);
    }

  -- the reading of a word
  pub looks : (b : AttemptOf O) (word value : ℕ) (words : List ℕ) → slice_index words word ≡ value
      → stepped O k (record { attempt = record b { phase = Tests word }; words = words })
      ≡ record { attempt = walks_on O (record b { readings = b.readings ++ record { word = word; value = value } ∷ []; phase = Tests word }); words = words }
  looks b word value words there = ap by_words (set_idle words word) ∙ ap by_found there where
    by_words : List ℕ → Moment O
    by_words after = record {
      attempt = change O (record b { phase = Tests word }) (Value (slice_index words word));
      words = after;
    }

    by_found : ℕ → Moment O
    by_found found = record {
      attempt = change O (record b { phase = Tests word }) (Value found);
      words = words;
    }

  -- a walk leads to the same from whatever phase
  goes_on_from : (a : AttemptOf O) (phase : Phase Lock ℕ) (found : Result Decision (Wanted Lock ℕ))
      → goes_on O (record a { phase = phase }) found ≡ goes_on O a found
  goes_on_from a phase (Ok decision) = refl
  goes_on_from a phase (Err (Seize lock)) = refl
  goes_on_from a phase (Err (Test word)) = refl

  abbrev IsAnswerHere : Act Lock O.Effect → Answer → Type 0
  IsAnswerHere step answer = IsAnswerTo step answer

  -- the answers to a request and to a seize are of their kinds
  asked_kind : (lock : Lock) (word : ℕ) (judgement : Judgement) → IsAnswerHere (act_is.Request lock) (unless_denied (Asked word) judgement)
  asked_kind lock word judgement.Free = tt
  asked_kind lock word (judgement.Held holder) = tt
  asked_kind lock word (judgement.Preferred other) = tt

  asked_answer : (lock : Lock) (found : ℕ) → IsAnswerHere (act_is.Request lock) (answer_to_request O.sharing k found)
  asked_answer lock found =
      let word = with_request O.sharing k found in
      subst (λ (asks_first : Bool). IsAnswerHere (act_is.Request lock)
      (if asks_first then unless_denied (Asked word) (O.sharing.judged k word) else unless_denied Seized (O.sharing.judged k found))) (sym asking)
      (asked_kind lock word (O.sharing.judged k word))

  taken_answer : (lock : Lock) (expected found : ℕ) (as_expected : Bool) (judgement : Judgement)
      → IsAnswerHere (act_is.Seize lock expected) (if as_expected then Seized else unless_denied (Again found) judgement)
  taken_answer lock expected found true judgement = tt
  taken_answer lock expected found false judgement.Free = tt
  taken_answer lock expected found false (judgement.Held holder) = tt
  taken_answer lock expected found false (judgement.Preferred other) = tt

  -- words still fit 64 bits when one of them is set to a number that does
  words_set : (words : List ℕ) (at value : ℕ) → AreWords words → at < length words → value < 2 ^ 64 → AreWords (slice_set words at value)
  words_set words at value are there below n = by (n == at) refl where
    by : (b : Bool) → (n == at) ≡ b → slice_index (slice_set words at value) n < 2 ^ 64
    by true e = subst (λ (v : ℕ). v < 2 ^ 64) (sym (ap (slice_index (slice_set words at value)) (eqb-true n at e) ∙ index_same words at value there)) below
    by false e =
        subst (λ (v : ℕ). v < 2 ^ 64) (sym (index_other words at n value (λ same. (let yes : (n == at) ≡ true = eq-eqb n at same in absurd cc)))) (are n)

  -- this script is what is left of a job, given what was seen
  abbrev pub IsRest : AttemptOf O → Script Lock Decision → Seen Lock → Type 0
  IsRest a script seen = (more : Seen Lock) → Grows O.same self seen more → walk O.same more (O.script a.job) ≡ walk O.same more script

  -- the steps that a walk makes by itself, from an attempt at what it needs, are single steps of
  -- actor k
  pub live_steps : (a : AttemptOf O) (script : Script Lock Decision) (state : WalkState Lock) (words : List ℕ) → AreWords words → held_word < 2 ^ 64
      → state.held_word ≡ held_word → IsRest a script state.seen → IsMade O k a state words (walk O.same state.seen script) (plain script state words)
  unfolding walk_on_words walk_on_words_test walk_on_words_seize walk left left_of_test left_of_seizing first_wanted LeadsTo
  live_steps a (Ends found) state words are below holds rest = record { made = 0; left = omega arith; steps = refl }
  live_steps a (TestThen word script) state words are below holds rest =
      at (value_read state.seen.readings word) (read_at_once state.left (reads - length state.seen.readings) words word) refl refl
      (λ value more. live_steps a (script value) more words are below) where
        at : (read now : Option ℕ) → value_read state.seen.readings word ≡ read → read_at_once state.left (reads - length state.seen.readings) words word ≡ now
            → ((value : ℕ) (more : WalkState Lock) → more.held_word ≡ held_word → IsRest a (script value) more.seen
            → IsMade O k a more words (walk O.same more.seen (script value)) (plain (script value) more words))
            → IsMade O k a state words (first_wanted (left_of_test script (λ value. left O.same state.seen (script value)) word read))
            (walk_on_words_test O.same O.lock_word reads seizes (λ word value. value) (λ value. plain (script value)) word state words read now)
        at (Some value) now is there later = later value state holds (λ more grows. rest more grows ∙ rw (grows.readings word value is) refl)
        at None None is there later = record { made = 0; left = omega arith; steps = refl }
        at None (Some value) is there later = record {
          made = suc (made_later.made);
          left =
              (let above : 0 < state.left = (read_there state.left (reads - length state.seen.readings) words word value there).0 in
              let then_left : state.left - 1 ≡ made_later.made + (plain (script value) more words).state.left = made_later.left in omega arith);
          steps = (tt, (are word, subst (λ (m : Moment O). LeadsTo O k made_later.made m last) (sym one) made_later.steps));
        } where
          more : WalkState Lock
          more = with_reading state word value

          last : Moment O
          last = record {
            attempt = continued_by O a (plain (script value) more words).state (plain (script value) more words).found;
            words = (plain (script value) more words).words;
          }

          goes : (further : Seen Lock) → Grows O.same self more.seen further → walk O.same further (O.script a.job) ≡ walk O.same further (script value)
          goes further grows = rest further (record {
            held = λ lock held. grows.held lock held;
            readings = λ w v read. grows.readings w v ((grows_reading O.same self O.lock_word reads seizes state word value).readings w v read);
          }) ∙ rw (grows.readings word value (read_new state.seen.readings (record { word = word; value = value }) is)) refl

          made_later : IsMade O k a more words (walk O.same more.seen (script value)) (plain (script value) more words)
          made_later = later value more holds goes

          b : AttemptOf O
          b = record a { held = state.seen.held; readings = state.seen.readings }

          c : AttemptOf O
          c = record b { readings = state.seen.readings ++ record { word = word; value = value } ∷ []; phase = Tests word }

          one : stepped O k (record { attempt = record b { phase = Tests word }; words = words })
              ≡ record { attempt = continued_by O a more (walk O.same more.seen (script value)); words = words }
          one =
              looks b word value words (found_there words word value ((read_there state.left (reads - length state.seen.readings) words word value there).1)).1
              ∙ ap (λ (x : AttemptOf O). record { attempt = x; words = words })
              (ap (goes_on O c) (goes more.seen (record { held = λ lock held. held; readings = λ w v read. read }))
              ∙ goes_on_from (record a { held = more.seen.held; readings = more.seen.readings }) (Tests word) (walk O.same more.seen (script value)))
  live_steps a (SeizeThen lock script) state words are below holds rest =
      at (is_held O.same state.seen.held lock) (may_seize state.left (seizes - length state.seen.held) (slice_get words (O.lock_word lock))) refl refl
      (λ more after all. live_steps a script more after all below) where
        at : (held now : Bool) → is_held O.same state.seen.held lock ≡ held
            → may_seize state.left (seizes - length state.seen.held) (slice_get words (O.lock_word lock)) ≡ now
            → ((more : WalkState Lock) (after : List ℕ) → AreWords after → more.held_word ≡ held_word → IsRest a script more.seen
            → IsMade O k a more after (walk O.same more.seen script) (plain script more after))
            → IsMade O k a state words (first_wanted (left_of_seizing script (left O.same state.seen script) lock held))
            (walk_on_words_seize O.same O.lock_word reads seizes (λ word value. value) (plain script) lock state words held now)
        at true now is there later = later state words are holds (λ more grows. rest more grows ∙ rw (grows.held lock is) refl)
        at false false is there later = record { made = 0; left = omega arith; steps = refl }
        at false true is there later = record {
          made = suc (suc (made_later.made));
          left =
              (let above : 1 < state.left = (seized_there state.left (seizes - length state.seen.held) (slice_get words (O.lock_word lock)) there).0 in
              let then_left : state.left - 2 ≡ made_later.made + (plain script more after).state.left = made_later.left in omega arith);
          steps = (
            tt,
            (
              asked_answer lock (slice_index words (O.lock_word lock)),
              subst (λ (m : Moment O). LeadsTo O k (suc (made_later.made)) m last) (sym requesting) (
                tt,
                (
                  taken_answer lock asked between (between == asked) (O.sharing.judged k between),
                  subst (λ (m : Moment O). LeadsTo O k made_later.made m last) (sym taking) made_later.steps,
                ),
              ),
            ),
          );
        } where
          more : WalkState Lock
          more = with_lock state lock

          after : List ℕ
          after = slice_set words (O.lock_word lock) state.held_word

          last : Moment O
          last = record { attempt = continued_by O a (plain script more after).state (plain script more after).found; words = (plain script more after).words }

          goes : (further : Seen Lock) → Grows O.same self more.seen further → walk O.same further (O.script a.job) ≡ walk O.same further script
          goes further grows = rest further (record {
            held = λ l held. grows.held l ((grows_lock O.same self O.lock_word reads seizes state lock).held l held);
            readings = λ w v read. grows.readings w v read;
          }) ∙ rw (grows.held lock (held_last O.same self state.seen.held lock)) refl

          found : (O.lock_word lock < length words) × (slice_index words (O.lock_word lock) ≡ 0)
          found =
              found_there words (O.lock_word lock) 0 ((seized_there state.left (seizes - length state.seen.held) (slice_get words (O.lock_word lock)) there).1)

          made_later : IsMade O k a more after (walk O.same more.seen script) (plain script more after)
          made_later =
              later more after (words_set words (O.lock_word lock) state.held_word are found.0 (subst (λ (v : ℕ). v < 2 ^ 64) (sym holds) below)) holds goes

          b : AttemptOf O
          b = record a { held = state.seen.held; readings = state.seen.readings }

          c : AttemptOf O
          c = record b { held = state.seen.held ++ lock ∷ []; phase = Seizes lock asked }

          between : ℕ
          between = slice_index (slice_set words (O.lock_word lock) asked) (O.lock_word lock)

          requesting : stepped O k (record { attempt = record b { phase = Requests lock }; words = words })
              ≡ record { attempt = record b { phase = Seizes lock asked }; words = slice_set words (O.lock_word lock) asked }
          requesting = asks b lock words found.1

          set_again : slice_set (slice_set words (O.lock_word lock) asked) (O.lock_word lock) held_word ≡ after
          set_again = set_twice words (O.lock_word lock) asked held_word ∙ ap (slice_set words (O.lock_word lock)) (sym holds)

          taking : stepped O k (record { attempt = record b { phase = Seizes lock asked }; words = slice_set words (O.lock_word lock) asked })
              ≡ record { attempt = continued_by O a more (walk O.same more.seen script); words = after }
          taking = takes b lock (slice_set words (O.lock_word lock) asked) (index_same words (O.lock_word lock) asked found.0)
              ∙ ap (λ (all : List ℕ). record { attempt = walks_on O c; words = all }) set_again
              ∙ ap (λ (x : AttemptOf O). record { attempt = x; words = after })
              (ap (goes_on O c) (goes more.seen (record { held = λ l held. held; readings = λ w v read. read }))
              ∙ goes_on_from (record a { held = more.seen.held; readings = more.seen.readings }) (Seizes lock asked) (walk O.same more.seen script))
