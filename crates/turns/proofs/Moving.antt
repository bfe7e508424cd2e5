use Rattle.std.proofs.Common.{◌≡◌, ℕ, zero, suc, ◌<◌, ◌≤◌, List, [], ◌∷◌, replicate, slice_index, sym, refl, ap, ◌∙◌, subst, Bool, true, false, Option, None}
use mathlib.Core.Option.{some, some-injective, some-ne-none}
use lib.ListN.{get_elem?, length-replicate}
use Rattle.turns.specs.{Among.IsIn, System.{System, IsSystem}, Attempt.{AttemptOf, act, effects_left_in, begin, request_in}}
use Rattle.turns.specs.declared.{act.Act.TheVariants.Finished, phase.Phase.Phase}
use Rattle.turns.specs.declared.{phase.Phase.TheVariants.{Requests, Seizes, Tests, Turns, Withdraws, GivesBack, Operates}, reading.Reading.Reading}
use Rattle.turns.specs.World.{World, ActorOf, Idle, Does, effects_left_of, moved, assigned, job_restarted, fresh_world, value_after, completed}
use Rattle.turns.{specs.Law.{IsAvailable, IsShared, Lawful}, proofs.{Completed.{all_spare, completed_index, completed_length}, TurnCounts.count_none}}
use Rattle.turns.proofs.{Sound.begin_sound, Settings.{held_of, request_of}, Quiet.still, Moves.{attempt, keeps_in, gives_back_in}}

module _ (O : System) where
  open O use {Lock, Job, Reply, Effect, IsLock, IsJob, sharing}

  -- an actor with no next step has no effects left, holds nothing and requests nothing
  pub rest_bare : (phase : Phase Lock ℕ) (job : Job) (readings : List (Reading ℕ)) (held : List Lock) (reply : Option Reply) (effects : List Effect)
      → act (attempt O phase job readings held reply effects) ≡ Finished → (effects_left_in phase effects ≡ []) × (held ≡ []) × (request_in phase ≡ None)
  rest_bare (Requests lock) job readings held reply effects e = cc
  rest_bare (Seizes lock expected) job readings held reply effects e = cc
  rest_bare (Tests word) job readings held reply effects e = cc
  rest_bare Turns job readings held reply effects e = cc
  rest_bare (Withdraws lock) job readings held reply effects e = cc
  rest_bare GivesBack job readings [] reply effects e = (refl, refl, refl)
  rest_bare GivesBack job readings (c ∷ held) reply effects e = cc
  rest_bare (Operates turn) job readings [] reply [] e = (refl, refl, refl)
  rest_bare (Operates turn) job readings (c ∷ held) reply [] e = cc
  rest_bare (Operates turn) job readings held reply (effect ∷ effects) e = cc

  free_bare : (m : ActorOf O) → IsAvailable O m → (effects_left_of O m ≡ []) × (held_of O m ≡ []) × (request_of O m ≡ None)
  free_bare Idle free = (refl, refl, refl)
  free_bare (Does number a) free = rest_bare a.phase a.job a.readings a.held a.reply a.effects free

  abbrev idle : ActorOf O
  idle = Idle

  -- idle actors do nothing
  idle_none : (count k number : ℕ) (a : AttemptOf O) → get_elem? (replicate count idle) k ≡ some (Does number a) → ⊥
  idle_none zero k number a e = some-ne-none (Does number a) (sym e)
  idle_none (suc count) zero number a e = let x = some-injective Idle (Does number a) e in cc
  idle_none (suc count) (suc k) number a e = idle_none count k number a e

  idle_left : (count k : ℕ) (m : ActorOf O) → get_elem? (replicate count idle) k ≡ some m → effects_left_of O m ≡ []
  idle_left count k Idle e = refl
  idle_left count k (Does number a) e = absurd (idle_none count k number a e)

  module _ (system : IsSystem O) where
    -- nobody holds or requests a lock
    opens_shared : (count : ℕ) (lock : Lock) → IsLock lock → IsShared O (fresh_world O count) lock
    opens_shared count lock is =
        let unused = system.opens.unused lock is in
        record {
          is_word = unused.is_word;
          named = λ k e. absurd (let x : suc k ≡ 0 = sym e ∙ unused.free in cc);
          requested = λ k few. record {
            made = λ valid. absurd (let x : ◌≡◌ {A = Bool} true false = sym valid ∙ unused.unasked k few in cc);
            shown = λ shows asks. absurd (idle_none count k asks.number asks.attempt asks.does);
          };
        }

    -- a system opens lawfully
    pub opens : (count : ℕ) → count ≤ sharing.most → Lawful O (fresh_world O count)
    opens count few = record {
      few = subst (λ (l : ℕ). l ≤ sharing.most) (sym (length-replicate count Idle)) few;
      size = system.opens.initial_length;
      are_words = system.opens.are_words;
      turn = count_none O.clock (slice_index O.initial O.turn_word) system.opens.no_turn;
      legal = tt;
      shows = system.looks O.initial (completed O (fresh_world O count)) O.opening (record {
        this_length = system.opens.initial_length;
        that_length = completed_length O (replicate count Idle) 0 O.initial ∙ system.opens.initial_length;
        under = λ n lock e.
            sym (completed_index O (fresh_world O count) n (subst (λ (l : ℕ). n < l) (sym system.opens.initial_length) (system.words.word_there n lock e)) ∙
            all_spare O (replicate count Idle) n (slice_index O.initial n)
            (λ j m at v. ap (λ (effects : List Effect). value_after O effects n v) (idle_left count j m at)));
      }) system.opens.shows;
      sound = λ k number a at. absurd (idle_none count k number a at);
      shared = λ lock is. opens_shared count lock is;
    }

    module _ (w : World O) (law : Lawful O w) (k number : ℕ) where
      -- an assignment, a step and giving back keep the law
      pub assigns : (m : ActorOf O) (job : Job) → get_elem? w.actors k ≡ some m → IsAvailable O m → IsJob job → Lawful O (assigned O k number job w)
      assigns m job there free given =
          let bare = free_bare m free in
          still O system w law k m there number (begin O job) (sym bare.0) (begin_sound O system w k number job given)
          (λ lock within. absurd (subst (λ (l : List Lock). IsIn lock l) bare.1 within))
          (λ lock. ((λ e. sym bare.2 ∙ e), (λ e. bare.2 ∙ e)))

      pub keeps : (a : AttemptOf O) → get_elem? w.actors k ≡ some (Does number a) → Lawful O (moved O k number a w)
      keeps a there = keeps_in O system w law k number a.phase a.job a.readings a.held a.reply a.effects there

      pub gives_back : (a : AttemptOf O) → get_elem? w.actors k ≡ some (Does number a) → Lawful O (job_restarted O k number a w)
      gives_back a there = gives_back_in O system w law k number a.phase a.job a.readings a.held a.reply a.effects there
