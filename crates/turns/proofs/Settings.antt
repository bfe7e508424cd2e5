use Rattle.std.proofs.Common.{◌≡◌, ◌≢◌, ◌↔◌, ℕ, suc, ◌<◌, ◌⊎◌, List, [], set, sym, ap, inl, inr, ◌∙◌, subst, Option, Some, None, true}
use mathlib.Core.Option.{some, some-injective}
use lib.ListN.{get_elem?}
use Rattle.turns.specs.{Among.IsIn, Sharing.{KeepsOthers, ShowsRequests}, System.System, Attempt.{Attempt, AttemptOf, request_in}}
use Rattle.turns.specs.{World.{World, Actor, ActorOf, RecordOf, Idle, Does}, Law.{HasRequested, Holds, IsShared, IsSound, TellsRequest, word_at}}
use Rattle.turns.proofs.Lists.{one_or_two, at_set, set_here, set_else}

pub does_one : {Lock Job Reply Effect : Type 0} (m n : ℕ) (a b : Attempt Lock Job Reply Effect) → ◌≡◌ {A = Actor Lock Job Reply Effect} (Does m a) (Does n b)
    → a ≡ b
does_one m n a b e = cc

pub does_number : {Lock Job Reply Effect : Type 0} (m n : ℕ) (a b : Attempt Lock Job Reply Effect) → ◌≡◌ {A = Actor Lock Job Reply Effect} (Does m a) (Does n b)
    → m ≡ n
does_number m n a b e = cc

module _ (O : System) where
  open O use {Lock, IsLock, sharing}

  -- what an actor holds, and the lock for which its request is pending
  abbrev pub held_of : ActorOf O → List Lock
  held_of Idle = []
  held_of (Does number a) = a.held

  abbrev pub request_of : ActorOf O → Option Lock
  request_of Idle = None
  request_of (Does number a) = request_in a.phase

  pub holds_is : (actors : List (ActorOf O)) (j : ℕ) (m : ActorOf O) (lock : Lock) → get_elem? actors j ≡ some m → IsIn lock (held_of m) → Holds O actors j lock
  holds_is actors j Idle lock there within = absurd within
  holds_is actors j (Does number a) lock there within = record { number = number; attempt = a; does = there; held = within }

  pub is_held_by : (actors : List (ActorOf O)) (j : ℕ) (m : ActorOf O) (lock : Lock) → get_elem? actors j ≡ some m → Holds O actors j lock
      → IsIn lock (held_of m)
  is_held_by actors j m lock there holds =
      subst (λ (x : ActorOf O). IsIn lock (held_of x)) (some-injective (Does holds.number holds.attempt) m (sym holds.does ∙ there)) holds.held

  pub requested_is : (actors : List (ActorOf O)) (j : ℕ) (m : ActorOf O) (lock : Lock) → get_elem? actors j ≡ some m → request_of m ≡ Some lock
      → HasRequested O actors j lock
  requested_is actors j Idle lock there e = absurd cc
  requested_is actors j (Does number a) lock there e = record { number = number; attempt = a; does = there; requests = e }

  pub is_requested_by : (actors : List (ActorOf O)) (j : ℕ) (m : ActorOf O) (lock : Lock) → get_elem? actors j ≡ some m → HasRequested O actors j lock
      → request_of m ≡ Some lock
  is_requested_by actors j m lock there asks = ap request_of (some-injective m (Does asks.number asks.attempt) (sym there ∙ asks.does)) ∙ asks.requests

  -- a lock's word is right about an actor's request, given the lock that this one requests
  pub record TellsOwn (k : ℕ) (lock : Lock) (word : ℕ) (request : Option Lock) : Type 0 where
    pub made : sharing.requests k word ≡ true → request ≡ Some lock
    pub shown : ShowsRequests sharing → request ≡ Some lock → sharing.requests k word ≡ true

  -- a word has the same requests of the others as the word before
  pub record TellsOthers (k word after : ℕ) : Type 0 where
    pub made : (j : ℕ) → j < sharing.most → j ≢ k → sharing.requests j after ≡ true → sharing.requests j word ≡ true
    pub shown : ShowsRequests sharing → KeepsOthers sharing k word after

  -- actor k does this now: what others hold and request stays
  module _ (actors : List (ActorOf O)) (k number : ℕ) (new : AttemptOf O) where
    pub holds_else : (j : ℕ) (lock : Lock) → j ≢ k → Holds O actors j lock → Holds O (set actors k (Does number new)) j lock
    holds_else j lock apart holds =
        record { number = holds.number; attempt = holds.attempt; does = set_else actors k j (Does number new) apart ∙ holds.does; held = holds.held }

    requested_else : (j : ℕ) (lock : Lock) → j ≢ k → HasRequested O actors j lock → HasRequested O (set actors k (Does number new)) j lock
    requested_else j lock apart asks =
        record { number = asks.number; attempt = asks.attempt; does = set_else actors k j (Does number new) apart ∙ asks.does; requests = asks.requests }

    requested_before : (j : ℕ) (lock : Lock) → j ≢ k → HasRequested O (set actors k (Does number new)) j lock → HasRequested O actors j lock
    requested_before j lock apart asks =
        record { number = asks.number; attempt = asks.attempt; does = sym (set_else actors k j (Does number new) apart) ∙ asks.does; requests = asks.requests }

    module _ (m : ActorOf O) (there : get_elem? actors k ≡ some m) where
      here : get_elem? (set actors k (Does number new)) k ≡ some (Does number new)
      here = set_here actors k (Does number new) m there

      -- actor k holds the lock
      pub holds_here : (j : ℕ) (lock : Lock) → j ≡ k → IsIn lock new.held → Holds O (set actors k (Does number new)) j lock
      holds_here j lock e within =
          subst (λ (i : ℕ). Holds O (set actors k (Does number new)) i lock) (sym e) (record { number = number; attempt = new; does = here; held = within })

      -- a lock is held as before, if actor k holds it as before
      pub holds_on : (j : ℕ) (lock : Lock) → (IsIn lock (held_of m) → IsIn lock new.held) → Holds O actors j lock
          → Holds O (set actors k (Does number new)) j lock
      holds_on j lock more holds = elim (one_or_two j k) [
        | inl e ↦ holds_here j lock e (more (is_held_by actors k m lock there (subst (λ (i : ℕ). Holds O actors i lock) e holds)))
        | inr apart ↦ holds_else j lock apart holds
      ]

      -- the requests in a word are as they were made before, except actor k's, which is right by
      -- itself
      pub requests_here : (lock : Lock) (word value : ℕ) → ((j : ℕ) → j < sharing.most → TellsRequest O actors j lock word)
          → TellsOwn k lock value (request_in new.phase) → TellsOthers k word value → (j : ℕ) → j < sharing.most
          → TellsRequest O (set actors k (Does number new)) j lock value
      requests_here lock word value before own others j few = elim (one_or_two j k) [
        | inl e ↦ subst (λ (i : ℕ). TellsRequest O (set actors k (Does number new)) i lock value) (sym e) (record {
          made = λ valid. requested_is (set actors k (Does number new)) k (Does number new) lock here (own.made valid);
          shown = λ shows asks. own.shown shows (is_requested_by (set actors k (Does number new)) k (Does number new) lock here asks);
        })
        | inr apart ↦ record {
          made = λ valid. requested_else j lock apart ((before j few).made (others.made j few apart valid));
          shown = λ shows asks. others.shown shows j few apart ((before j few).shown shows (requested_before j lock apart asks));
        }
      ]

  -- the world with other words and another order, and a new attempt of actor k
  abbrev pub renewed : World O → List ℕ → List (RecordOf O) → ℕ → ℕ → AttemptOf O → World O
  renewed w other order k number new = record { words = other; actors = set w.actors k (Does number new); order = order }

  module _ (w : World O) (k : ℕ) (m : ActorOf O) (there : get_elem? w.actors k ≡ some m) (other : List ℕ) (order : List (RecordOf O)) (number : ℕ)
      (new : AttemptOf O) where
    -- every actor is sound, if the one that moved is and the others are
    pub all_sound : IsSound O (renewed w other order k number new) k number new
        → ((j i : ℕ) (b : AttemptOf O) → j ≢ k → get_elem? w.actors j ≡ some (Does i b) → IsSound O (renewed w other order k number new) j i b)
        → (j i : ℕ) (b : AttemptOf O) → get_elem? (set w.actors k (Does number new)) j ≡ some (Does i b) → IsSound O (renewed w other order k number new) j i b
    all_sound own others j i b at = by (at_set w.actors k j (Does number new) (Does i b) at) where
      by : ((j ≡ k) × (Does number new ≡ Does i b)) ⊎ ((j ≢ k) × (get_elem? w.actors j ≡ some (Does i b)))
          → IsSound O (renewed w other order k number new) j i b
      by (inl t) =
          subst (λ (x : ℕ). IsSound O (renewed w other order k number new) x i b) (sym t.0)
          (subst (λ (x : ℕ). IsSound O (renewed w other order k number new) k x b) (does_number number i new b t.1)
          (subst (λ (x : AttemptOf O). IsSound O (renewed w other order k number new) k number x) (does_one number i new b t.1) own))
      by (inr t) = others j i b t.0 t.1

    -- a lock's word is right as before, if it is as before and so is what actor k has of the lock
    pub shared_on : (lock : Lock) → IsShared O w lock → word_at O other lock ≡ word_at O w.words lock → (IsIn lock (held_of m) → IsIn lock new.held)
        → (request_of m ≡ Some lock) ↔ (request_in new.phase ≡ Some lock) → k < sharing.most → IsShared O (renewed w other order k number new) lock
    shared_on lock shared same more asks few = record {
      is_word = subst sharing.IsWord (sym same) shared.is_word;
      named = λ j e. holds_on w.actors k number new m there j lock more (shared.named j (sym (ap sharing.holder same) ∙ e));
      requested = requests_here w.actors k number new m there lock (word_at O w.words lock) (word_at O other lock) shared.requested (record {
        made = λ valid. asks.0 (is_requested_by w.actors k m lock there ((shared.requested k few).made (sym (ap (sharing.requests k) same) ∙ valid)));
        shown = λ shows e. ap (sharing.requests k) same ∙ (shared.requested k few).shown shows (requested_is w.actors k m lock there (asks.1 e));
      }) (record {
        made = λ j low apart valid. sym (ap (sharing.requests j) same) ∙ valid;
        shown = λ shows j low apart stood. ap (sharing.requests j) same ∙ stood;
      });
    }

    -- or if it is a new word that is right about what actor k has of it now
    pub shared_here : (lock : Lock) (value : ℕ) → IsShared O w lock → word_at O other lock ≡ value → sharing.IsWord value
        → ((j : ℕ) → sharing.holder value ≡ suc j → Holds O (set w.actors k (Does number new)) j lock) → TellsOwn k lock value (request_in new.phase)
        → TellsOthers k (word_at O w.words lock) value → IsShared O (renewed w other order k number new) lock
    shared_here lock value shared is word_is named own others =
        let requested = requests_here w.actors k number new m there lock (word_at O w.words lock) value shared.requested own others in
        record {
          is_word = subst sharing.IsWord (sym is) word_is;
          named = λ j e. named j (sym (ap sharing.holder is) ∙ e);
          requested = λ j few. subst (λ (x : ℕ). TellsRequest O (set w.actors k (Does number new)) j lock x) (sym is) (requested j few);
        }
