-- what lost actors leave: they stay as they are, with their locks and the words under these
use Rattle.std.proofs.Common.{◌≡◌, ◌≢◌, ℕ, suc, Bool, true, false, List, [], ◌∷◌, ◌++◌, append-nil, append_assoc, slice_index, inl, inr, refl, sym, ap, ◌∙◌}
use Rattle.std.proofs.Common.{Option as Maybe, Some, None, if◌then◌else◌}
use mathlib.Core.Option.{Option, some, none}
use lib.ListN.{get_elem?}
use Rattle.turns.specs.{Among.IsIn, System.{System, IsSystem}, Attempt.{AttemptOf, begin, restarted}, World.{World, ActorOf, RecordOf, Idle, Does, added}}
use Rattle.turns.specs.{World.{added_in, assigned, turn_record}, Law.{HasRequested, Holds, Lawful, holder_at, word_at}, Sharing.ShowsRequests, Runs.Move}
use Rattle.turns.specs.Runs.{Assigns, Steps, Restarts, AreMoves, AreOfOthers, mover, is_available, assigned_at, stepped_at, restarted_at, after_move, run_from}
use Rattle.turns.specs.declared.phase.Phase.{Phase, TheVariants.{Requests, Seizes, Tests, Turns, Withdraws, GivesBack, Operates}}
use Rattle.turns.proofs.{Lists.{in_either, set_else}, Consequences.spared, Quiet.few_actors, Runs.{made_lawful, run_lawful}}

-- a lost actor makes no move of the others
apart : {Job : Type 0} (lost : ℕ → Bool) (move : Move Job) (k : ℕ) → lost k ≡ true
    → lost (mover move) ≡ false → k ≢ mover move
apart lost move k is other same =
    let both : ◌≡◌ {A = Bool} true false = sym is ∙ ap lost same ∙ other in
    cc

module _ (O : System) where
  open O use {Lock, Job, Reply, Protects}

  -- an actor is in one world as in another
  abbrev Stays : ℕ → World O → World O → Type 0
  Stays k w after = get_elem? after.actors k ≡ get_elem? w.actors k

  -- another's move leaves an actor as it is
  assigned_stays : (w : World O) (j number : ℕ) (job : Job) (found : Option (ActorOf O)) (k : ℕ)
      → k ≢ j → Stays k w (assigned_at O j number job found w)
  assigned_stays w j number job none k two = refl
  assigned_stays w j number job (some m) k two = by (is_available O m) where
    by : (free : Bool) → Stays k w (if free then assigned O j number job w else w)
    by true = set_else w.actors j k (Does number (begin O job)) two
    by false = refl

  stepped_stays : (w : World O) (j : ℕ) (found : Option (ActorOf O)) (k : ℕ) → k ≢ j
      → Stays k w (stepped_at O j found w)
  stepped_stays w j none k two = refl
  stepped_stays w j (some Idle) k two = refl
  stepped_stays w j (some (Does number a)) k two = set_else w.actors j k _ two

  backed_stays : (w : World O) (j : ℕ) (found : Option (ActorOf O)) (k : ℕ) → k ≢ j
      → Stays k w (restarted_at O j found w)
  backed_stays w j none k two = refl
  backed_stays w j (some Idle) k two = refl
  backed_stays w j (some (Does number a)) k two = set_else w.actors j k (Does number (restarted O a)) two

  move_stays : (w : World O) (move : Move Job) (k : ℕ) → k ≢ mover move
      → Stays k w (after_move O w move)
  move_stays w (Assigns j number job) k two =
      assigned_stays w j number job (get_elem? w.actors j) k two
  move_stays w (Steps j) k two = stepped_stays w j (get_elem? w.actors j) k two
  move_stays w (Restarts j) k two = backed_stays w j (get_elem? w.actors j) k two

  pub run_stays : (lost : ℕ → Bool) (w : World O) (moves : List (Move Job)) (k : ℕ)
      → AreOfOthers lost moves → lost k ≡ true → Stays k w (run_from O w moves)
  run_stays lost w [] k others is = refl
  run_stays lost w (move ∷ moves) k others is =
      run_stays lost (after_move O w move) moves k others.1 is
      ∙ move_stays w move k (apart lost move k is others.0)

  -- it still holds what it held
  holds_along : (k : ℕ) (lock : Lock) (w after : World O) → Stays k w after
      → Holds O w.actors k lock → Holds O after.actors k lock
  holds_along k lock w after stays holds = record {
    number = holds.number;
    attempt = holds.attempt;
    does = stays ∙ holds.does;
    held = holds.held;
  }

  -- the word of a lock that is held names its holder
  named : (w : World O) (k : ℕ) (lock : Lock) → Lawful O w → Holds O w.actors k lock
      → holder_at O w.words lock ≡ suc k
  named w k lock law holds =
      ((law.sound k holds.number holds.attempt holds.does).held lock holds.held).names

  one_holder : (w : World O) (k j : ℕ) (lock : Lock) → Lawful O w → Holds O w.actors k lock
      → Holds O w.actors j lock → j ≡ k
  one_holder w k j lock law holds other =
      let both : suc j ≡ suc k = sym (named w j lock law other) ∙ named w k lock law holds in
      cc

  -- the order grows by no record of an actor that makes no move
  record GrowsByOthers (lost : ℕ → Bool) (w after : World O) : Type 0 where
    pub later : List (RecordOf O)
    pub order : after.order ≡ w.order ++ later
    pub others : (r : RecordOf O) → IsIn r later → lost r.actor ≡ false

  grows_by_none : (lost : ℕ → Bool) (w : World O) → GrowsByOthers lost w w
  grows_by_none lost w =
      record { later = []; order = sym (append-nil w.order); others = λ r within. absurd within }

  turned_by : (lost : ℕ → Bool) (j number : ℕ) (job : Job) (reply : Maybe Reply) (found : ℕ)
      → lost j ≡ false → (r : RecordOf O) → IsIn r (turn_record O j number job reply found)
      → lost r.actor ≡ false
  turned_by lost j number job None found other r within = absurd within
  turned_by lost j number job (Some reply) found other r (inl same) =
      ap (λ (one : RecordOf O). lost one.actor) same ∙ other
  turned_by lost j number job (Some reply) found other r (inr nowhere) = absurd nowhere

  added_by : (lost : ℕ → Bool) (j number : ℕ) (a : AttemptOf O) (phase : Phase Lock ℕ) (found : ℕ)
      → lost j ≡ false → (r : RecordOf O) → IsIn r (added_in O j number a phase found)
      → lost r.actor ≡ false
  added_by lost j number a Turns found other r within =
      turned_by lost j number a.job a.reply found other r within
  added_by lost j number a (Requests lock) found other r within = absurd within
  added_by lost j number a (Seizes lock expected) found other r within = absurd within
  added_by lost j number a (Tests word) found other r within = absurd within
  added_by lost j number a (Withdraws lock) found other r within = absurd within
  added_by lost j number a GivesBack found other r within = absurd within
  added_by lost j number a (Operates turn) found other r within = absurd within

  assigned_grows : (lost : ℕ → Bool) (w : World O) (j number : ℕ) (job : Job)
      (found : Option (ActorOf O)) → GrowsByOthers lost w (assigned_at O j number job found w)
  assigned_grows lost w j number job none = grows_by_none lost w
  assigned_grows lost w j number job (some m) = by (is_available O m) where
    by : (free : Bool) → GrowsByOthers lost w (if free then assigned O j number job w else w)
    by true = record { later = []; order = sym (append-nil w.order); others = λ r within. absurd within }
    by false = grows_by_none lost w

  stepped_grows : (lost : ℕ → Bool) (w : World O) (j : ℕ) (found : Option (ActorOf O))
      → lost j ≡ false → GrowsByOthers lost w (stepped_at O j found w)
  stepped_grows lost w j none other = grows_by_none lost w
  stepped_grows lost w j (some Idle) other = grows_by_none lost w
  stepped_grows lost w j (some (Does number a)) other = record {
    later = added O j number a w;
    order = refl;
    others = λ r within. added_by lost j number a a.phase _ other r within;
  }

  backed_grows : (lost : ℕ → Bool) (w : World O) (j : ℕ) (found : Option (ActorOf O))
      → GrowsByOthers lost w (restarted_at O j found w)
  backed_grows lost w j none = grows_by_none lost w
  backed_grows lost w j (some Idle) = grows_by_none lost w
  backed_grows lost w j (some (Does number a)) =
      record { later = []; order = sym (append-nil w.order); others = λ r within. absurd within }

  move_grows : (lost : ℕ → Bool) (w : World O) (move : Move Job) → lost (mover move) ≡ false
      → GrowsByOthers lost w (after_move O w move)
  move_grows lost w (Assigns j number job) other =
      assigned_grows lost w j number job (get_elem? w.actors j)
  move_grows lost w (Steps j) other = stepped_grows lost w j (get_elem? w.actors j) other
  move_grows lost w (Restarts j) other = backed_grows lost w j (get_elem? w.actors j)

  run_grows : (lost : ℕ → Bool) (w : World O) (moves : List (Move Job)) → AreOfOthers lost moves
      → GrowsByOthers lost w (run_from O w moves)
  run_grows lost w [] others = grows_by_none lost w
  run_grows lost w (move ∷ moves) others =
      let first = move_grows lost w move others.0 in
      let rest = run_grows lost (after_move O w move) moves others.1 in
      record {
        later = first.later ++ rest.later;
        order = rest.order ∙ ap (λ (order : List (RecordOf O)). order ++ rest.later) first.order
            ∙ append_assoc w.order first.later rest.later;
        others = λ r within. elim (in_either r first.later rest.later within) [
          | inl front ↦ first.others r front
          | inr back ↦ rest.others r back
        ];
      }

  pub order_grows : (lost : ℕ → Bool) (w : World O) (moves : List (Move Job))
      → AreOfOthers lost moves
      → (later : List (RecordOf O)) × ((run_from O w moves).order ≡ w.order ++ later)
      × ((r : RecordOf O) → IsIn r later → lost r.actor ≡ false)
  order_grows lost w moves others =
      let grown = run_grows lost w moves others in
      (grown.later, grown.order, grown.others)

  module _ (system : IsSystem O) where
    -- another's move leaves the words under an actor's locks as they are
    step_spares : (w : World O) (j : ℕ) (found : Option (ActorOf O)) (k : ℕ) (lock : Lock) (n : ℕ)
        → Lawful O w → get_elem? w.actors j ≡ found → k ≢ j → Holds O w.actors k lock
        → Protects lock n → slice_index (stepped_at O j found w).words n ≡ slice_index w.words n
    step_spares w j none k lock n law there two holds protects = refl
    step_spares w j (some Idle) k lock n law there two holds protects = refl
    step_spares w j (some (Does number a)) k lock n law there two holds protects =
        spared O system w law j number a n lock there protects (λ own.
        let other : Holds O w.actors j lock =
        record { number = number; attempt = a; does = there; held = own } in
        two (sym (one_holder w k j lock law holds other)))

    assigned_words : (w : World O) (j number : ℕ) (job : Job) (found : Option (ActorOf O)) (n : ℕ)
        → slice_index (assigned_at O j number job found w).words n ≡ slice_index w.words n
    assigned_words w j number job none n = refl
    assigned_words w j number job (some m) n = by (is_available O m) where
      by : (free : Bool)
          → slice_index (if free then assigned O j number job w else w).words n
          ≡ slice_index w.words n
      by true = refl
      by false = refl

    backed_words : (w : World O) (j : ℕ) (found : Option (ActorOf O)) (n : ℕ)
        → slice_index (restarted_at O j found w).words n ≡ slice_index w.words n
    backed_words w j none n = refl
    backed_words w j (some Idle) n = refl
    backed_words w j (some (Does number a)) n = refl

    move_spares : (w : World O) (move : Move Job) (k : ℕ) (lock : Lock) (n : ℕ) → Lawful O w
        → k ≢ mover move → Holds O w.actors k lock → Protects lock n
        → slice_index (after_move O w move).words n ≡ slice_index w.words n
    move_spares w (Assigns j number job) k lock n law two holds protects =
        assigned_words w j number job (get_elem? w.actors j) n
    move_spares w (Steps j) k lock n law two holds protects =
        step_spares w j (get_elem? w.actors j) k lock n law refl two holds protects
    move_spares w (Restarts j) k lock n law two holds protects =
        backed_words w j (get_elem? w.actors j) n

    pub run_spares : (lost : ℕ → Bool) (w : World O) (moves : List (Move Job)) (k : ℕ) (lock : Lock)
        (n : ℕ) → Lawful O w → AreMoves O moves → AreOfOthers lost moves → lost k ≡ true
        → Holds O w.actors k lock → Protects lock n
        → slice_index (run_from O w moves).words n ≡ slice_index w.words n
    run_spares lost w [] k lock n law are others is holds protects = refl
    run_spares lost w (move ∷ moves) k lock n law are others is holds protects =
        let two = apart lost move k is others.0 in
        let after = after_move O w move in
        run_spares lost after moves k lock n (made_lawful O system w move law are.0) are.1 others.1
        is (holds_along k lock w after (move_stays w move k two) holds) protects
        ∙ move_spares w move k lock n law two holds protects

    pub run_changes : (lost : ℕ → Bool) (w : World O) (moves : List (Move Job)) (k : ℕ)
        (lock : Lock) (n : ℕ) → Lawful O w → AreMoves O moves → AreOfOthers lost moves
        → slice_index (run_from O w moves).words n ≢ slice_index w.words n → Protects lock n
        → Holds O w.actors k lock → lost k ≡ false
    run_changes lost w moves k lock n law are others changed protects holds = by (lost k) refl where
      by : (is : Bool) → lost k ≡ is → lost k ≡ false
      by false other = other
      by true is = absurd (changed (run_spares lost w moves k lock n law are others is holds protects))

    pub run_holds : (lost : ℕ → Bool) (w : World O) (moves : List (Move Job)) (k : ℕ) (lock : Lock)
        → Lawful O w → AreMoves O moves → AreOfOthers lost moves → lost k ≡ true
        → Holds O w.actors k lock
        → Holds O (run_from O w moves).actors k lock
        × (holder_at O (run_from O w moves).words lock ≡ suc k)
    run_holds lost w moves k lock law are others is holds =
        let after = run_from O w moves in
        let still = holds_along k lock w after (run_stays lost w moves k others is) holds in
        (still, named after k lock (run_lawful O system w moves law are) still)

    pub run_alone : (lost : ℕ → Bool) (w : World O) (moves : List (Move Job)) (k j : ℕ)
        (lock : Lock) → Lawful O w → AreMoves O moves → AreOfOthers lost moves → lost k ≡ true
        → Holds O w.actors k lock → Holds O (run_from O w moves).actors j lock → j ≡ k
    run_alone lost w moves k j lock law are others is holds other =
        let after = run_from O w moves in
        one_holder after k j lock (run_lawful O system w moves law are)
        (run_holds lost w moves k lock law are others is holds).0 other

    pub run_requests : (lost : ℕ → Bool) (w : World O) (moves : List (Move Job)) (k : ℕ)
        (lock : Lock) → Lawful O w → AreMoves O moves → AreOfOthers lost moves → lost k ≡ true
        → O.IsLock lock → HasRequested O w.actors k lock
        → HasRequested O (run_from O w moves).actors k lock
        × (ShowsRequests O.sharing
        → O.sharing.requests k (word_at O (run_from O w moves).words lock) ≡ true)
    run_requests lost w moves k lock law are others is right asked =
        let after = run_from O w moves in
        let there = run_stays lost w moves k others is ∙ asked.does in
        let still : HasRequested O after.actors k lock = record {
          number = asked.number;
          attempt = asked.attempt;
          does = there;
          requests = asked.requests;
        } in
        let law_after = run_lawful O system w moves law are in
        let few = few_actors O after law_after k (Does asked.number asked.attempt) there in
        (still, λ shows. ((law_after.shared lock right).requested k few).shown shows still)
