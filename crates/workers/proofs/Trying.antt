-- tries at a job, one after another
use Rattle.std.proofs.Common.{◌≡◌, ◌≢◌, ℕ, zero, suc, ◌+◌, ◌≤◌, ◌^◌, ◌++◌, List, [], ◌∷◌, length, refl, sym, ap, subst, ◌∙◌, inl, inr, arith, Bool, true, false}
use Rattle.std.proofs.Common.{Option, Some, None, OnOk, Result, Ok, Err, is_err, option_map, ◌⊎◌}
use Rattle.turns.specs.Attempt.{AttemptOf, act, act_in, answer_to, asked_in, begin, changed, closing_act, free_act, next, operated, rest_of}
use Rattle.turns.specs.{Denied.IsDeniedBy, Outcomes.{IsPastTurn, given_back}, Runs.{is_available, is_finished}, System.System}
use Rattle.turns.specs.{World.{ActorOf, Does, Idle, RecordOf}, declared.act.Act.{Act, TheVariants.{Finished, Request, Seize, Withdraw, Free, Test, Turn, Make}}}
use Rattle.turns.specs.declared.{answer.Answer.{Answer, TheVariants.{Done, Held, Preferred}}, judgement.Judgement.Judgement, phase.Phase.Phase}
use Rattle.turns.specs.declared.phase.Phase.TheVariants.{Requests, Seizes, Tests, Turns, Withdraws, GivesBack, Operates}
use Rattle.desks.specs.{Desks.{HasGivenBack, HasStepped, asked_by}, Kept.number_found, Met.DeskOf, Running.{IsOperating, NothingLeftPastTurn}}
use Rattle.workers.specs.Tries.{HasCome, HasGoneOnFreely, HasMissed, HasDone, HasGivenUp, HasGoneOn, HasLogged, HasPersisted, HasTried, HasTriedInVain}
use Rattle.workers.specs.{Tries.{IsAtBeginning, IsStuck, IsTry, MakesUpTo, Reported, denies, record_of}, Workers.HasFinished}
use Rattle.turns.specs.declared.judgement.Judgement.TheVariants as judgement
use Rattle.desks.specs.declared.progress.Progress.TheVariants as progress

pub not_both : (b : Bool) → b ≡ true → b ≡ false → ⊥
not_both b one other = absurd cc

pub on_ok : {T E : Type 0} (r : Result T E) (P : Type 0) → is_err r ≡ false → OnOk r P → P
on_ok (Ok x) P not_err holds = holds
on_ok (Err e) P not_err holds = absurd cc

module _ (O : System) where
  abbrev Order : Type 0
  Order = List (RecordOf O)

  -- one step more of a job that goes on
  pub gone_more : {Setting : Type 0} (count : ℕ) (desk between after : DeskOf O Setting) (answer : Answer) → HasGoneOn O count desk between
      → HasCome O between after (progress.Moved answer) → HasGoneOn O (count + 1) desk after
  gone_more {Setting} count desk between after answer gone came =
      let one : suc count ≡ count + 1 = omega arith in
      subst (λ (n : ℕ). HasGoneOn O n desk after) one (between, answer, gone, came)

  -- an idle desk that is asked for steps stays as it is
  pub idle_still : {Setting : Type 0} (count most : ℕ) (desk between after : DeskOf O Setting) → HasGoneOn O count desk between
      → HasCome O between after progress.Idle → MakesUpTo O most desk after None
  idle_still {Setting} zero most desk between after gone came =
      inr (
        subst (λ (d : DeskOf O Setting). is_available O d.actor ≡ true) gone came.advanced.0,
        came.same ∙ (λ i. record between { actor = came.advanced.1 i; seen = came.advanced.2 i }) ∙ gone,
      )
  idle_still (suc count) most desk between after gone came = absurd (not_both _ came.advanced.0 gone.3.advanced.1)

  -- a desk whose job was under way still has it after steps that did not end it
  pub busy_after : {Setting : Type 0} (most : ℕ) (desk after : DeskOf O Setting) → is_available O desk.actor ≡ false → MakesUpTo O most desk after None
      → is_available O after.actor ≡ false
  busy_after {Setting} zero desk after busy (inl gone) = subst (λ (d : DeskOf O Setting). is_available O d.actor ≡ false) (sym gone) busy
  busy_after (suc most) desk after busy (inl gone) = gone.3.advanced.1
  busy_after most desk after busy (inr idle) = absurd (not_both _ idle.0 busy)

  -- how many steps an actor has left past its turn
  abbrev pub left_past_turn : ActorOf O → ℕ
  left_past_turn Idle = 0
  left_past_turn (Does number a) = length a.effects + length a.held

  pub is_unfinished : (step : Act O.Lock O.Effect) → step ≢ Finished → is_finished step ≡ false
  is_unfinished Finished some = absurd (some refl)
  is_unfinished (Request lock) some = refl
  is_unfinished (Seize lock expected) some = refl
  is_unfinished (Withdraw lock) some = refl
  is_unfinished (Free lock) some = refl
  is_unfinished (Test word) some = refl
  is_unfinished Turn some = refl
  is_unfinished (Make effect) some = refl

  goes_on : (step : Act O.Lock O.Effect) → is_finished step ≡ false → step ≢ Finished
  goes_on step unfinished e = not_both (is_finished step) (ap is_finished e) unfinished

  -- an actor with steps past its turn is not available
  pub operating_busy : (m : ActorOf O) → IsOperating m → is_available O m ≡ false
  operating_busy Idle operates = absurd operates
  operating_busy (Does number a) operates = is_unfinished (act a) operates.1

  -- an actor with steps past its turn has something left
  pub operating_left : (m : ActorOf O) → IsOperating m → NothingLeftPastTurn m → ⊥
  operating_left Idle operates nothing = operates
  operating_left (Does number a) operates nothing = operates.1 (nothing operates.0)

  -- past the turn the answer to a step is Done, whatever the step finds
  answer_closing : (k : ℕ) (effects : List O.Effect) (held : List O.Lock) (found : ℕ) → answer_to O k (closing_act effects held) found ≡ Done
  answer_closing k [] [] found = refl
  answer_closing k [] (lock ∷ held) found = refl
  answer_closing k (effect ∷ effects) held found = refl

  rest_shorter : (held : List O.Lock) → free_act {Lock = O.Lock} {Effect = O.Effect} held ≢ Finished → suc (length (rest_of held)) ≤ length held
  rest_shorter [] some = absurd (some refl)
  rest_shorter (lock ∷ held) some = omega arith

  -- a step past the turn, by the attempt after it
  record Operated (turn : ℕ) (a b : AttemptOf O) : Type 0 where
    pub phase : b.phase ≡ Operates turn
    pub fewer : suc (length b.effects + length b.held) ≤ length a.effects + length a.held

  operated_so : (turn : ℕ) (a : AttemptOf O) (effects : List O.Effect) → a.phase ≡ Operates turn → a.effects ≡ effects → closing_act effects a.held ≢ Finished
      → Operated turn a (operated a effects)
  operated_so turn a [] past is some =
      let shorter = rest_shorter a.held some in
      record { phase = past; fewer = omega (arith, shorter) }
  operated_so turn a (effect ∷ effects) past is some =
      let all = ap length is in
      record { phase = past; fewer = omega (arith, all) }

  next_past_turn : (k found turn : ℕ) (a : AttemptOf O) → a.phase ≡ Operates turn → act a ≢ Finished → Operated turn a (next O k a found)
  next_past_turn k found turn a past some =
      let closes : operated a a.effects ≡ next O k a found =
      sym (ap (λ (phase : Phase O.Lock ℕ). changed O a phase (answer_to O k (act_in phase a) found)) past
      ∙ ap (changed O a (Operates turn)) (answer_closing k a.effects a.held found)) in
      subst (Operated turn a) closes (operated_so turn a a.effects past refl (subst (λ (phase : Phase O.Lock ℕ). act_in phase a ≢ Finished) past some))

  same_attempt : (number other : ℕ) (a b : AttemptOf O) → ◌≡◌ {A = ActorOf O} (Does number a) (Does other b) → a ≡ b
  same_attempt number other a b is = cc

  -- a step past the turn leaves fewer steps; and if it is not the job's last, the actor has some left
  pub record StepsOn (m after : ActorOf O) : Type 0 where
    pub fewer : suc (left_past_turn after) ≤ left_past_turn m
    pub operates : is_available O after ≡ false → IsOperating after

  pub steps_on : (k : ℕ) (m after : ActorOf O) (seen seen_after : Order) (answer : Answer) → IsOperating m → HasStepped O k m after seen seen_after answer
      → StepsOn m after
  steps_on k Idle after seen seen_after answer operates stepped = absurd operates
  steps_on k (Does number a) after seen seen_after answer operates stepped =
      let same = same_attempt number stepped.number a stepped.attempt stepped.before_is in
      let found = number_found O stepped.world stepped.attempt in
      let b : AttemptOf O = next O k a found in
      let to : Operated operates.0.0 a b = next_past_turn k found operates.0.0 a operates.0.1 operates.1 in
      let after_is : after ≡ Does stepped.number b = stepped.after_is ∙ ap (λ (x : AttemptOf O). Does stepped.number (next O k x found)) (sym same) in
      subst (StepsOn (Does number a)) (sym after_is) (record {
        fewer = to.fewer;
        operates = λ busy. ((operates.0.0, to.phase), goes_on (act b) busy);
      })

  begins_busy : (a : AttemptOf O) → a ≡ begin O a.job → is_available O (Does 0 a) ≡ false
  begins_busy a is = subst (λ (x : AttemptOf O). is_finished (act x) ≡ false) (sym is) refl

  -- a job at its beginning has not ended
  pub beginning_busy : (m : ActorOf O) → IsAtBeginning O m → is_available O m ≡ false
  beginning_busy Idle is = absurd is
  beginning_busy (Does number a) is = begins_busy a is

  at_beginning : (number : ℕ) (a : AttemptOf O) (phase : Phase O.Lock ℕ) → a.phase ≡ phase → (IsPastTurn phase → ⊥)
      → IsAtBeginning O (Does number (given_back O phase a))
  at_beginning number a (Requests lock) is before = refl
  at_beginning number a (Seizes lock expected) is before = refl
  at_beginning number a (Tests word) is before = refl
  at_beginning number a Turns is before = refl
  at_beginning number a (Withdraws lock) is before = refl
  at_beginning number a GivesBack is before = refl
  at_beginning number a (Operates turn) is before = absurd (before (turn, refl))

  -- a job that is not past its turn is at its beginning once its desk has given back
  pub gave_back : (k : ℕ) (m after : ActorOf O) (seen seen_after : Order) → is_available O m ≡ false → NothingLeftPastTurn m
      → HasGivenBack O k m after seen seen_after → IsAtBeginning O after
  gave_back k Idle after seen seen_after busy nothing back = absurd cc
  gave_back k (Does number a) after seen seen_after busy nothing back =
      subst (IsAtBeginning O) (sym back.after_is) (at_beginning number a a.phase refl (λ past. goes_on (act a) busy (nothing past)))

  -- a step that asks for a lock is that of a phase that does
  frees_none : (held : List O.Lock) (lock : O.Lock) → free_act {Effect = O.Effect} held ≡ Request lock → ⊥
  frees_none [] lock e = cc
  frees_none (own ∷ held) lock e = cc

  frees_none_seized : (held : List O.Lock) (lock : O.Lock) (expected : ℕ) → free_act {Effect = O.Effect} held ≡ Seize lock expected → ⊥
  frees_none_seized [] lock expected e = cc
  frees_none_seized (own ∷ held) lock expected e = cc

  requests_in : (a : AttemptOf O) (phase : Phase O.Lock ℕ) (lock : O.Lock) → act_in phase a ≡ Request lock → asked_in phase ≡ Some lock
  requests_in a (Requests own) lock e = cc
  requests_in a (Seizes own expected) lock e = cc
  requests_in a (Tests word) lock e = cc
  requests_in a Turns lock e = cc
  requests_in a (Withdraws own) lock e = cc
  requests_in a GivesBack lock e = absurd (frees_none a.held lock e)
  requests_in a (Operates turn) lock e = at a.effects e where
    at : (effects : List O.Effect) → closing_act effects a.held ≡ Request lock → asked_in {Lock = O.Lock} (Operates turn) ≡ Some lock
    at [] e = absurd (frees_none a.held lock e)
    at (effect ∷ effects) e = absurd cc

  seizes_in : (a : AttemptOf O) (phase : Phase O.Lock ℕ) (lock : O.Lock) (expected : ℕ) → act_in phase a ≡ Seize lock expected → asked_in phase ≡ Some lock
  seizes_in a (Requests own) lock expected e = cc
  seizes_in a (Seizes own other) lock expected e = cc
  seizes_in a (Tests word) lock expected e = cc
  seizes_in a Turns lock expected e = cc
  seizes_in a (Withdraws own) lock expected e = cc
  seizes_in a GivesBack lock expected e = absurd (frees_none_seized a.held lock expected e)
  seizes_in a (Operates turn) lock expected e = at a.effects e where
    at : (effects : List O.Effect) → closing_act effects a.held ≡ Seize lock expected → asked_in {Lock = O.Lock} (Operates turn) ≡ Some lock
    at [] e = absurd (frees_none_seized a.held lock expected e)
    at (effect ∷ effects) e = absurd cc

  -- so the desk that was denied had asked for this lock
  pub asked_by_step : (k found : ℕ) (a : AttemptOf O) (judgement : Judgement) → (denial : IsDeniedBy O k (act a) found judgement)
      → asked_in a.phase ≡ Some denial.lock
  asked_by_step k found a judgement denial = elim denial.asks [
    | inl asks ↦ requests_in a a.phase denial.lock asks
    | inr (expected, seizes, other) ↦ seizes_in a a.phase denial.lock expected seizes
  ]

  -- a denial names the lock that the desk asked for
  module _ {Setting : Type 0} (patience count : ℕ) (desk asking after : DeskOf O Setting) (word : Option ℕ)
      (is : word ≡ option_map O.lock_word (asked_by asking.actor)) (gone : HasGoneOnFreely O count desk asking) where
    abbrev SteppedWith : Answer → Type 0
    SteppedWith answer = HasStepped O asking.number asking.actor after.actor asking.seen after.seen answer

    abbrev DeniesBy : (answer : Answer) → Judgement → Type 0
    DeniesBy answer judgement = (step : SteppedWith answer) → IsDeniedBy O asking.number (act step.attempt) (number_found O step.world step.attempt) judgement

    named : (answer : Answer) (judgement : Judgement) → HasCome O asking after (progress.Moved answer) → denies answer ≡ true → DeniesBy answer judgement
        → HasMissed O patience desk after word
    named answer judgement came denied by =
        let step = came.advanced.0 in
        let denial = by step in
        let asks : asked_by asking.actor ≡ Some denial.lock =
        ap asked_by step.before_is ∙ asked_by_step asking.number (number_found O step.world step.attempt) step.attempt judgement denial in
        subst (HasMissed O patience desk after) (sym (is ∙ ap (option_map O.lock_word) asks)) (record {
          count = count;
          asking = asking;
          gone_on = gone;
          lock = denial.lock;
          asks = asks;
          word_is = refl;
          answer = answer;
          came = came;
          is_denial = denied;
        })

    pub denied_by : (answer : Answer) → HasCome O asking after (progress.Moved answer) → denies answer ≡ true
        → ((holder : ℕ) → DeniesBy (Held holder) (judgement.Held holder)) → ((other : ℕ) → DeniesBy (Preferred other) (judgement.Preferred other))
        → HasMissed O patience desk after word
    denied_by (Held holder) came denied held preferred = named (Held holder) (judgement.Held holder) came denied (held holder)
    denied_by (Preferred other) came denied held preferred = named (Preferred other) (judgement.Preferred other) came denied (preferred other)
    denied_by answer came denied held preferred = absurd cc

  -- one step more that was denied none
  pub freely_more : {Setting : Type 0} (count : ℕ) (desk between after : DeskOf O Setting) (answer : Answer) → HasGoneOnFreely O count desk between
      → HasCome O between after (progress.Moved answer) → denies answer ≡ false → HasGoneOnFreely O (count + 1) desk after
  freely_more {Setting} count desk between after answer gone came free =
      let one : suc count ≡ count + 1 = omega arith in
      subst (λ (n : ℕ). HasGoneOnFreely O n desk after) one (between, answer, gone, came, free)

  pub tried_finished : {Setting : Type 0} (patience : ℕ) (desk after : DeskOf O Setting) (came : Result (Reported O) (Option ℕ))
      → IsTry O patience desk after came → HasFinished O desk after (record_of came)
  tried_finished patience desk after (Ok reported) is = is.0
  tried_finished patience desk after (Err denied) is = is.finished

  module _ (Answers : ℕ → Option ℕ → Bool → Type 0) (patience : ℕ) where
    -- one more try in vain
    pub tried_more : {Setting : Type 0} (made : ℕ) (desk between after : DeskOf O Setting) (denied : Option ℕ)
        → HasTriedInVain O Answers patience made desk between → IsTry O patience between after (Err denied) → Answers (suc made) denied true
        → HasTriedInVain O Answers patience (suc made) desk after
    tried_more made desk between after denied tried one again = (between, denied, tried, one, again)

    -- one more try, which ended the job
    pub tried_well : {Setting : Type 0} (made : ℕ) (desk between after : DeskOf O Setting) (reported : Reported O)
        → HasTriedInVain O Answers patience made desk between → IsTry O patience between after (Ok reported)
        → HasTried O Answers patience desk after (Some reported)
    tried_well made desk between after reported tried one = record {
      made = made;
      between = between;
      in_vain = tried;
      last = one;
    }

    -- one more try in vain, after which there is no further one
    pub tried_last : {Setting : Type 0} (made : ℕ) (desk between after : DeskOf O Setting) (denied : Option ℕ)
        → HasTriedInVain O Answers patience made desk between → IsTry O patience between after (Err denied) → Answers (suc made) denied false
        → HasTried O Answers patience desk after None
    tried_last made desk between after denied tried one no_more = record {
      made = made;
      between = between;
      in_vain = tried;
      denied = denied;
      last = one;
      gave_up = inl no_more;
    }

    -- as many tries were made in vain as can be counted
    pub tried_all : {Setting : Type 0} (made : ℕ) (desk after : DeskOf O Setting) → made + 2 ≡ 2 ^ 64 → HasTriedInVain O Answers patience made desk after
        → HasTried O Answers patience desk after None
    tried_all zero desk after all tried = absurd (omega (arith, all))
    tried_all (suc made) desk after all tried = record {
      made = made;
      between = tried.0;
      in_vain = tried.2;
      denied = tried.1;
      last = tried.3;
      gave_up = inr all;
    }

    -- after tries in vain there is no further one
    pub gives_up : {Setting : Type 0} (desk after : DeskOf O Setting) → HasTried O Answers patience desk after None → HasGivenUp O Answers after.actor
    gives_up desk after tried = record {
      beginning = tried.last.beginning;
      made = suc tried.made;
      denied = tried.denied;
      last = tried.gave_up;
    }

  module _ (Answers : ℕ → Option ℕ → Bool → Type 0) (Patience : ℕ → ℕ → Type 0) where
    -- a free desk that was given a job, and persisted in it, has done it
    pub done_free : {Setting : Type 0} (desk begun after : DeskOf O Setting) (number : ℕ) (job : O.Job) (result : Option (Reported O))
        → is_available O desk.actor ≡ true → begun ≡ record desk { actor = Does number (begin O job) } → HasPersisted O Answers Patience begun after result
        → HasDone O Answers Patience desk after number job result
    done_free {Setting} desk begun after number job result free is persisted = record {
      busy = λ busy. absurd (not_both _ free busy);
      tried = λ free.
          let tried = persisted.tried (subst (λ (d : DeskOf O Setting). is_available O d.actor ≡ false) (sym is) refl) in (
            tried.0,
            subst (λ (d : DeskOf O Setting). Patience d.number tried.0) is tried.1,
            subst (λ (d : DeskOf O Setting). HasTried O Answers tried.0 d after result) is tried.2,
          );
    }

    -- what a worker came to at a free desk's new job was logged
    pub logged_done : {Setting : Type 0} (desk begun after : DeskOf O Setting) (number : ℕ) (job : O.Job) (HadNoRoom NoRoom : Type 0)
        (log between log_after : List (Reported O)) (result : Bool) → is_available O desk.actor ≡ true → begun
        ≡ record desk { actor = Does number (begin O job) } → (NoRoom → ⊥) → between ≡ log
        → HasLogged O (HasPersisted O Answers Patience begun after) NoRoom between log_after result
        → HasLogged O (HasDone O Answers Patience desk after number job) HadNoRoom log log_after result
    logged_done desk begun after number job HadNoRoom NoRoom log between log_after true free is room same logged =
        (logged.0, logged.1 ∙ ap (λ (l : List (Reported O)). l ++ logged.0 ∷ []) same, done_free desk begun after number job (Some logged.0) free is logged.2)
    logged_done desk begun after number job HadNoRoom NoRoom log between log_after false free is room same logged = (logged.0 ∙ same, by logged.1) where
      by : HasPersisted O Answers Patience begun after None ⊎ NoRoom → HasDone O Answers Patience desk after number job None ⊎ HadNoRoom
      by (inl persisted) = inl (done_free desk begun after number job None free is persisted)
      by (inr full) = absurd (room full)

    -- a worker whose desk was free has logged its job, and the desk is free again
    pub logged_free : {Setting : Type 0} (desk after : DeskOf O Setting) (number : ℕ) (job : O.Job) (HadNoRoom : Type 0) (log log_after : List (Reported O))
        (result : Bool) → is_available O desk.actor ≡ true → result
        ≡ true → HasLogged O (HasDone O Answers Patience desk after number job) HadNoRoom log log_after result → is_available O after.actor ≡ true
    logged_free desk after number job HadNoRoom log log_after true free yes_logged logged = (logged.2.tried free).2.last.1
    logged_free desk after number job HadNoRoom log log_after false free yes_logged logged = absurd cc

    -- or it is stuck
    pub logged_stuck : {Setting : Type 0} (desk after : DeskOf O Setting) (number : ℕ) (job : O.Job) (len capacity : ℕ) (HadNoRoom : Type 0)
        (log log_after : List (Reported O)) (result : Bool) → is_available O desk.actor ≡ true → result
        ≡ false → (log_after ≡ log → HadNoRoom → len ≡ capacity) → HasLogged O (HasDone O Answers Patience desk after number job) HadNoRoom log log_after result
        → IsStuck O Answers len capacity after.actor
    logged_stuck desk after number job len capacity HadNoRoom log log_after true free not_logged full logged = absurd cc
    logged_stuck desk after number job len capacity HadNoRoom log log_after false free not_logged full logged = by logged.1 where
      by : HasDone O Answers Patience desk after number job None ⊎ HadNoRoom → IsStuck O Answers len capacity after.actor
      by (inl done) = inr (let tried = done.tried free in gives_up Answers tried.0 _ after tried.2)
      by (inr none) = inl (full logged.0 none)
