-- chains of a desk's steps are bounded
use Rattle.std.proofs.Common.{◌≡◌, ◌≢◌, ◌⊎◌, ℕ, zero, suc, ◌+◌, ◌≤◌, ◌<◌, true, List, [], ◌∷◌, length, inl, inr, refl, sym, ap, ◌∙◌, subst, arith, Bool, false}
use Rattle.std.proofs.Common.{None}
use mathlib.Core.Option.{some}
use lib.ListN.{get_elem?}
use Rattle.turns.specs.{System.System, Attempt.{AttemptOf, IsAnswer, act, act_in, answer_to, asked_in, change, next}, declared.act.Act.Act}
use Rattle.turns.specs.declared.{act.Act.TheVariants.{Finished, Request, Seize, Withdraw, Free, Test, Turn as TakesTurn, Make}, answer.Answer.Answer}
use Rattle.turns.specs.declared.{answer.Answer.TheVariants.{Asked, Seized, Value, Turn, Done}, phase.Phase.Phase}
use Rattle.turns.specs.declared.phase.Phase.TheVariants.{Requests, Seizes, Tests, Turns, Withdraws, GivesBack, Operates}
use Rattle.turns.specs.{World.{World, ActorOf, RecordOf, Idle, Does, place}, Law.{IsAvailable, Lawful}, Runs.{is_available, is_finished}}
use Rattle.turns.{specs.Bounds.{AreSteady, IsSteady}, proofs.{ExactWords.{answers_fit, closing_done, free_done, rest_or_not}, Settings.does_one}}
use Rattle.desks.specs.{Chains.MadeSteadily, Desks.{HasMade, asked_by}, Kept.number_found}

-- each step may have a steady answer
steady_request : (O : System) (asks : Bool) (lock : O.Lock) → O.sharing.asks ≡ asks
    → (answer : Answer) × IsAnswer O (Request lock) answer × IsSteady answer
steady_request O true lock is = (Asked 0, is, tt)
steady_request O false lock is = (Seized, is, tt)

steady_answer : (O : System) (step : Act O.Lock O.Effect) → step ≢ Finished
    → (answer : Answer) × IsAnswer O step answer × IsSteady answer
steady_answer O Finished acts = absurd (acts refl)
steady_answer O (Request lock) acts = steady_request O O.sharing.asks lock refl
steady_answer O (Seize lock expected) acts = (Seized, tt, tt)
steady_answer O (Withdraw lock) acts = (Done, tt, tt)
steady_answer O (Free lock) acts = (Done, tt, tt)
steady_answer O (Test word) acts = (Value 0, omega arith, tt)
steady_answer O TakesTurn acts = (Turn 0, tt, tt)
steady_answer O (Make effect) acts = (Done, tt, tt)

module _ (O : System) where
  -- an actor with nothing left to do is available
  available_is : (m : ActorOf O) → IsAvailable O m → is_available O m ≡ true
  available_is Idle rests = refl
  available_is (Does number a) rests = ap is_finished rests

  -- steady steps have steady answers, and more may follow
  record AreMade (count : ℕ) (a last : AttemptOf O) (extra : List Answer) : Type 0 where
    pub answers : List Answer
    pub long : length answers ≡ count + length extra
    pub steady : AreSteady O a answers

  record Leads (count : ℕ) (a : AttemptOf O) (after : ActorOf O) : Type 0 where
    pub number : ℕ
    pub last : AttemptOf O
    pub after_is : after ≡ Does number last
    pub more : (extra : List Answer) → AreSteady O last extra → AreMade count a last extra

  leads : (k count number : ℕ) (a : AttemptOf O) (after : ActorOf O)
      → MadeSteadily O k count (Does number a) after → Leads count a after
  leads k zero number a after made = record {
    number = number;
    last = a;
    after_is = made;
    more = λ extra steady. record { answers = extra; long = omega arith; steady = steady };
  }
  leads k (suc count) number a after made =
      let answer = made.3 in
      let step = made.4 in
      let same = does_one number step.number a step.attempt step.before_is in
      let found = number_found O step.world step.attempt in
      let rest = leads k count step.number (next O k step.attempt found) after
      (subst (λ (m : ActorOf O). MadeSteadily O k count m after) step.after_is made.6) in
      let fits = answers_fit O k (act step.attempt) found step.goes_on (step.lawful.are_words (place O (act step.attempt))) in
      let fit = subst (λ (told : Answer). IsAnswer O (act step.attempt) told) (sym step.answer_is) fits in
      record {
        number = rest.number;
        last = rest.last;
        after_is = rest.after_is;
        more = λ extra steady.
            let later = rest.more extra steady in
            let on = subst (λ (told : Answer). AreSteady O (change O step.attempt told) later.answers) (sym step.answer_is) later.steady in
            let whole : AreSteady O step.attempt (answer ∷ later.answers) = (fit, made.5, on) in
            let long = later.long in
            record {
              answers = answer ∷ later.answers;
              long = omega (arith, long);
              steady = subst (λ (b : AttemptOf O). AreSteady O b (answer ∷ later.answers)) (sym same) whole;
            };
      }

  -- if steady answers are bounded, so are steady steps, and after the most the job has ended
  pub steady_bounded : (k count number : ℕ) (a : AttemptOf O) (after : ActorOf O) (most : ℕ)
      → MadeSteadily O k count (Does number a) after
      → ((answers : List Answer) → AreSteady O a answers → length answers ≤ most)
      → (count ≤ most) × (count ≡ most → is_available O after ≡ true)
  steady_bounded k count number a after most made bounded = (
    (let whole = led.more [] tt in
        let few = bounded whole.answers whole.steady in
        let long = whole.long in omega (arith, few, long)),
    λ all. at all (rest_or_not (act led.last)),
  ) where
    led : Leads count a after
    led = leads k count number a after made

    at : count ≡ most → (act led.last ≡ Finished) ⊎ (act led.last ≢ Finished)
        → is_available O after ≡ true
    at all (inl rests) =
        ap (is_available O) led.after_is ∙ available_is (Does led.number led.last) rests
    at all (inr acts) =
        let one = steady_answer O (act led.last) acts in
        let whole = led.more (one.0 ∷ []) (one.1, one.2, tt) in
        let few = bounded whole.answers whole.steady in
        let long = whole.long in
        absurd (omega (arith, few, long, all))

  -- the same if they are bounded only in a lawful world, as each of its steps has one
  pub amid_bounded : (k count number : ℕ) (a : AttemptOf O) (after : ActorOf O) (most : ℕ)
      → 0 < most → MadeSteadily O k count (Does number a) after
      → ((w : World O) → Lawful O w → get_elem? w.actors k ≡ some (Does number a)
      → (answers : List Answer) → AreSteady O a answers → length answers ≤ most)
      → (count ≤ most) × (count ≡ most → is_available O after ≡ true)
  amid_bounded k zero number a after most positive made bounded =
      (omega arith, λ all. absurd (omega (arith, positive, all)))
  amid_bounded k (suc count) number a after most positive made bounded =
      let step = made.4 in
      steady_bounded k (suc count) number a after most made
      (bounded step.world step.lawful step.there)

  -- a step that asks for no lock is steady
  asks_steady : (k found : ℕ) (a : AttemptOf O) (phase : Phase O.Lock ℕ) → asked_in phase ≡ None
      → IsSteady (answer_to O k (act_in phase a) found)
  asks_steady k found a (Requests lock) none = absurd cc
  asks_steady k found a (Seizes lock expected) none = absurd cc
  asks_steady k found a (Tests word) none = tt
  asks_steady k found a Turns none = tt
  asks_steady k found a (Withdraws lock) none = tt
  asks_steady k found a GivesBack none = subst IsSteady (sym (free_done O k found a.held)) tt
  asks_steady k found a (Operates turn) none =
      subst IsSteady (sym (closing_done O k found a.effects a.held)) tt

  -- one chain of steady steps after another
  pub steady_both : (k count more : ℕ) (a b c : ActorOf O) → MadeSteadily O k count a b
      → MadeSteadily O k more b c → MadeSteadily O k (count + more) a c
  steady_both k zero more a b c one other =
      let e : more ≡ 0 + more = omega arith in
      let same = subst (λ (m : ActorOf O). MadeSteadily O k more m c) one other in
      subst (λ (n : ℕ). MadeSteadily O k n a c) e same
  steady_both k (suc count) more a b c one other =
      let e : suc (count + more) ≡ suc count + more = omega arith in
      let rest = steady_both k count more one.0 b c one.6 other in
      subst (λ (n : ℕ). MadeSteadily O k n a c) e (one.0, one.1, one.2, one.3, one.4, one.5, rest)

  pub run_steady : (k count : ℕ) (before after : ActorOf O) (seen seen_after : List (RecordOf O))
      → HasMade O k count before after seen seen_after → MadeSteadily O k count before after
  run_steady k zero before after seen seen_after made = made.0
  run_steady k (suc count) before after seen seen_after made =
      let step = made.5 in
      let none = subst (λ (m : ActorOf O). asked_by m ≡ None) step.before_is made.4 in
      let found = number_found O step.world step.attempt in
      let steady = subst IsSteady (sym step.answer_is) (asks_steady k found step.attempt step.attempt.phase none) in
      let e : count + 1 ≡ suc count = omega arith in
      let earlier = run_steady k count before made.0 seen made.1 made.3 in
      subst (λ (n : ℕ). MadeSteadily O k n before after) e
      (steady_both k count 1 before made.0 after earlier (after, made.1, seen_after, made.2, step, steady, refl))
