use Rattle.std.proofs.Common.{◌≡◌, ◌+◌, ℕ, List, suc, ap, arith, subst, sym, ◌∙◌, Some, slice_get}
use Rattle.turns.specs.{Attempt.change, System.system_of, declared.{answer.Answer.TheVariants.Value, reading.Reading.Reading}}
use Rattle.desks.specs.{Running.HasComeTo, Predictions.confirmed, Watching.watched_more}
use Rattle.desks.proofs.{RunningOn.{asks_none, comes_on, comes_once, goes_on, makes, next_guess, reads, works_on}, Seating.allows_seated, Watching.tells_on}
use Rattle.desks.proofs.predictions.test_predictions.Goals as goal

pub make-found-requires-clause-makes : goal.make-found-requires-clause-makes
make-found-requires-clause-makes g c =
    let O = system_of (g.F.Jobs.system c.args.setting.now) in
    let a = g.F.Jobs.attempt c.args.program.now in
    let predictions = g.F.Jobs.predictions_of c.args.program.now in
    let prediction = c.in-Some.prediction in
    let next =
    next_guess O a predictions c.loop-prediction.made prediction c.predictions-predictions.ensures.tests
    (subst (λ (l : List (Reading ℕ)). Some prediction ≡ slice_get l c.loop-prediction.made) c.predictions-predictions.ensures.predictions c.in-Some.ensures) in
    makes O c.args.actor (confirmed O a predictions c.loop-prediction.made) prediction.word next.tests next.there

pub make-found-requires-clause-allowed : goal.make-found-requires-clause-allowed
make-found-requires-clause-allowed g c i f at does =
    let O = system_of (g.F.Jobs.system c.args.setting.now) in
    let a = g.F.Jobs.attempt c.args.program.now in
    let predictions = g.F.Jobs.predictions_of c.args.program.now in
    let here = c.loop-prediction.invariant.at_work in
    allows_seated O (g.met.F.Jobs.is_system c.args.setting.now here.right)
    (λ w k number a law there. c.every_move_keeps_the_law.ensures.moves c.args.setting.now w k number a (g.met.F.Jobs.is_system c.args.setting.now here.right)
    law there)
    c.args.actor c.args.number (confirmed O a predictions c.loop-prediction.made) c.loop-prediction.seat.me here.seated c.args.shared.now.key.count _ _ i f at
    does

pub returns-then-found-prediction-clause-at_work : goal.returns-then-found-prediction-clause-at_work
returns-then-found-prediction-clause-at_work g c =
    let O = system_of (g.F.Jobs.system c.args.setting.now) in
    let a = g.F.Jobs.attempt c.args.program.now in
    let predictions = g.F.Jobs.predictions_of c.args.program.now in
    let prediction = c.in-Some.prediction in
    let next =
    next_guess O a predictions c.loop-prediction.made prediction c.predictions-predictions.ensures.tests
    (subst (λ (l : List (Reading ℕ)). Some prediction ≡ slice_get l c.loop-prediction.made) c.predictions-predictions.ensures.predictions c.in-Some.ensures) in
    let here = confirmed O a predictions c.loop-prediction.made in
    works_on O c.args.actor c.args.number here _ c.loop-prediction.seat.me c.make-found.new.seat.me c.make-found.result c.make-found.ensures.reported
    (reads O c.args.actor here prediction.word next.tests c.make-found.result)
    _ _ _ _ _ _ _ _ c.loop-prediction.invariant.at_work c.loop-prediction.invariant.at_work.valid c.make-found.ensures.same.0 c.make-found.ensures.same.2

pub returns-then-found-prediction-clause-goes_on : goal.returns-then-found-prediction-clause-goes_on
returns-then-found-prediction-clause-goes_on g c =
    let O = system_of (g.F.Jobs.system c.args.setting.now) in
    let prediction = c.in-Some.prediction in
    let next =
    next_guess O (g.F.Jobs.attempt c.args.program.now) (g.F.Jobs.predictions_of c.args.program.now) c.loop-prediction.made prediction
    c.predictions-predictions.ensures.tests (subst (λ (l : List (Reading ℕ)). Some prediction ≡ slice_get l c.loop-prediction.made)
    c.predictions-predictions.ensures.predictions c.in-Some.ensures) in
    (prediction.word, next.tests)

pub returns-then-found-prediction-clause-come : goal.returns-then-found-prediction-clause-come
returns-then-found-prediction-clause-come g c =
    let O = system_of (g.F.Jobs.system c.args.setting.now) in
    let a = g.F.Jobs.attempt c.args.program.now in
    let predictions = g.F.Jobs.predictions_of c.args.program.now in
    let prediction = c.in-Some.prediction in
    let made : ℕ = c.loop-prediction.made in
    let next =
    next_guess O a predictions made prediction c.predictions-predictions.ensures.tests
    (subst (λ (l : List (Reading ℕ)). Some prediction ≡ slice_get l made) c.predictions-predictions.ensures.predictions c.in-Some.ensures) in
    let here = confirmed O a predictions made in
    let one : made + 1 ≡ suc made = omega arith in
    subst (λ (n : ℕ). HasComeTo O c.args.actor c.args.number n a (change O here (Value c.make-found.result)) c.args.seat.now.me c.make-found.new.seat.me) one
    (comes_on O c.args.actor c.args.number made 1 a here _ c.args.seat.now.me c.loop-prediction.seat.me c.make-found.new.seat.me
    c.loop-prediction.invariant.come
    (comes_once O c.args.actor c.args.number here _ c.loop-prediction.seat.me c.make-found.new.seat.me c.make-found.result c.make-found.ensures.reported
    (reads O c.args.actor here prediction.word next.tests c.make-found.result) (asks_none O c.args.actor here prediction.word next.tests)
    (goes_on O c.args.actor here prediction.word next.tests)))

pub returns-then-found-prediction-clause-reported : goal.returns-then-found-prediction-clause-reported
returns-then-found-prediction-clause-reported g c =
    let made : ℕ = c.loop-prediction.made in
    let one : made + 1 ≡ suc made = omega arith in
    let before = g.W.Watch.steps_watched c.args.watch.now in
    subst (λ (n : ℕ). g.W.Watch.steps_watched c.make-found.new.watch ≡ watched_more n before) one
    (tells_on made 1 before _ _ c.loop-prediction.invariant.reported c.make-found.ensures.watched)

pub loop-prediction-preserved : goal.loop-prediction-preserved
loop-prediction-preserved g c =
    let O = system_of (g.F.Jobs.system c.args.setting.now) in
    let a = g.F.Jobs.attempt c.args.program.now in
    let predictions = g.F.Jobs.predictions_of c.args.program.now in
    let prediction = c.in-Some.prediction in
    let made : ℕ = c.loop-prediction.made in
    let next =
    next_guess O a predictions made prediction c.predictions-predictions.ensures.tests
    (subst (λ (l : List (Reading ℕ)). Some prediction ≡ slice_get l made) c.predictions-predictions.ensures.predictions c.in-Some.ensures) in
    let here = confirmed O a predictions made in
    let one : suc made ≡ made + 1 = omega arith in
    let found = c.make-found.result in
    let same = c.if-found-prediction.false in
    let is =
    sym (ap (λ (n : ℕ). confirmed O a predictions n) one) ∙ next.more ∙ ap (λ (v : ℕ). change O here (Value v)) (sym same)
    ∙ reads O c.args.actor here prediction.word next.tests found in
    record {
      at_work = works_on O c.args.actor c.args.number here _ c.loop-prediction.seat.me c.make-found.new.seat.me found c.make-found.ensures.reported is
          _ _ _ _ _ _ _ _ c.loop-prediction.invariant.at_work c.loop-prediction.invariant.at_work.valid c.make-found.ensures.same.0 c.make-found.ensures.same.2;
      come =
          comes_on O c.args.actor c.args.number made 1 a here _ c.args.seat.now.me c.loop-prediction.seat.me c.make-found.new.seat.me
          c.loop-prediction.invariant.come
          (comes_once O c.args.actor c.args.number here _ c.loop-prediction.seat.me c.make-found.new.seat.me found c.make-found.ensures.reported is
          (asks_none O c.args.actor here prediction.word next.tests) (goes_on O c.args.actor here prediction.word next.tests));
      reported = tells_on made 1 (g.W.Watch.steps_watched c.args.watch.now) _ _ c.loop-prediction.invariant.reported c.make-found.ensures.watched;
      within = omega (arith, next.within);
    }
