use Rattle.std.specs.Prelude.{List, [], ◌∷◌, ⊤}
use Rattle.turns.specs.Attempt.{IsAnswerTo, act, change}
use Rattle.turns.specs.declared.answer.Answer.{Answer}
use Rattle.xbar_plan.specs.Tables.{Tables}
use Rattle.attempts.specs.Counting as counting
use Rattle.xbar_jobs.specs.Attempt.{Attempt, Counted}
use Rattle.xbar_jobs.specs.Office.{office}

-- an attempt and its count after an answer to its next step
abbrev pub after_answer : Tables → Counted → Answer → Counted
after_answer plan p answer = counting.after_answer (office plan) p answer

-- an attempt and its count after several answers, each to the step that is next then
abbrev pub after_answers : Tables → Counted → List Answer → Counted
after_answers plan p answers = counting.after_answers (office plan) p answers

-- each of the answers is of the kind of the step that is next then
abbrev pub AreAnswers : Tables → Attempt → List Answer → Type 0
AreAnswers plan a [] = ⊤
AreAnswers plan a (answer ∷ answers) =
    IsAnswerTo (act a) answer × AreAnswers plan (change (office plan) a answer) answers
