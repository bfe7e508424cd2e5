use Rattle.std.proofs.Common.{◌++◌, ◌∷◌}
use Rattle.xbar_report.proofs.reading.three_fields.Goals as goal

pub returns-in_err-one : goal.returns-in_err-one
returns-in_err-one c one two three rest lacks more most e =
    absurd (c.in_err-one.ensures.first one (two ++ 44 ∷ (three ++ 44 ∷ rest)) lacks e)

pub returns-in_err-two : goal.returns-in_err-two
returns-in_err-two c one two three rest lacks more most e =
    let at_one = c.in_ok-one.ensures.first one (two ++ 44 ∷ (three ++ 44 ∷ rest)) lacks e in
    absurd (c.in_err-two.ensures.first two (three ++ 44 ∷ rest) more at_one.1)

pub returns-in_err-three : goal.returns-in_err-three
returns-in_err-three c one two three rest lacks more most e =
    let at_one = c.in_ok-one.ensures.first one (two ++ 44 ∷ (three ++ 44 ∷ rest)) lacks e in
    let at_two = c.in_ok-two.ensures.first two (three ++ 44 ∷ rest) more at_one.1 in
    absurd (c.in_err-three.ensures.first three rest most at_two.1)

pub returns : goal.returns
returns c one two three rest lacks more most e =
    let at_one = c.in_ok-one.ensures.first one (two ++ 44 ∷ (three ++ 44 ∷ rest)) lacks e in
    let at_two = c.in_ok-two.ensures.first two (three ++ 44 ∷ rest) more at_one.1 in
    let at_three = c.in_ok-three.ensures.first three rest most at_two.1 in
    (at_one.0, at_two.0, at_three.0, at_three.1)
