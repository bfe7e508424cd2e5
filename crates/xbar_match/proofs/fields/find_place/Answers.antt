use Rattle.std.proofs.Common.{ℕ, ◌+◌, ◌==◌, sym, ◌∙◌, arith, eq-eqb}
use Rattle.{xbar_equip.proofs.FirstNumber.{first_below-found, first_below-none}, xbar_switch.specs.Field.field_of}
use Rattle.xbar_match.proofs.fields.find_place.Goals as goal

pub returns-then-field-place-clause-least : goal.returns-then-field-place-clause-least
returns-then-field-place-clause-least c =
    let test = λ (v : ℕ). field_of c.args.shape c.args.word v == 1 + c.args.place in
    sym (first_below-found test 10 c.loop-v.v c.loop-v-test.true (eq-eqb _ _ (sym c.field.ensures.value ∙ c.if-field-place.true)) c.loop-v.invariant)

pub returns-clause-least : goal.returns-clause-least
returns-clause-least c =
    let test = λ (v : ℕ). field_of c.args.shape c.args.word v == 1 + c.args.place in
    sym (first_below-none test 10 (λ j below. c.loop-v.invariant j (omega arith)))
