use Rattle.std.proofs.Common.{◌≡◌, refl, arith}
use Rattle.xbar_step_text.{specs.Shown.{is_shown, item_at, positions}, proofs.Listed.{all_shown, begins_list, next_shown}}
use Rattle.xbar_step_text.proofs.shown.add_items.Goals as goal

pub loop-position-init : goal.loop-position-init
loop-position-init c = begins_list (is_shown c.args.place c.args.word) (item_at c.args.place c.args.word) c.args.head.now c.args.separator.now _ _ _ refl refl

pub loop-position-preserved : goal.loop-position-preserved
loop-position-preserved c = next_shown _ _ _ _ _ _ _ _ c.loop-position.invariant _ _ c.in_ok-some.ensures.any c.in_ok-some.ensures.text

pub returns-clause-any : goal.returns-clause-any
returns-clause-any c =
    let value = c.positions-position-end.ensures.value in
    let all : c.loop-position.position ≡ positions c.args.place = omega (arith, value, c.loop-position-test.false, c.loop-position.auto.position-end) in
    (all_shown _ _ _ _ _ _ _ _ c.loop-position.invariant all).0

pub returns-clause-text : goal.returns-clause-text
returns-clause-text c =
    let value = c.positions-position-end.ensures.value in
    let all : c.loop-position.position ≡ positions c.args.place = omega (arith, value, c.loop-position-test.false, c.loop-position.auto.position-end) in
    (all_shown _ _ _ _ _ _ _ _ c.loop-position.invariant all).1
