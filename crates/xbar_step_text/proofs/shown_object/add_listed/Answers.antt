use Rattle.std.proofs.Common.{◌≡◌, [], refl, arith, codes}
use Rattle.xbar_step_text.{specs.{Objects.item_object, Shown.{is_shown, positions}}, proofs.Listed.{all_values, begins_list, one_listed}}
use Rattle.xbar_step_text.proofs.shown_object.add_listed.Goals as goal

pub loop-position-init : goal.loop-position-init
loop-position-init c = begins_list (is_shown c.args.place c.args.word) (item_object c.args.place c.args.word) [] (codes ",") _ _ _ refl refl

pub loop-position-preserved : goal.loop-position-preserved
loop-position-preserved c = one_listed _ _ _ _ _ _ _ _ c.loop-position.invariant _ _ c.in_ok-some.ensures.any c.in_ok-some.ensures.text

pub returns : goal.returns
returns c =
    let value = c.positions-position-end.ensures.value in
    let all : c.loop-position.position ≡ positions c.args.place = omega (arith, value, c.loop-position-test.false, c.loop-position.auto.position-end) in
    all_values _ _ _ _ _ _ (positions c.args.place) c.loop-position.invariant all
