use Rattle.std.proofs.Common.{◌≡◌, ◌++◌, ◌∙◌, ap, arith, ◌||◌, [], codes, nat_lt, slice_index, string_bytes, if◌then◌else◌}
use Rattle.{xbar_look.{specs.Look.shown_objects, proofs.Told.{all_told, next_told, none_told}}, xbar_step_text.specs.Objects.shown_object}
use Rattle.xbar_look.proofs.shown.add_listed_shown.Goals as goal

pub loop-number-init : goal.loop-number-init
loop-number-init c = none_told (string_bytes c.args.text.now)

pub loop-number-preserved : goal.loop-number-preserved
loop-number-preserved c =
    let words = c.args.words.now in
    let number = c.loop-number.number in
    next_told (λ n. nat_lt 0 (slice_index words n)) (λ n. shown_object n (slice_index words n)) number _ _ _ c.loop-number.invariant _ _
    (c.in_ok-some.ensures.any ∙ ap (λ n. c.loop-number.any || nat_lt 0 (slice_index words n)) c.from.ensures)
    (c.in_ok-some.ensures.text
    ∙ ap (λ n. string_bytes c.loop-number.text
    ++ (if nat_lt 0 (slice_index words n) then (if c.loop-number.any then codes "," else []) ++ shown_object number (slice_index words n) else []))
    c.from.ensures)

pub returns : goal.returns
unfolding shown_objects
returns c =
    let all : c.loop-number.number ≡ 416 = omega (arith, c.loop-number-test.false, c.loop-number.auto.number-end) in
    all_told (λ n. nat_lt 0 (slice_index c.args.words.now n)) (λ n. shown_object n (slice_index c.args.words.now n)) c.loop-number.number _ _ _
    c.loop-number.invariant 416 all
