use Rattle.std.proofs.Common.{rules, ◌<◌, ◌≡◌, ℕ, true, false, length, take, get_or, sym, ◌∙◌, ap, arith, nat_eq, length-set, Some, is_some, position}
use Rattle.std.{specs.List.list_any, proofs.lemmas.{List.get_or_read, Grind.get_or_default_zero}}
use Rattle.xbar_plan.proofs.{Marks.marks_more, Repeats.{nat_eq-is, nat_eq-itself, nat_eq-turned, some_position, repeats, apart_more, twice}}
use Rattle.xbar_plan.proofs.lawful.distinct.first_repeat.Goals as goal

pub unwrap-earlier-requires : goal.unwrap-earlier-requires
unwrap-earlier-requires c =
    let size = c.loop-item.invariant.size in
    let fits = c.type_inv.numbers c.loop-item.item in
    let number = c.from-index.ensures in
    let there : c.from-index.result < length c.loop-item.seen.items = omega (arith, size, fits, number) in
    let read = get_or_read c.loop-item.seen.items c.from-index.result c.index.result.now there c.index.ensures false in
    let seen = sym (c.loop-item.invariant.marks c.from-index.result) ∙ sym read ∙ c.if-index.true in
    let first : c.first_of.result ≡ position (λ n. nat_eq n (get_or c.args.numbers.now c.loop-item.item 0)) (take c.loop-item.item c.args.numbers.now) =
    c.first_of.ensures in
    ap is_some first
    ∙ some_position (λ n. nat_eq n (get_or c.args.numbers.now c.loop-item.item 0)) (take c.loop-item.item c.args.numbers.now)
    (ap (λ (x : ℕ). list_any (λ n. nat_eq n x) (take c.loop-item.item c.args.numbers.now)) (sym number) ∙ seen)

pub returns-then-index-clause-distinct : goal.returns-then-index-clause-distinct
returns-then-index-clause-distinct c =
    let size = c.loop-item.invariant.size in
    let fits = c.type_inv.numbers c.loop-item.item in
    let number = c.from-index.ensures in
    let there : c.from-index.result < length c.loop-item.seen.items = omega (arith, size, fits, number) in
    let read = get_or_read c.loop-item.seen.items c.from-index.result c.index.result.now there c.index.ensures false in
    let seen = sym (c.loop-item.invariant.marks c.from-index.result) ∙ sym read ∙ c.if-index.true in
    sym (twice nat_eq nat_eq-itself nat_eq-turned c.args.numbers.now c.loop-item.item 0 c.from-index.result c.loop-item-test.true number seen)

pub returns-then-index-clause-repeat : goal.returns-then-index-clause-repeat
returns-then-index-clause-repeat c =
    let first : c.first_of.result ≡ position (λ n. nat_eq n (get_or c.args.numbers.now c.loop-item.item 0)) (take c.loop-item.item c.args.numbers.now) =
    c.first_of.ensures in
    let found : c.first_of.result ≡ Some c.unwrap-earlier.result = search rules in
    let number = sym (get_or_default_zero c.args.numbers.now c.loop-item.item (get_or c.args.numbers.now c.loop-item.item 0) c.loop-item-test.true) in
    repeats nat_eq nat_eq-is c.args.numbers.now c.loop-item.item c.unwrap-earlier.result (get_or c.args.numbers.now c.loop-item.item 0) c.loop-item-test.true
    number (sym first ∙ found)

pub loop-item-preserved : goal.loop-item-preserved
loop-item-preserved c =
    let size = c.loop-item.invariant.size in
    let fits = c.type_inv.numbers c.loop-item.item in
    let number = c.from-index.ensures in
    let there : c.from-index.result < length c.loop-item.seen.items = omega (arith, size, fits, number) in
    let read = get_or_read c.loop-item.seen.items c.from-index.result c.index.result.now there c.index.ensures false in
    let new = sym (c.loop-item.invariant.marks c.from-index.result) ∙ sym read ∙ c.if-index.false in
    record {
      size = length-set c.loop-item.seen.items c.from-index.result true ∙ size;
      marks = marks_more c.loop-item.seen.items c.args.numbers.now c.loop-item.item c.from-index.result c.loop-item-test.true number there c.loop-item.invariant.marks;
      apart = apart_more nat_eq nat_eq-itself nat_eq-turned c.args.numbers.now c.loop-item.item 0 c.from-index.result c.loop-item-test.true number c.loop-item.invariant.apart new;
    }
