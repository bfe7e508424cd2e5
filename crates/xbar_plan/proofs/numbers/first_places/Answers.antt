use Rattle.std.proofs.Common.{◌≡◌, ◌<◌, true, false, length, get_or, sym, ◌∙◌, ap, arith, Some, None, is_some, length-set}
use Rattle.{std.proofs.lemmas.List.get_or_read, xbar_plan.proofs.FirstPlaces.{placed, kept}}
use Rattle.xbar_plan.proofs.numbers.first_places.Goals.{then-number-count+then-is_none, else-number-count, else-number-count-via-then-number-count+else-is_none}
use Rattle.xbar_plan.proofs.numbers.first_places.Goals.{else-number-count-via-else-number-count}
use Rattle.xbar_plan.proofs.numbers.first_places.Goals as goal

pub loop-place-preserved : goal.loop-place-preserved
loop-place-preserved c =
    let size = c.loop-place.invariant.size in
    elim c.if-number-count.branch [
      | then-number-count+then-is_none w ↦
          let below = w.if-number-count.true in
          let fits : c.from-number.result < length c.loop-place.places.items = omega (arith, size, below) in
          let read = get_or_read c.loop-place.places.items c.from-number.result w.index.result.now fits w.index.ensures None in
          let free : is_some (get_or c.loop-place.places.items c.from-number.result None) ≡ false = ap is_some (sym read) ∙ w.if-is_none.ensures in
          rw w.places-is (record {
            size = length-set c.loop-place.places.items c.from-number.result (Some c.loop-place.place) ∙ size;
            first =
                placed c.loop-place.places.items c.args.numbers.now c.loop-place.place c.from-number.result c.args.count c.loop-place-test.true
                c.from-number.ensures size below free c.loop-place.invariant.first;
          })
      | else-number-count w ↦ rw w.places-is (record {
        size = size;
        first =
            kept c.loop-place.places.items c.args.numbers.now c.loop-place.place c.from-number.result c.args.count c.loop-place-test.true c.from-number.ensures
            (elim w.else-number-count.branch as (λ _. c.from-number.result < c.args.count → is_some (get_or c.loop-place.places.items c.from-number.result None)
            ≡ true) [
              | else-number-count-via-then-number-count+else-is_none v ↦ λ below.
                  let fits : c.from-number.result < length c.loop-place.places.items = omega (arith, size, below) in
                  let read = get_or_read c.loop-place.places.items c.from-number.result v.index.result.now fits v.index.ensures None in
                  ap is_some (sym read) ∙ v.if-is_none.ensures
              | else-number-count-via-else-number-count v ↦ λ below.
                  let past = v.if-number-count.false in
                  absurd (omega (arith, below, past))
            ])
            c.loop-place.invariant.first;
      })
    ]
