use Rattle.std.proofs.Common.{◌++◌, ◌==◌, append_assoc, codes}
use Rattle.xbar_office_text.{specs.CardRows.mark, proofs.Ranges.flat_map_range_more}
use Rattle.xbar_office_text.proofs.card_rows.add_ten_places.Goals as goal

pub loop-place-preserved : goal.loop-place-preserved
loop-place-preserved c =
    rw (
      c.in_ok-push_str-2.ensures.bytes,
      c.mark.ensures,
      c.in_ok-push_str.ensures.bytes,
      c.loop-place.invariant,
      flat_map_range_more (λ place. codes " " ++ mark (place == c.args.digit)) c.loop-place.place,
    )
    (simp append_assoc)
