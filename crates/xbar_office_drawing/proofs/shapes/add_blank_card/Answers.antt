use Rattle.std.proofs.Common.{append_assoc, append-nil}
use Rattle.{std.proofs.lemmas.List.Concat.flat_map-append, xbar_office_drawing.specs.Shapes.{blank_card, named_text}}
use Rattle.xbar_office_drawing.proofs.shapes.add_blank_card.Goals as goal

pub returns : goal.returns
unfolding named_text blank_card
returns c =
    rw (
      c.in_ok-add_group_end.ensures,
      c.in_ok-add_digit_places.ensures,
      c.in_ok-add_shapes.ensures,
      c.in_ok-add_named_group.ensures,
    )
    (simp (flat_map-append, append_assoc, append-nil))
