use Rattle.std.proofs.Common.{[], ◌∷◌, codes, string_bytes}
use Rattle.{svg.specs.declared.shape.ShapeOf.TheVariants.{Copy, Text}, xbar_office_drawing.specs.CardFace.{card_face, card_words, link_holes, number_entry}}
use Rattle.xbar_office_drawing.{specs.declared.card_face.TheConstants.{JOB, MARKER, TRIAL, TURN}, proofs.Longer.card_joined}
use Rattle.xbar_office_drawing.proofs.card_face.add_card.Goals as goal

pub returns : goal.returns
unfolding card_face
returns c =
    let owned = c.args.owned.now in
    rw (
      c.in_ok-add_shapes-2.ensures,
      c.link_holes.ensures,
      c.in_ok-add_entry-4.ensures,
      c.in_ok-add_entry-3.ensures,
      c.in_ok-add_entry-2.ensures,
      c.in_ok-add_entry.ensures,
      c.in_ok-add_shapes.ensures,
      c.from-3.ensures,
      c.from-2.ensures,
      c.from.ensures,
      c.as_str.ensures.value,
      c.in_ok-told.ensures.ok,
    )
    (card_joined (string_bytes c.args.text.now)
    (Copy (0, 0) (codes "blank-card") ∷ Text (40, 34) (codes "big") (codes "TROUBLE") ∷ card_words owned ∷ [])
    (number_entry TURN.0 TURN.1.now owned.turn) (number_entry JOB.0 JOB.1.now owned.job_no) (number_entry MARKER.0 MARKER.1.now owned.marker)
    (number_entry TRIAL.0 TRIAL.1.now owned.card.trial) (link_holes owned.card.link))
