use Rattle.std.proofs.Common.{append_assoc, append-nil}
use Rattle.{std.proofs.lemmas.List.Concat.flat_map-append, xbar_office_drawing.specs.Index.entry}
use Rattle.xbar_office_drawing.proofs.index.add_entry.Goals as goal

pub returns : goal.returns
unfolding entry
returns c =
    rw (
      c.in_ok-add_shapes-2.ensures,
      c.in_ok-add_shapes.ensures,
      c.as_str-2.ensures.value,
      c.as_str.ensures.value,
      c.use_classes.ensures.edge,
      c.use_classes.ensures.core,
      c.in_ok-joined.ensures,
      c.in_ok-name.ensures.ok,
    )
    (simp (flat_map-append, append_assoc, append-nil))
