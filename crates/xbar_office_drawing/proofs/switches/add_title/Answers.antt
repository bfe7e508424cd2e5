use Rattle.std.proofs.Common.{append_assoc, append-nil}
use Rattle.{std.proofs.lemmas.List.Concat.flat_map-append, xbar_office_drawing.specs.Switches.{path_links, path_title}}
use Rattle.xbar_office_drawing.proofs.switches.add_title.Goals as goal

pub returns : goal.returns
unfolding path_title path_links
returns c =
    rw (
      c.in_ok-add_shapes.ensures,
      c.as_str-3.ensures.value,
      c.as_str-2.ensures.value,
      c.as_str.ensures.value,
      c.in_ok-told.ensures,
      c.in_ok-links.ensures.ok,
      c.line_link-line_link.ensures,
      c.junctor-junctor.ensures,
      c.trunk_link-trunk_link.ensures,
      c.in_ok-title.ensures.ok,
    )
    (simp (flat_map-append, append_assoc, append-nil))
