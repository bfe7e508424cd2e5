use Rattle.std.proofs.Common.{append_assoc}
use Rattle.{std.proofs.lemmas.List.Concat.flat_map-append, xbar_office_drawing.specs.Switches.switches_of}
use Rattle.xbar_office_drawing.proofs.switches.add_switches.Goals as goal

pub returns : goal.returns
unfolding switches_of
returns c =
    rw (
      c.in_ok-add_switch-4.ensures,
      c.in_ok-add_switch-3.ensures,
      c.in_ok-add_switch-2.ensures,
      c.in_ok-add_switch.ensures,
      c.crosspoints.ensures.crosspoints,
      c.number-channel.ensures.value,
      c.frame-line_frame.ensures.value,
      c.frame-trunk_frame.ensures.value,
      c.switch.ensures.value,
      c.switch-2.ensures.value,
    )
    (simp (flat_map-append, append_assoc))
