use Rattle.xbar_office_text.specs.PathLines.{switches_line}
use Rattle.xbar_office_text.proofs.path.table.add_switches.Goals as goal

pub returns : goal.returns
unfolding switches_line
returns c =
    rw (
      c.in_ok-writeln.ensures.bytes,
      c.frame-line_frame.ensures.value,
      c.switch-line_switch.ensures.value,
      c.number-channel.ensures.value,
      c.frame-trunk_frame.ensures.value,
      c.switch-trunk_switch.ensures.value,
    )
