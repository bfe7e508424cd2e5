use Rattle.xbar_office_text.specs.Glance.{glance_line}
use Rattle.xbar_office_text.proofs.glance.add_glance_line.Goals as goal

pub returns : goal.returns
unfolding glance_line
returns c = rw (c.in_ok-writeln.ensures.bytes, c.frame-line_frame.ensures.value, c.frame-trunk_frame.ensures.value)
