use Rattle.std.proofs.Common.{append_assoc}
use Rattle.svg.specs.Drawing.{open_text}
use Rattle.svg.proofs.drawing.add_open.Goals as goal

pub returns : goal.returns
unfolding open_text
returns c = rw (c.in_ok-writeln.ensures.bytes, c.in_ok-push_str.ensures.bytes) (simp append_assoc)
