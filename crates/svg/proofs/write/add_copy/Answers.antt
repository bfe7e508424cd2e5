use Rattle.std.proofs.Common.{append_assoc}
use Rattle.svg.specs.Figure.{figure_text}
use Rattle.svg.proofs.write.add_copy.Goals as goal

pub returns : goal.returns
unfolding figure_text
returns c = rw (c.in_ok-writeln.ensures.bytes, c.in_ok-add_escaped.ensures, c.in_ok-push_str.ensures.bytes) (simp append_assoc)
