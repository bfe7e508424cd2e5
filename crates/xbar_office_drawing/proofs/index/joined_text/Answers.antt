use Rattle.std.proofs.Common.{append_assoc, append-nil}
use Rattle.xbar_office_drawing.specs.Index.{joined_text}
use Rattle.xbar_office_drawing.proofs.index.joined_text.Goals as goal

pub returns : goal.returns
unfolding joined_text
returns c = rw (c.in_ok-joined.ensures.ok, c.first_number.ensures) (simp (append_assoc, append-nil))
