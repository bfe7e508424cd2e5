use Rattle.std.proofs.Common.{append_assoc, append-nil}
use Rattle.xbar_office_text.specs.PathLines.{path_lines}
use Rattle.xbar_office_text.proofs.path.lines.add_path_lines.Goals as goal

pub returns : goal.returns
unfolding path_lines
returns c =
    rw (c.in_ok-add_values.ensures, c.in_ok-add_fields.ensures, c.in_ok-add_words.ensures, c.in_ok-add_switches.ensures, c.in_ok-add_way.ensures)
    (simp (append_assoc, append-nil))
