use Rattle.std.proofs.Common.{◌≡◌, ◌++◌, take, flat_map, string_bytes}
use Rattle.xbar_look.specs.Lines.{held_line}
use Rattle.xbar_look.proofs.job_lines.add_held_lines.Given as goal

abbrev pub invariant-loop-conn : goal.invariant-loop-conn
invariant-loop-conn l = string_bytes l.text ≡ string_bytes l.initial.text ++ flat_map held_line (take l.conn-index l.held)
