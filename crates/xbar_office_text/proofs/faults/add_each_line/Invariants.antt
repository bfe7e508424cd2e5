use Rattle.std.proofs.Common.{◌≡◌, ◌++◌, take, flat_map, string_bytes}
use Rattle.xbar_office_text.specs.Faults.{fault_line}
use Rattle.xbar_office_text.proofs.faults.add_each_line.Given as goal

abbrev pub invariant-loop-link : goal.invariant-loop-link
invariant-loop-link l = string_bytes l.text ≡ string_bytes l.initial.text ++ flat_map fault_line (take l.link-index l.links)
