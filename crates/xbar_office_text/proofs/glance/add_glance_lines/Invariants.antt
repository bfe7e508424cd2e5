use Rattle.std.proofs.Common.{◌≡◌, ◌++◌, take, flat_map, string_bytes}
use Rattle.xbar_office_text.specs.Glance.{glance_line}
use Rattle.xbar_office_text.proofs.glance.add_glance_lines.Given as goal

abbrev pub invariant-loop-path : goal.invariant-loop-path
invariant-loop-path l = string_bytes l.text ≡ string_bytes l.initial.text ++ flat_map (glance_line l.plan) (take l.path-index l.paths)
