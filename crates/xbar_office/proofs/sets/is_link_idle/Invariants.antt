use Rattle.std.proofs.Common.{◌≡◌, false, take}
use Rattle.{std.specs.List.list_any, xbar_equip.specs.Paths.has_link}
use Rattle.xbar_office.proofs.sets.is_link_idle.Given as goal

abbrev pub invariant-loop-path : goal.invariant-loop-path
invariant-loop-path l = list_any (has_link l.link) (take l.path-index l.paths) ≡ false
