use Rattle.std.proofs.Common.{◌≡◌, true, take}
use Rattle.{std.specs.List.list_all, xbar_equip.specs.Link.is_link}
use Rattle.xbar_equip.proofs.laws.links_are_in_range.Given as goal

abbrev pub invariant-loop-link : goal.invariant-loop-link
invariant-loop-link l = list_all is_link (take l.link-index l.links) ≡ true
