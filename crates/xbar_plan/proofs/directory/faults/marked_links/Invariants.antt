use Rattle.std.proofs.Common.{◌≡◌, false, length, take, get_or}
use Rattle.{std.specs.List.list_any, xbar_equip.specs.Link.{Link, IsLink, link_eq}, xbar_plan.specs.Numbered.link_number}
use Rattle.xbar_plan.proofs.directory.faults.marked_links.Given as goal

-- the links so far are marked
abbrev pub invariant-loop-link : goal.invariant-loop-link
invariant-loop-link l = record {
  size : length l.marks.items ≡ 3000;
  marked : (k : Link) → IsLink k → get_or l.marks.items (link_number k) false ≡ list_any (λ fault. link_eq fault k) (take l.link-index l.faults);
}
