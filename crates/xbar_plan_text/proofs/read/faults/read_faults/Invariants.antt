use Rattle.std.proofs.Common.{◌≡◌, take, Some}
use Rattle.xbar_plan_text.{specs.Texts.{read_all, fault_of}, proofs.FirstItem.bytes_of}
use Rattle.xbar_plan_text.proofs.read.faults.read_faults.Given as goal

-- the items so far, as read, are those kept
abbrev pub invariant-loop-item : goal.invariant-loop-item
invariant-loop-item l = read_all fault_of (take l.item (bytes_of l.texts)) ≡ Some (l.links.items)
