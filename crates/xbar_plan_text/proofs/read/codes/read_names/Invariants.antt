use Rattle.std.proofs.Common.{◌≡◌, take, map, Some, string_bytes}
use Rattle.xbar_plan_text.specs.Texts.{read_all, name_of}
use Rattle.xbar_plan_text.proofs.read.codes.read_names.Given as goal

-- the items so far, as read, are those kept
abbrev pub invariant-loop-part : goal.invariant-loop-part
invariant-loop-part l = read_all (λ part. name_of part.now) (take l.part-index l.parts) ≡ Some (map string_bytes l.names.items)
