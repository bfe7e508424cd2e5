use Rattle.std.proofs.Common.{◌≡◌, take, map, Some}
use Rattle.{toml.specs.{Data.as_str, View.view}, xbar_plan_text.specs.Texts.read_all}
use Rattle.xbar_plan_text.proofs.read.document.texts_of_array.Given as goal

-- the items so far, as read, are those kept
abbrev pub invariant-loop-item : goal.invariant-loop-item
invariant-loop-item l = read_all (λ value. as_str (view value)) (take l.item l.items) ≡ Some (map (λ text. text.now) l.texts.items)
