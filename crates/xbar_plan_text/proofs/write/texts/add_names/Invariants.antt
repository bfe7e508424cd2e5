use Rattle.std.proofs.Common.{◌≡◌, ◌∷◌, ◌++◌, take, flat_map, string_bytes}
use Rattle.xbar_plan_text.specs.Written.{name_at}
use Rattle.xbar_plan_text.proofs.write.texts.add_names.Given as goal

abbrev pub invariant-loop-number : goal.invariant-loop-number
invariant-loop-number l = string_bytes l.text ≡ string_bytes l.initial.text ++ flat_map (λ number. 32 ∷ name_at l.groups number) (take l.number-index l.numbers)
