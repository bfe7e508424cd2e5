use Rattle.std.proofs.Common.{◌≡◌, ◌∷◌, ◌++◌, take, flat_map, string_bytes}
use Rattle.xbar_equip.specs.Len.{line_text}
use Rattle.xbar_plan_text.proofs.write.texts.add_lines.Given as goal

abbrev pub invariant-loop-line : goal.invariant-loop-line
invariant-loop-line l = string_bytes l.text ≡ string_bytes l.initial.text ++ flat_map (λ line. 32 ∷ line_text line) (take l.line-index l.lines)
