use Rattle.std.proofs.Common.{◌≡◌, ◌∷◌, ◌++◌, take, flat_map, string_bytes}
use Rattle.xbar_plan_text.specs.Written.{member_text}
use Rattle.xbar_plan_text.proofs.write.texts.add_members.Given as goal

abbrev pub invariant-loop-member : goal.invariant-loop-member
invariant-loop-member l = string_bytes l.text ≡ string_bytes l.initial.text ++ flat_map (λ member. 32 ∷ member_text member) (take l.member-index l.members)
