use Rattle.std.proofs.Common.{rules, ◌≡◌, ◌+◌, ◌-◌, List, ℕ, length, take, drop, sym, subst, arith, length-drop, Some, position, ◌==◌, take_all}
use Rattle.xbar_plan_text.{specs.Texts.IsFirstPart, proofs.Parts.first_part}
use Rattle.xbar_plan_text.proofs.read.text.split_first_part.Goals as goal

pub returns : goal.returns
returns c =
    let text = c.args.text.now in
    let at : position (λ byte. byte == 32) text ≡ Some c.in_ok-end.end = search rules in
    let size = length-drop (c.in_ok-end.end + 1) text in
    let all : take (length text - (c.in_ok-end.end + 1)) (drop (c.in_ok-end.end + 1) text) ≡ drop (c.in_ok-end.end + 1) text =
    take_all _ _ (omega (arith, size)) in
    subst (λ (others : List ℕ). IsFirstPart text (take c.in_ok-end.end text) others) (sym all) (first_part text c.in_ok-end.end at)
