use Rattle.std.proofs.Common.{rules, ◌≡◌, [], ◌∷◌, ◌++◌, sym, ◌∙◌, ap, Some}
use Rattle.xbar_plan_text.{specs.Texts.line_of, proofs.ReadAll.{read_more, read_fails, read_whole}}
use Rattle.xbar_plan_text.proofs.read.numbers.read_lines.Goals as goal

pub returns-in_default : goal.returns-in_default
returns-in_default c =
    read_fails (λ part. line_of part.now) c.args.parts.now c.loop-part.part-index _ c.loop-part-test.true (sym c.read_line.ensures ∙ c.in_default.is)

pub loop-part-preserved : goal.loop-part-preserved
loop-part-preserved c =
    let kept : c.push.new.self.items ≡ c.loop-part.lines.items ++ c.in-Some.line ∷ [] = search rules in
    read_more (λ part. line_of part.now) c.args.parts.now _ c.loop-part.part-index _ _ c.loop-part-test.true c.loop-part.invariant
    (sym c.read_line.ensures ∙ c.in-Some.is) ∙ ap (λ z. Some z) (sym kept)

pub returns : goal.returns
returns c = read_whole (λ part. line_of part.now) c.args.parts.now _ c.loop-part.part-index c.loop-part-test.false c.loop-part.invariant
