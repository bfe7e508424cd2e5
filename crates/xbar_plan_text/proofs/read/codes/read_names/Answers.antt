use Rattle.std.proofs.Common.{rules, ◌≡◌, [], ◌∷◌, ◌++◌, map, sym, ◌∙◌, ap, Some, Err, string_bytes}
use Rattle.{std.proofs.lemmas.List.map-append, xbar_plan_text.{specs.Texts.name_of, proofs.{Items.passed_on, ReadAll.{read_more, read_fails, read_whole}}}}
use Rattle.xbar_plan_text.proofs.read.codes.read_names.Goals as goal

pub returns-in_err-name : goal.returns-in_err-name
returns-in_err-name c =
    let is : c.from_residual-in_err-name.result ≡ Err c.in_err-name.field-0.0 = search rules in
    rw is (passed_on c.in_err-name.field-0.0 (read_fails (λ part. name_of part.now) c.args.parts.now c.loop-part.part-index _ c.loop-part-test.true)
    c.in_err-name.ensures)

pub loop-part-preserved : goal.loop-part-preserved
loop-part-preserved c =
    let pushed : c.push.new.self.items ≡ c.loop-part.names.items ++ c.in_ok-name.name ∷ [] = search rules in
    let kept : map string_bytes c.push.new.self.items ≡ map string_bytes c.loop-part.names.items ++ string_bytes c.in_ok-name.name ∷ [] =
    ap (map string_bytes) pushed ∙ map-append string_bytes c.loop-part.names.items (c.in_ok-name.name ∷ []) in
    read_more (λ part. name_of part.now) c.args.parts.now _ c.loop-part.part-index _ _ c.loop-part-test.true c.loop-part.invariant c.in_ok-name.ensures
    ∙ ap (λ z. Some z) (sym kept)

pub returns : goal.returns
returns c = read_whole (λ part. name_of part.now) c.args.parts.now _ c.loop-part.part-index c.loop-part-test.false c.loop-part.invariant
