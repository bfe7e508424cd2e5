use Rattle.std.proofs.Common.{rules, ◌≡◌, map, sym, ◌∙◌, ap, string_bytes}
use Rattle.{std.proofs.lemmas.Simd.map-map, xbar_plan_text.specs.Texts.capped_number}
use Rattle.xbar_plan_text.proofs.read.codes.route_of.Goals as goal

pub returns : goal.returns
returns c =
    let numbers : c.in_ok-numbers.numbers.items ≡ map (λ name. capped_number c.args.groups.now (string_bytes name)) c.entry.inside.names.items = search rules in
    let names : c.args.entry.now.names ≡ map string_bytes c.entry.inside.names.items = search rules in
    let code : c.entry.inside.code ≡ c.args.entry.now.code = search rules in
    let all : c.in_ok-numbers.numbers.items ≡ map (capped_number c.args.groups.now) c.args.entry.now.names =
    numbers ∙ sym (map-map (capped_number c.args.groups.now) string_bytes c.entry.inside.names.items)
    ∙ ap (map (capped_number c.args.groups.now)) (sym names) in
    c.new.ensures ∙ (λ i. record { code = code i; groups = all i })
