use Rattle.std.proofs.Common.{◌-◌, ◌≤◌, ℕ, List, drop, length, length-drop, subst, ap, ◌∙◌, arith, OnOk, take_all}
use Rattle.{xbar_office.specs.declared.reply.Record.Record, xbar_walk.specs.{Items.step_item, Stories.AddsStep, declared.detail.Detail.Detail}}
use Rattle.xbar_walk.proofs.walk.add_made.Goals as goal

pub returns : goal.returns
returns c =
    let records = c.records-records.result.now in
    let added = drop c.args.before records in
    let few : length {A = Record} added ≤ length {A = Record} records - c.args.before = omega (arith, length-drop {A = Record} c.args.before records) in
    subst (λ (made : List Record). OnOk c.add_step.result
    (AddsStep (λ (detail : Detail) (number : ℕ). step_item detail number c.args.marker c.args.observed.now made) c.args.story.now c.add_step.new.self))
    (take_all (length {A = Record} records - c.args.before) added few ∙ ap (drop {A = Record} c.args.before) c.records-records.ensures.records)
    c.add_step.ensures
