use Rattle.std.proofs.Common.{◌++◌, ℕ, List, ap, sym, ◌∙◌}
use Rattle.{xbar_step_text.specs.Lines.step_lines, xbar_walk.specs.Items.{Tests, step_item}}
use Rattle.xbar_walk.proofs.{StepItems.{other_item, test_item}, Storytelling.{item_added, same_added}}
use Rattle.xbar_walk.proofs.story.Story.add_item.Goals as goal

pub add_step_object-requires : goal.add_step_object-requires
add_step_object-requires c = sym c.if-is_json.ensures

pub returns-in-Test : goal.returns-in-Test
returns-in-Test c =
    same_added c.args.self.now _ (λ detail. Tests _) (λ detail. step_item detail c.args.number c.args.marker c.args.observed.now c.args.records.now)
    (test_item c.args.self.now.detail c.args.number c.args.marker c.args.observed.now c.args.records.now c.in-Test.word _ (sym c.if-is_json.ensures)
    c.in-Test.is c.of-place.ensures)
    c.in_ok-add_test.ensures

pub returns : goal.returns
returns c =
    let ended = c.in_ok-end_tests.ensures in
    let observed = c.args.observed.now in
    let records = c.args.records.now in
    let lines = step_lines c.args.number c.args.marker observed records in
    item_added c.args.self.now _ ended.detail lines (λ detail. step_item detail c.args.number c.args.marker observed records)
    (other_item c.args.self.now.detail c.args.number c.args.marker observed records (sym c.if-is_json.ensures) c.in_default.not-Test)
    c.args.self.now.joined ended.number (c.in_ok-add_step.ensures ∙ ap (λ (text : List ℕ). text ++ lines) ended.observed) ended.none
