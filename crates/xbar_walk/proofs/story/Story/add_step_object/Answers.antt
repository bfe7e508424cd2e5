use Rattle.std.proofs.Common.{◌++◌, ℕ, List, append_assoc, ap, ◌∙◌, string_bytes}
use Rattle.{xbar_step_text.specs.Objects.step_object, xbar_walk.{specs.Items.step_item, proofs.{StepItems.object_item, Storytelling.object_added}}}
use Rattle.xbar_walk.proofs.story.Story.add_step_object.Goals as goal

pub returns : goal.returns
returns c =
    let ended = c.in_ok-end_tests.ensures in
    let observed = c.args.observed.now in
    let records = c.args.records.now in
    let object = step_object c.args.number c.args.marker observed records in
    let before = c.before_object.result.now in
    let after = c.after_object.result.now in
    let text = string_bytes c.end_tests.new.self.text in
    object_added c.args.self.now _ ended.detail object text before after (λ detail. step_item detail c.args.number c.args.marker observed records)
    (object_item c.args.self.now.detail c.args.number c.args.marker observed records c.requires) c.args.self.now.joined
    ended.observed c.before_object.ensures c.after_object.ensures ended.number
    (c.in_ok-push_str-2.ensures.bytes
    ∙ ap (λ (t : List ℕ). t ++ after) (c.in_ok-add_object.ensures ∙ ap (λ (t : List ℕ). t ++ object) c.in_ok-push_str.ensures.bytes)
    ∙ append_assoc (text ++ before) object after
    ∙ append_assoc text before (object ++ after))
    ended.none
