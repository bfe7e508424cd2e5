use Rattle.std.proofs.Common.{◌++◌, ℕ, List, sym, ap, ◌∙◌, string_bytes}
use Rattle.{xbar_step_text.specs.{Lines.settling_line, Objects.settling_object}, xbar_walk.specs.Items.settling_item}
use Rattle.xbar_walk.proofs.{StepItems.{settling_framed, settling_said}, Storytelling.{item_added, object_added}}
use Rattle.xbar_walk.proofs.story.Story.add_settling.Goals as goal

pub returns-then-is_json : goal.returns-then-is_json
returns-then-is_json c =
    let ended = c.in_ok-end_tests.ensures in
    object_added c.args.self.now _ ended.detail settling_object _ _ _ settling_item (settling_framed c.args.self.now.detail (sym c.if-is_json.ensures))
    c.args.self.now.joined
    ended.observed c.before_object-before.ensures c.after_object-after.ensures ended.number
    (c.in_ok-write.ensures.bytes
    ∙ ap (λ (object : List ℕ). string_bytes c.end_tests.new.self.text ++ (c.before_object-before.result.now ++ (object ++ c.after_object-after.result.now)))
    c.settling_object-settled.ensures)
    ended.none

pub returns : goal.returns
returns c =
    let ended = c.in_ok-end_tests.ensures in
    item_added c.args.self.now _ ended.detail settling_line settling_item (settling_said c.args.self.now.detail (sym c.if-is_json.ensures))
    c.args.self.now.joined ended.number
    (c.in_ok-push_str.ensures.bytes
    ∙ ap (λ (line : List ℕ). string_bytes c.end_tests.new.self.text ++ line) c.settling_line.ensures
    ∙ ap (λ (text : List ℕ). text ++ settling_line) ended.observed)
    ended.none
