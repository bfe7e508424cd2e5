use Rattle.std.proofs.Common.{◌++◌, ℕ, List, sym, ap, ◌∙◌}
use Rattle.{xbar_step_text.specs.{Lines.assignment_line, Objects.assignment_object}, xbar_walk.specs.Items.assignment_item}
use Rattle.xbar_walk.proofs.{StepItems.{assignment_framed, assignment_said}, Storytelling.{item_added, object_added}}
use Rattle.xbar_walk.proofs.story.Story.add_assignment.Goals as goal

pub returns-then-is_json : goal.returns-then-is_json
returns-then-is_json c =
    let ended = c.in_ok-end_tests.ensures in
    let job = c.args.job.now in
    object_added c.args.self.now _ ended.detail (assignment_object c.args.marker c.args.job_no job) _ _ _
    (λ detail. assignment_item detail c.args.marker c.args.job_no job)
    (assignment_framed c.args.self.now.detail c.args.marker c.args.job_no job (sym c.if-is_json.ensures)) c.args.self.now.joined
    ended.observed c.before_object-before.ensures c.after_object-after.ensures ended.number c.in_ok-write.ensures.bytes ended.none

pub returns : goal.returns
returns c =
    let ended = c.in_ok-end_tests.ensures in
    let job = c.args.job.now in
    let line = assignment_line c.args.marker c.args.job_no job in
    item_added c.args.self.now _ ended.detail line (λ detail. assignment_item detail c.args.marker c.args.job_no job)
    (assignment_said c.args.self.now.detail c.args.marker c.args.job_no job (sym c.if-is_json.ensures)) c.args.self.now.joined
    ended.number (c.in_ok-write-2.ensures.bytes ∙ ap (λ (text : List ℕ). text ++ line) ended.observed) ended.none
