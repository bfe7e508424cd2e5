use Rattle.std.proofs.Common.{List, ◌∙◌, ap}
use Rattle.xbar_walk.{specs.{Rows.shares_line, declared.rows.Tested.Tested}, proofs.Joining.last_leads}
use Rattle.xbar_walk.proofs.story.Story.shares_pending_line.Goals as goal

pub returns-then-is_short : goal.returns-then-is_short
returns-then-is_short c =
    c.goes_on.ensures ∙ last_leads c.args.self.now.detail c.as_slice.result.now c.args.tested.now _ c.in-len1-up.len_at_least c.if-is_short.ensures
    ∙ ap (λ (tests : List Tested). shares_line c.args.self.now.detail tests c.args.tested.now) c.as_slice.ensures.value
