use Rattle.std.proofs.Common.{sym, ◌∙◌}
use Rattle.xbar_step_text.proofs.Listed.{ends_with_none, ends_with_some}
use Rattle.xbar_step_text.proofs.shown.add_shown.Goals as goal

pub returns-then-any : goal.returns-then-any
returns-then-any c = ends_with_some _ _ _ _ _ _ c.in_ok-any.ensures.text (sym c.if-any.true ∙ c.in_ok-any.ensures.any)

pub returns : goal.returns
returns c = ends_with_none _ _ _ _ _ _ c.in_ok-any.ensures.text _ (sym c.if-any.false ∙ c.in_ok-any.ensures.any) c.in_ok-push_str.ensures.bytes
