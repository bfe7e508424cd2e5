use Rattle.std.proofs.Common.{sym, ◌∙◌}
use Rattle.xbar_jobs.proofs.CompletingRows.{not_some}
use Rattle.xbar_jobs.proofs.walk.unread_after.Goals as goal

pub returns-else-has_read-clause-unread : goal.returns-else-has_read-clause-unread
returns-else-has_read-clause-unread c = not_some _ (sym c.has_read.ensures ∙ c.if-has_read.false)
