use Rattle.xbar_jobs.proofs.CompletingRows.{row_found}
use Rattle.xbar_jobs.proofs.walk.next_in_row.Goals as goal

pub returns-then-tests_rows : goal.returns-then-tests_rows
returns-then-tests_rows c =
    row_found c.args._plan.now c.requires.plan c.args.seen.now.seen c.args.job.now c.args.point.now c.args.word c.unread_after.result
    c.requires.job (c.tests_rows.ensures c.if-tests_rows.true) c.requires.valid_point c.requires.wants c.unread_after.ensures.next c.unread_after.ensures.unread
