use Rattle.xbar_traffic.proofs.JobFields.{no_space_follows}
use Rattle.xbar_traffic.proofs.row.split_after_line.Goals as goal

pub returns-in_err-strip_prefix : goal.returns-in_err-strip_prefix
returns-in_err-strip_prefix c =
    rw c.from_residual-in_err-strip_prefix.ensures
    (no_space_follows c.args.text.now c.in_ok-line.rest.now c.in_ok-line.ensures.cases.2 c.in_err-strip_prefix.ensures.cases)
