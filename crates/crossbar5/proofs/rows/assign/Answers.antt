use Rattle.std.proofs.Common.{sym, ◌∙◌, ap}
use Rattle.{xbar_moves.specs.{Exchange.OfPlan, Moves.assigned}, crossbar5.specs.Walk.walk_after_row}
use Rattle.crossbar5.proofs.rows.assign.Goals as goal

pub returns-in_ok-assigned-in-Ok-clause-observed : goal.returns-in_ok-assigned-in-Ok-clause-observed
unfolding walk_after_row
returns-in_ok-assigned-in-Ok-clause-observed g c = λ none w agrees. record {
  office_is =
      ap (λ (o : OfPlan). record o { exchange = assigned c.args.marker c.args.job_no c.args.job o.exchange }) agrees.office_is ∙ sym c.in-Ok.ensures.ok.1;
  described = c.in_ok-assigned-in-Ok.ensures.adds w.detail w.number w.items agrees.described;
}
