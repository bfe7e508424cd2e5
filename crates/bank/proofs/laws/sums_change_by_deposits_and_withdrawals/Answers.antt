use Rattle.bank.proofs.BankSums.{sums_from_opening}
use Rattle.bank.proofs.laws.sums_change_by_deposits_and_withdrawals.Goals as goal

pub returns : goal.returns
returns c = λ opening w law. sums_from_opening opening w.order (c.jobs_act_at_their_turns.ensures.legal opening w law)
