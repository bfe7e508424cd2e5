use Rattle.bank.proofs.{BankSystem.bank_system, BankSums.shown_sums}
use Rattle.bank.proofs.laws.unheld_words_have_the_sum.Goals as goal

pub returns : goal.returns
returns c =
    λ opening w small law unheld. shown_sums opening w.words w.order (c.jobs_act_at_their_turns.ensures.legal opening w law)
    (c.jobs_act_at_their_turns.ensures.free opening w (bank_system opening small) law unheld)
