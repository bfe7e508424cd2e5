use Rattle.bank.proofs.BankSums.{shown_sums}
use Rattle.bank.proofs.laws.shown_words_have_the_sum.Goals as goal

pub returns : goal.returns
returns c = λ opening words order legal shows. shown_sums opening words order legal shows
