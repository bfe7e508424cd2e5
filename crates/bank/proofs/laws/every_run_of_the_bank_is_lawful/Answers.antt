use Rattle.bank.proofs.BankSystem.{bank_system}
use Rattle.bank.proofs.laws.every_run_of_the_bank_is_lawful.Goals as goal

pub returns : goal.returns
returns c = λ opening count moves small few are. c.every_run_is_lawful.ensures opening count moves (bank_system opening small) few are
