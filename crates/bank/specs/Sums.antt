use Rattle.std.specs.Prelude.{ℕ, zero, suc, ◌+◌, List, [], ◌∷◌}
use Rattle.turns.specs.World.{Record}
use Rattle.bank.specs.Bank.{Balances}
use Rattle.bank.specs.declared.job.Job.{Job}
use Rattle.bank.specs.declared.job.Job.TheVariants.{Deposit, Withdraw}
use Rattle.bank.specs.declared.job.Reply.{Reply}
use Rattle.bank.specs.declared.job.Reply.TheVariants.{Done}

-- the sum of the balances of the first `count` accounts
unfoldable pub total : Balances → ℕ → ℕ
total has zero = 0
total has (suc account) = total has account + has account

-- what a job brings in, and what it takes out: a deposit or a withdrawal that was done
abbrev pub brought : Job → Reply → ℕ
brought (Deposit account amount) Done = amount
brought _ _ = 0

abbrev pub taken : Job → Reply → ℕ
taken (Withdraw account amount) Done = amount
taken _ _ = 0

-- what all jobs of these records brought in, and what they took out
abbrev pub deposited : List (Record Job Reply) → ℕ
deposited [] = 0
deposited (r ∷ order) = brought r.job r.reply + deposited order

abbrev pub withdrawn : List (Record Job Reply) → ℕ
withdrawn [] = 0
withdrawn (r ∷ order) = taken r.job r.reply + withdrawn order
