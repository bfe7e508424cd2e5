use Rattle.std.specs.Prelude.{ℕ, ◌+◌, ◌-◌, ◌^◌, ◌==◌, ◌&&◌, nat_lt, nat_le, Bool, if◌then◌else◌}
use Rattle.turns.specs.Deciding.{decide_if}
use Rattle.turns.specs.System.{Whole}
use Rattle.bank.specs.declared.job.Job.{Job}
use Rattle.bank.specs.declared.job.Job.TheVariants.{Deposit, Withdraw, Transfer, Balance}
use Rattle.bank.specs.declared.job.Reply.{Reply}
use Rattle.bank.specs.declared.job.Reply.TheVariants.{Done, Refused, Has}

-- the balance of each account
abbrev pub Balances : Type 0
Balances = ℕ → ℕ

-- each account has this balance
abbrev pub all_have : ℕ → Balances
all_have balance account = balance

-- the balances with one account's set
abbrev pub with_balance : Balances → ℕ → ℕ → Balances
with_balance has account balance = λ a. if a == account then balance else has a

-- an amount is put into an account, or taken out of it
abbrev pub credited : Balances → ℕ → ℕ → Balances
credited has account amount = with_balance has account (has account + amount)

abbrev pub debited : Balances → ℕ → ℕ → Balances
debited has account amount = with_balance has account (has account - amount)

-- whether a balance fits a word
abbrev pub fits : ℕ → Bool
fits balance = nat_lt balance (2 ^ 64)

-- whether an amount may be moved: the one balance is large enough, and the other has room
abbrev pub may_move : ℕ → ℕ → ℕ → Bool
may_move from to amount = nat_le amount from && fits (to + amount)

-- a job is done, or it is refused and nothing changes
abbrev pub done_if : Bool → Balances → Balances → Whole Balances Reply
done_if test has after =
    decide_if test (record { state = after; reply = Done })
    (record { state = has; reply = Refused })

-- what a job does, done whole
abbrev pub whole : Balances → Job → Whole Balances Reply
whole has (Deposit account amount) =
    done_if (fits (has account + amount)) has (credited has account amount)
whole has (Withdraw account amount) =
    done_if (nat_le amount (has account)) has (debited has account amount)
whole has (Transfer from to amount) =
    done_if (may_move (has from) (has to) amount) has
    (credited (debited has from amount) to amount)
whole has (Balance account) = record { state = has; reply = Has (has account) }
