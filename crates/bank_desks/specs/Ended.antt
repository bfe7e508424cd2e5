-- what a bank comes to once it is shut
use Rattle.std.specs.Prelude.{◌≡◌, ℕ, ◌+◌, ◌*◌, List, [], ◌∷◌, length, slice_index}
use Rattle.turns.specs.World.{Record}
use Rattle.desks.specs.Met.{IsEnded}
use Rattle.desks.specs.Reports.{MakeUp}
use Rattle.bank.specs.Sums.{deposited, total, withdrawn}
use Rattle.bank.specs.System.{accounts, bank}
use Rattle.bank.specs.declared.job.Job.{Job}
use Rattle.bank.specs.declared.job.Reply.{Reply}
use Rattle.bank.specs.declared.opening.Opening.{Opening}

-- the amounts of all logs, summed up
abbrev pub in_logs : (List (Record Job Reply) → ℕ) → List (List (Record Job Reply)) → ℕ
in_logs amount [] = 0
in_logs amount (log ∷ logs) = amount log + in_logs amount logs

-- a bank that opened so was shut. Its logs, one for each desk, make up one
-- legal order of jobs, each done whole. Nobody holds or requests a lock, and the words show the
-- balances after this order. Their sum is that of the opening, with what the logs' jobs deposited
-- and without what they withdrew.
pub record HasEnded (opening : Opening) (logs : List (List (Record Job Reply)))
    (words : List ℕ) : Type 0 where
  pub order : List (Record Job Reply)
  pub ended : IsEnded (bank opening) (length logs) words order
  pub made_up : MakeUp (bank opening) logs order
  pub sum : total (slice_index words) (accounts opening) + in_logs withdrawn logs
      ≡ accounts opening * opening.balance + in_logs deposited logs
