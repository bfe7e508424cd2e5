use Rattle.std.specs.Prelude.{◌≡◌, ℕ, ◌+◌, ◌*◌, ◌/◌, ◌<◌, ◌==◌, nat_le, Bool, List, [], ◌∷◌, ◌++◌, replicate, slice_index, ⊤}
use Rattle.turns.specs.Deciding.{decide_if}
use Rattle.turns.specs.Script.{Script, Ends, ◌>>=◌, ◌>>◌, seize, test}
use Rattle.turns.specs.Sharings.{sharing_of}
use Rattle.turns.specs.System.{System, SystemOver, system_of}
use Rattle.turns.specs.declared.operation.Operation.{Operation}
use Rattle.turns.specs.declared.operation.Operation.TheVariants.{Add, Sub}
use Rattle.bank.specs.Bank.{Balances, all_have, fits, may_move, whole}
use Rattle.bank.specs.declared.decision.Decision.{Decision}
use Rattle.bank.specs.declared.decision.Decision.TheVariants.{Replies, Changes, Moves}
use Rattle.bank.specs.declared.job.Job.{Job}
use Rattle.bank.specs.declared.job.Job.TheVariants.{Deposit, Withdraw, Transfer, Balance}
use Rattle.bank.specs.declared.job.Reply.{Reply}
use Rattle.bank.specs.declared.job.Reply.TheVariants.{Done, Refused, Has}
use Rattle.bank.specs.declared.opening.Opening.{Opening}
use Rattle.bank.specs.declared.opening.TheConstants.{SHARD_SIZE}

-- how many accounts there are
abbrev pub accounts : Opening → ℕ
accounts opening = SHARD_SIZE * opening.shards

-- words show balances: each account's word has its balance. The shards' locks come after the
-- accounts, and the turn word last.
pub record Shows (opening : Opening) (words : List ℕ) (has : Balances) : Type 0 where
  pub each : (account : ℕ) → account < accounts opening → has account ≡ slice_index words account

-- a shard's lock protects the balances of its accounts
abbrev pub Protects : Opening → ℕ → ℕ → Type 0
Protects opening shard word = (word / SHARD_SIZE ≡ shard) × (word < accounts opening)

-- the word of a shard's lock
abbrev pub lock_word : Opening → ℕ → ℕ
lock_word opening shard = accounts opening + shard

-- an effect is an operation on an account's balance
abbrev pub Effect : Type 0
Effect = ℕ × Operation

-- the reply of a decision
abbrev pub reply_of : Decision → Reply
reply_of (Replies reply) = reply
reply_of (Changes account operation) = Done
reply_of (Moves from to amount) = Done

-- the effects of a decision, in their order
abbrev pub effects_of : Decision → List Effect
effects_of (Replies reply) = []
effects_of (Changes account operation) = (account, operation) ∷ []
effects_of (Moves from to amount) = (from, Sub amount) ∷ (to, Add amount) ∷ []

-- a decision is taken, or the job is refused
abbrev pub or_refuse : Bool → Decision → Decision
or_refuse test decision = decide_if test decision (Replies Refused)

-- seize the lock of an account's shard, and test its balance
unfoldable pub balance_of : ℕ → Script ℕ ℕ
balance_of account = seize (account / SHARD_SIZE) >> test account

-- the script of a job
abbrev pub script : Job → Script ℕ Decision
script (Deposit account amount) =
    balance_of account
    >>= (λ has. Ends (or_refuse (fits (has + amount)) (Changes account (Add amount))))
script (Withdraw account amount) =
    balance_of account
    >>= (λ has. Ends (or_refuse (nat_le amount has) (Changes account (Sub amount))))
script (Transfer from to amount) =
    balance_of from
    >>= (λ left. balance_of to
    >>= (λ has. Ends (or_refuse (may_move left has amount) (Moves from to amount))))
script (Balance account) = balance_of account >>= (λ has. Ends (Replies (Has has)))

-- the account that a job looks at first
abbrev pub first_account : Job → ℕ
first_account (Deposit account amount) = account
first_account (Withdraw account amount) = account
first_account (Transfer from to amount) = from
first_account (Balance account) = account

-- the accounts of a job are there
abbrev pub IsJob : Opening → Job → Type 0
IsJob opening (Deposit account amount) = account < accounts opening
IsJob opening (Withdraw account amount) = account < accounts opening
IsJob opening (Transfer from to amount) = (from < accounts opening) × (to < accounts opening)
IsJob opening (Balance account) = account < accounts opening

-- the initial words: no lock is held, and no turn has been taken
abbrev pub opening_words : Opening → List ℕ
opening_words opening =
    replicate (accounts opening) opening.balance ++ replicate (opening.shards + 1) 0

-- the bank that opens so, over the types of its locks, jobs, replies and effects
abbrev pub bank_over : Opening → SystemOver ℕ Job Reply Effect
bank_over opening = record {
  IsJob = IsJob opening;
  State = Balances;
  whole = whole;
  opening = all_have opening.balance;
  initial = opening_words opening;
  IsLock = λ shard. shard < opening.shards;
  same = λ a b. a == b;
  Decision = Decision;
  first = λ job. first_account job / SHARD_SIZE;
  script = script;
  reply_of = reply_of;
  effects_of = effects_of;
  effect_word = λ effect. effect.0;
  operation_of = λ effect. effect.1;
  Due = λ effect value. ⊤;
  size = accounts opening + (opening.shards + 1);
  Protects = Protects opening;
  lock_word = lock_word opening;
  sharing = sharing_of opening.sharing;
  turn_word = accounts opening + opening.shards;
  clock = opening.clock;
  Shows = Shows opening;
}

-- this bank as a system
abbrev pub bank : Opening → System
bank opening = system_of (bank_over opening)
