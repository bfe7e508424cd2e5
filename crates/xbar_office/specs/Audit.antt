use Rattle.std.specs.Prelude.{◌≢◌, ℕ, ◌<◌, IsSomeAnd, List, [], length, take, slice_get}
use Rattle.xbar_plan.specs.Tables.{Tables}
use Rattle.xbar_office.specs.Legal.{HaveTurns, HaveReplies, after}
use Rattle.xbar_office.specs.Whole.{whole}
use Rattle.xbar_office.specs.declared.audit_fault.AuditFault.{AuditFault}
use Rattle.xbar_office.specs.declared.audit_fault.AuditFault.TheVariants.{Turns, Reply, Memory}
use Rattle.xbar_office.specs.declared.reply.Record.{Record}

-- the record at this index, and none before it, does not have the turn of its index
pub record IsFirstWrongTurn (records : List Record) (place : ℕ) : Type 0 where
  pub before : HaveTurns 0 (take place records)
  pub here : IsSomeAnd (slice_get records place) (λ r. r.turn ≢ place)

-- the record at this index, and none before it, does not have the reply of the one-marker office
pub record IsFirstWrongReply (plan : Tables) (records : List Record) (place : ℕ) : Type 0 where
  pub before : HaveReplies plan [] (take place records)
  pub here : IsSomeAnd (slice_get records place)
      (λ r. r.reply ≢ (whole plan (after plan (take place records)) r.job).reply)

-- no record before this index has a wrong reply, and the job of the record there makes the set
-- longer: only there can memory run out
pub record GrowsAt (plan : Tables) (records : List Record) (place : ℕ) : Type 0 where
  pub before : HaveReplies plan [] (take place records)
  pub here : IsSomeAnd (slice_get records place)
      (λ r. length (after plan (take place records))
      < length (whole plan (after plan (take place records)) r.job).paths)

-- the fault of records: the turns are checked first, then the replies in the order of turns
abbrev pub IsFaultOf : Tables → List Record → AuditFault → Type 0
IsFaultOf plan records (Turns place) = IsFirstWrongTurn records place
IsFaultOf plan records (Reply turn) = HaveTurns 0 records × IsFirstWrongReply plan records turn
IsFaultOf plan records Memory = HaveTurns 0 records × ((place : ℕ) × GrowsAt plan records place)
