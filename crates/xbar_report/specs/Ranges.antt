use Rattle.std.specs.Prelude.{ℕ, ◌<◌, ◌≤◌, ◌^◌, IfSome, length, ⊤}
use Rattle.std.specs.List.{AllByRecursion}
use Rattle.xbar_equip.specs.Link.{IsLink}
use Rattle.xbar_equip.specs.Path.{IsPath}
use Rattle.xbar_office.specs.Legal.{IsJob}
use Rattle.xbar_office.specs.declared.reply.Card.{Card}
use Rattle.xbar_office.specs.declared.reply.End.{End}
use Rattle.xbar_office.specs.declared.reply.End.TheVariants.{DialTone, Connected, Released, CalledBusy, LineBusy, RegistersBusy, TrunksBusy, NoPath, Trouble, VacantCode, VacantNumber, NoRegister, NoCall}
use Rattle.xbar_office.specs.declared.reply.Record.{Record}
use Rattle.xbar_report.specs.declared.line.Counts.{Counts}
use Rattle.xbar_report.specs.declared.line.TroubleLine.{TroubleLine}

-- a trial's number fits its type
abbrev pub IsTrial : ℕ → Type 0
IsTrial trial = trial < 2 ^ 8

-- a card is in range
pub record IsCard (card : Card) : Type 0 where
  pub trial : IsTrial card.trial
  pub link : IsLink card.link

-- an end is in range: its trial and its paths are
abbrev pub IsEnd : End → Type 0
IsEnd (DialTone path trial) = IsPath path × IsTrial trial
IsEnd (Connected calling called trial) = IsPath calling × IfSome called IsPath × IsTrial trial
IsEnd (Released own other) = IsPath own × IfSome other IsPath
IsEnd CalledBusy = ⊤
IsEnd LineBusy = ⊤
IsEnd RegistersBusy = ⊤
IsEnd TrunksBusy = ⊤
IsEnd NoPath = ⊤
IsEnd Trouble = ⊤
IsEnd VacantCode = ⊤
IsEnd VacantNumber = ⊤
IsEnd NoRegister = ⊤
IsEnd NoCall = ⊤

-- a record is in range: its numbers fit their types, its job, its end and its cards are in range,
-- and it has at most two cards
pub record IsRecord (r : Record) : Type 0 where
  pub turn : r.turn < 2 ^ 64
  pub marker : r.marker < 2 ^ 32
  pub job_no : r.job_no < 2 ^ 32
  pub job : IsJob r.job
  pub end : IsEnd r.reply.end
  pub cards : AllByRecursion IsCard r.reply.cards
  pub few : length r.reply.cards ≤ 2

-- a trouble line is in range
pub record IsTroubleLine (t : TroubleLine) : Type 0 where
  pub turn : t.turn < 2 ^ 64
  pub job_no : t.job_no < 2 ^ 32
  pub card : IsCard t.card

-- the counts fit their types
pub record AreCounts (counts : Counts) : Type 0 where
  pub paths : counts.paths < 2 ^ 16
  pub closed : counts.closed < 2 ^ 16
