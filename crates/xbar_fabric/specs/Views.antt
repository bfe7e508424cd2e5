use Rattle.std.specs.Prelude.{◌≡◌, ℕ, suc, ◌==◌, ◌<◌, ◌^◌, Some, IfSome, List, [], ◌∷◌, slice_get, if◌then◌else◌, map, ⊤}
use Rattle.atomic_table.specs.Seated.{TableId}
use Rattle.desks.specs.Parts.{Begins}
use Rattle.desks.specs.Views as desks
use Rattle.turns.specs.World as worlds
use Rattle.turns.specs.World.{Idle}
use Rattle.xbar_equip.specs.declared.conn.Conn.{Conn}
use Rattle.xbar_plan.specs.Tables.{Tables}
use Rattle.xbar_office.specs.declared.job.Job.{Job}
use Rattle.xbar_office.specs.declared.reply.Record.{Record}
use Rattle.xbar_office.specs.declared.reply.Reply.{Reply}
use Rattle.xbar_jobs.specs.declared.effect.Effect.{Effect}
use Rattle.xbar_moves.specs.Exchange.{Exchange, IsLawfulExchange, Marker, Work, on_job}
use Rattle.xbar_moves.specs.declared.kinds.Kind.{Kind}

-- the shared words as callers see them: their table, their plan, and the number of desks that they
-- were opened with
pub record FabricView : Type 0 where
  pub table : TableId
  pub plan : Tables
  pub count : ℕ

-- a desk as callers see it: its table and plan, the number, kind and work of its marker, and the
-- records that it has seen
pub record DeskView : Type 0 where
  pub table : TableId
  pub plan : Tables
  pub marker : ℕ
  pub kind : Kind
  pub work : Work
  pub seen : List Record

-- a note as callers see it: its table, and what its desk had seen when it wrote the note
pub record NoteView : Type 0 where
  pub table : TableId
  pub seen : List Record

-- a desk's marker, as an office has it
abbrev pub marker_of : DeskView → Marker
marker_of desk = record { kind = desk.kind; work = desk.work }

-- a record of `turns` as a record of the office
abbrev pub entered : worlds.Record Job Reply → Record
entered r = record {
  turn = r.turn;
  marker = r.actor;
  job_no = r.number;
  job = r.job;
  reply = r.reply;
}

-- the number of a marker's job, if it has one, fits 32 bits
abbrev pub HasJobNo : Work → Type 0
HasJobNo work = on_job ⊤ (λ number a. number < 2 ^ 32) work

-- a desk of `desks`, which has no kind
abbrev pub RoomDesk : Type 0
RoomDesk = desks.DeskView Tables Conn Job Reply Effect

-- a desk of `desks` with a kind, as callers see it
abbrev pub view_at : Kind → RoomDesk → DeskView
view_at kind d = record {
  table = d.table;
  plan = d.setting;
  marker = d.number;
  kind = kind;
  work = d.actor;
  seen = map entered d.seen;
}

-- the desks of `desks` in the first list, each with its kind, are those of the second list
abbrev pub AreBelow : List RoomDesk → List DeskView → Type 0
AreBelow [] [] = ⊤
AreBelow (d ∷ below) (desk ∷ others) = (view_at desk.kind d ≡ desk) × AreBelow below others
AreBelow _ _ = ⊥

-- a desk of these shared words
pub record IsDeskOf (desk : DeskView) (fabric : FabricView) : Type 0 where
  pub table_is : desk.table ≡ fabric.table
  pub plan_is : desk.plan ≡ fabric.plan

-- all of these are desks of the shared words
abbrev pub AreDesksOf : List DeskView → FabricView → Type 0
AreDesksOf desks fabric = (k : ℕ) → IfSome (slice_get desks k) (λ desk. IsDeskOf desk fabric)

-- the desks of shared words that were just opened, from marker k on: idle, of these kinds, and
-- with nothing seen
abbrev pub new_desks : FabricView → ℕ → List Kind → List DeskView
new_desks fabric k [] = []
new_desks fabric k (kind ∷ kinds) = record {
  table = fabric.table;
  plan = fabric.plan;
  marker = k;
  kind = kind;
  work = Idle;
  seen = [];
} ∷ new_desks fabric (suc k) kinds

-- a marker's own records among these, in their order
abbrev pub own : ℕ → List Record → List Record
own k [] = []
own k (r ∷ records) = if r.marker == k then r ∷ own k records else own k records

-- the records of a desk's own turns
abbrev pub mine : DeskView → List Record
mine desk = own desk.marker desk.seen

-- a lawful office agrees with what a desk knows: it has the desk's marker as the desk has it, its
-- records begin with what the desk has seen, and it has no other records of this marker
pub record AgreesWith (desk : DeskView) (e : Exchange) : Type 0 where
  pub lawful : IsLawfulExchange desk.plan e
  pub there : slice_get e.markers desk.marker ≡ Some (marker_of desk)
  pub begins : Begins desk.seen e.records
  pub own_is : own desk.marker e.records ≡ mine desk
