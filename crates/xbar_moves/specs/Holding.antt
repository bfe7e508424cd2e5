use Rattle.std.specs.Prelude.{◌≡◌, ◌↔◌, ℕ, ◌+◌, ◌<◌, ◌≤◌, ◌%◌, ◌⊎◌, Some, List, slice_get}
use Rattle.std.specs.Int.{bit_at}
use Rattle.turns.specs.Among.{IsIn}
use Rattle.turns.specs.Attempt.{asked_in, request_in}
use Rattle.turns.specs.World as worlds
use Rattle.turns.specs.World.{Does}
use Rattle.xbar_equip.specs.declared.conn.Conn.{Conn}
use Rattle.xbar_plan.specs.Tables.{Tables}
use Rattle.xbar_jobs.specs.Attempt.{Attempt}
use Rattle.xbar_jobs.specs.Office.{office}
use Rattle.xbar_moves.specs.Exchange.{Exchange, Marker, world}

-- marker k is at this attempt, at the job of this number
pub record IsAt (e : Exchange) (k number : ℕ) (a : Attempt) : Type 0 where
  pub marker : Marker
  pub there : slice_get e.markers k ≡ Some marker
  pub work : marker.work ≡ Does number a

-- marker k holds a connector
pub record Holds (e : Exchange) (k : ℕ) (conn : Conn) : Type 0 where
  pub number : ℕ
  pub attempt : Attempt
  pub at : IsAt e k number attempt
  pub held : IsIn conn attempt.held

-- marker k has requested a connector, and has neither seized it nor withdrawn its request
pub record HasRequested (e : Exchange) (k : ℕ) (conn : Conn) : Type 0 where
  pub number : ℕ
  pub attempt : Attempt
  pub at : IsAt e k number attempt
  pub request : request_in attempt.phase ≡ Some conn

-- marker k's next step requests a connector or tries to seize it
pub record AsksFor (e : Exchange) (k : ℕ) (conn : Conn) : Type 0 where
  pub number : ℕ
  pub attempt : Attempt
  pub at : IsAt e k number attempt
  pub asked : asked_in attempt.phase ≡ Some conn

-- a connector's word tells the truth: its lowest six bits are one more than the number of the
-- marker that holds the connector, and 0 if none does; bit 8 + k is set if marker k has requested
-- it; no other bit is set
pub record TellsTruth (e : Exchange) (conn : Conn) (word : ℕ) : Type 0 where
  pub holder : (k : ℕ) → (word % 64 ≡ k + 1) ↔ Holds e k conn
  pub free : ((k : ℕ) → ¬ Holds e k conn) → word % 64 ≡ 0
  pub requests : (k : ℕ) → k < 48 → (bit_at word (8 + k) ≡ 1) ↔ HasRequested e k conn
  pub others : (bit : ℕ) → ((6 ≤ bit) × (bit < 8)) ⊎ (56 ≤ bit) → bit_at word bit ≡ 0

-- the words once all effects are made that markers past their turns have left
abbrev pub completed : Tables → Exchange → List ℕ
completed plan e = worlds.completed (office plan) (world plan e)
