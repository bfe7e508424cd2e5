use Rattle.std.specs.Prelude.{◌<◌, List}
use Rattle.turns.specs.Among.{IsIn}
use Rattle.turns.specs.System.{AreUnder}
use Rattle.turns.specs.declared.wanted.Wanted.TheVariants.{Seize, Test}
use Rattle.xbar_equip.specs.Conn.{IsConn}
use Rattle.xbar_equip.specs.Word.{word_count}
use Rattle.xbar_equip.specs.declared.conn.Conn.{Conn}
use Rattle.xbar_plan.specs.Tables.{Tables}
use Rattle.xbar_match.specs.Effects.{IsCrosspoint}
use Rattle.xbar_jobs.specs.Closing.{effects as effects_of}
use Rattle.xbar_jobs.specs.Office.{office}
use Rattle.xbar_jobs.specs.Script.{Wanted}
use Rattle.xbar_jobs.specs.declared.decision.Decision.{Decision}
use Rattle.xbar_jobs.specs.declared.effect.Effect.{Effect}
use Rattle.xbar_jobs.specs.declared.effect.Effect.TheVariants.{Close, Open, SetBit, ClearBit}

-- an effect of the office: on one of its crosspoints, or on the bit of one of forty members of one
-- of sixteen groups
abbrev pub IsEffect : Effect → Type 0
IsEffect (Close c) = IsCrosspoint c
IsEffect (Open c) = IsCrosspoint c
IsEffect (SetBit number index) = (number < 16) × (index < 40)
IsEffect (ClearBit number index) = (number < 16) × (index < 40)

-- all of these are effects of the office
abbrev pub AreEffects : List Effect → Type 0
AreEffects effects = (effect : Effect) → IsIn effect effects → IsEffect effect

-- a decision has effects of the office, on words that these connectors protect
pub record IsCovered (plan : Tables) (held : List Conn) (decision : Decision) : Type 0 where
  pub effects : AreEffects (effects_of decision)
  pub under : AreUnder (office plan) held (effects_of decision)

-- what a walk needs next is a connector or a word of the office
abbrev pub IsWanted : Wanted → Type 0
IsWanted (Seize conn) = IsConn conn
IsWanted (Test word) = word < word_count
