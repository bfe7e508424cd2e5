use Rattle.std.specs.Prelude.{ℕ}
use Rattle.xbar_plan.specs.Tables.{Tables}
use Rattle.xbar_moves.specs.Exchange.{Exchange}
use Rattle.xbar_moves.specs.Moves.{given_back}
use Rattle.xbar_moves.specs.Settling.{ended, ended_past_turn}
use Rattle.xbar_walk.specs.Walks.{Walk, walk_of_end, walk_of_end_past_turn, walk_of_give_back}
use Rattle.xbar_walk.specs.declared.settling.Part.{Part}
use Rattle.xbar_walk.specs.declared.settling.Part.TheVariants.{EndPastTurn, GiveBack, End}

-- the office after one marker's part of settling
abbrev pub after_part : Part → Tables → ℕ → Exchange → Exchange
after_part EndPastTurn = ended_past_turn
after_part GiveBack = given_back
after_part End = ended

-- a walk goes on with one marker's part of settling
abbrev pub walk_of_part : Part → ℕ → Walk → Walk
walk_of_part EndPastTurn = walk_of_end_past_turn
walk_of_part GiveBack = walk_of_give_back
walk_of_part End = walk_of_end
