use Rattle.std.proofs.Common.{[]}
use Rattle.xbar_traffic.proofs.OneReading.{rows_of_mode}
use Rattle.xbar_traffic.proofs.laws.rows_are_of_their_mode.Goals as goal

pub returns : goal.returns
returns c mode records rows fault h = rows_of_mode mode [] records rows fault h
