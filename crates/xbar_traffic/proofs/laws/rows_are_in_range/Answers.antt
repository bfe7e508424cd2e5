use Rattle.std.proofs.Common.{[]}
use Rattle.xbar_traffic.proofs.OneReading.{rows_in_range}
use Rattle.xbar_traffic.proofs.laws.rows_are_in_range.Goals as goal

pub returns : goal.returns
returns c mode records rows fault h = rows_in_range mode [] records rows fault h
