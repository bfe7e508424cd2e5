use Rattle.std.proofs.Common.{[]}
use Rattle.xbar_traffic.proofs.OneReading.{one_traffic}
use Rattle.xbar_traffic.proofs.laws.records_are_one_traffic.Goals as goal

pub returns-clause-rows : goal.returns-clause-rows
returns-clause-rows c mode records rows rows' fault fault' h j = (one_traffic mode [] records rows rows' fault fault' h j).0

pub returns-clause-fault : goal.returns-clause-fault
returns-clause-fault c mode records rows rows' fault fault' h j = (one_traffic mode [] records rows rows' fault fault' h j).1
