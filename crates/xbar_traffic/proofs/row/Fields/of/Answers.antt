use Rattle.std.proofs.Common.{rules, ◌≡◌, [], length}
use Rattle.{csv.specs.Records.fields_of, xbar_traffic.proofs.FiveFields.list_of_five}
use Rattle.xbar_traffic.proofs.row.Fields.of.Goals as goal

pub returns : goal.returns
returns c =
    let five : length (fields_of c.args.row.now) ≡ 5 = search rules in
    let whole = list_of_five (fields_of c.args.row.now) [] five in
    cc
