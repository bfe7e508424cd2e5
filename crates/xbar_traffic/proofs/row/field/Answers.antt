use Rattle.{csv.specs.Records.fields_of, xbar_traffic.proofs.FiveFields.{field_found, field_is_there}}
use Rattle.xbar_traffic.proofs.row.field.Goals as goal

pub unwrap-requires : goal.unwrap-requires
unwrap-requires c = field_is_there (λ s. s.now) (fields_of c.args.row.now) c.args.index c.get.result c.requires c.get.ensures.value

pub returns : goal.returns
returns c =
    field_found (λ s. s.now) (fields_of c.args.row.now) c.args.index c.get.result c.unwrap.result c.get.ensures.value c.unwrap.ensures
