use Rattle.std.proofs.Common.{rules, ◌≡◌, true}
use Rattle.{std.proofs.lemmas.Str.IsUtf8-from_ascii, xbar_plan.specs.Lawful.{is_name as is_group_name}, xbar_plan_text.proofs.Names.name-ascii}
use Rattle.xbar_plan_text.proofs.read.groups.read_name.Goals as goal

pub unreachable-requires : goal.unreachable-requires
unreachable-requires c =
    let name : is_group_name c.args.text.now ≡ true = search rules in
    (c.in_default.ensures.cases).0 (IsUtf8-from_ascii c.args.text.now (name-ascii c.args.text.now name))
