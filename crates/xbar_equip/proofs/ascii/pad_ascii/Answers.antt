use Rattle.std.proofs.lemmas.Str.{IsUtf8-from_ascii}
use Rattle.xbar_equip.proofs.ascii.pad_ascii.Goals as goal

pub unreachable-requires : goal.unreachable-requires
unreachable-requires g c = c.in_default.ensures.cases.0 (IsUtf8-from_ascii c.args.text.now c.requires)
