use Rattle.std.proofs.Common.{rules}
use Rattle.std.proofs.lemmas.List.Elements.{All-push}
use Rattle.benches.proofs.live.calls.Goals as goal

pub loop-no-preserved : goal.loop-no-preserved
loop-no-preserved c = search (rules, All-push)
