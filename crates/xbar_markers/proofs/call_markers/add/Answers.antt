use Rattle.std.proofs.Common.{◌≡◌, ◌+◌, ◌∙◌, ap, arith, length, length-append, replicate}
use Rattle.std.proofs.lemmas.List.{length-replicate}
use Rattle.xbar_markers.proofs.call_markers.add.Goals as goal

pub push-requires : goal.push-requires
push-requires c =
    let size : length c.loop.kinds.items ≡ length c.args.kinds.now.items + length (replicate c.loop.counter c.args.kind) =
    ap length c.loop.invariant ∙ length-append c.args.kinds.now.items (replicate c.loop.counter c.args.kind) in
    omega (arith, size, length-replicate c.loop.counter c.args.kind, c.requires, c.loop-test.true)
