use Rattle.std.proofs.Common.{◌≡◌, arith, decimal, string_bytes}
use Rattle.{turns.specs.Sharings.preferring, xbar_look.proofs.Told.{all_told, next_told, none_told}}
use Rattle.xbar_look.proofs.connectors.add_listed_requesters.Goals as goal

pub loop-marker-init : goal.loop-marker-init
loop-marker-init c = none_told (string_bytes c.args.text.now)

pub loop-marker-preserved : goal.loop-marker-preserved
loop-marker-preserved c =
    next_told (λ k. preferring.requests k c.args.word) decimal c.loop-marker.marker _ _ _ c.loop-marker.invariant _ _ c.in_ok-some.ensures.any
    c.in_ok-some.ensures.text

pub returns : goal.returns
returns c =
    let all : c.loop-marker.marker ≡ 48 = omega (arith, c.loop-marker-test.false, c.loop-marker.auto.marker-end) in
    all_told (λ k. preferring.requests k c.args.word) decimal c.loop-marker.marker _ _ _ c.loop-marker.invariant 48 all
