use Rattle.{std.specs.Prelude.{decimal, string_bytes}, turns.specs.Sharings.preferring, xbar_look.proofs.Told.{AreTold, told_below}}
use Rattle.xbar_look.proofs.connectors.add_listed_requesters.Given as goal

abbrev pub invariant-loop-marker : goal.invariant-loop-marker
invariant-loop-marker l = AreTold (told_below (λ k. preferring.requests k l.word) decimal l.marker) (string_bytes l.initial.text) (string_bytes l.text) l.any
