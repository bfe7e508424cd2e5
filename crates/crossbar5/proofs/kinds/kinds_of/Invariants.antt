use Rattle.crossbar5.proofs.KindLetters.{AreRead}
use Rattle.crossbar5.proofs.kinds.kinds_of.Given as goal

abbrev pub invariant-loop-letter : goal.invariant-loop-letter
invariant-loop-letter l = AreRead l.letters l.kinds.items l.letter-index
