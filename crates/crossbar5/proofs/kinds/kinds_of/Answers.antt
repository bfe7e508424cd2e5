use Rattle.std.proofs.Common.{◌∙◌, ap, map, sym}
use Rattle.crossbar5.{specs.Kinds.letter_of, proofs.KindLetters.{all_read, unknown_letter}}
use Rattle.crossbar5.proofs.kinds.kinds_of.Goals as goal

pub returns-in_err-kind-clause-refused : goal.returns-in_err-kind-clause-refused
returns-in_err-kind-clause-refused c = (
  λ is. unknown_letter c.args.letters.now c.loop-letter.letter-index c.loop-letter-test.true (sym c.in_err-kind.ensures.known),
  λ none. c.from_residual.ensures,
)

pub returns-clause-named : goal.returns-clause-named
returns-clause-named c =
    (all_read c.args.letters.now c.deref.result.now c.loop-letter.letter-index c.new.result
    (ap (map letter_of) c.deref.ensures.0 ∙ c.loop-letter.invariant) c.loop-letter-test.false c.new.ensures.known c.new.ensures.same).0

pub returns-clause-refused : goal.returns-clause-refused
returns-clause-refused c =
    (all_read c.args.letters.now c.deref.result.now c.loop-letter.letter-index c.new.result
    (ap (map letter_of) c.deref.ensures.0 ∙ c.loop-letter.invariant) c.loop-letter-test.false c.new.ensures.known c.new.ensures.same).1
