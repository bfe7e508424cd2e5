use Rattle.slots.specs.declared.effect.Effect.TheVariants.{Mark}
use Rattle.slots.proofs.laws.slots_are_marked_free.Goals as goal

pub returns : goal.returns
returns c = λ w k number a slot law there acts. c.words_are_their_holders.ensures.due tt w k number a (Mark slot) law there acts
