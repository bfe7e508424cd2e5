use Rattle.slots.proofs.RunByHand.{worked_words, worked_replies}
use Rattle.slots.proofs.laws.two_actors_take_slots.Goals as goal

pub returns-clause-words : goal.returns-clause-words
returns-clause-words c = worked_words

pub returns-clause-replies : goal.returns-clause-replies
returns-clause-replies c = worked_replies
