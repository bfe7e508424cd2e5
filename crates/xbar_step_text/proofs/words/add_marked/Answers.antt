use Rattle.std.proofs.Common.{append_assoc, append-nil}
use Rattle.xbar_step_text.specs.Words.{marked_words}
use Rattle.xbar_step_text.proofs.words.add_marked.Goals as goal

pub returns : goal.returns
unfolding marked_words
returns c = rw (c.in_ok-write.ensures.bytes, c.in_ok-add_shown.ensures) (simp (append_assoc, append-nil))
