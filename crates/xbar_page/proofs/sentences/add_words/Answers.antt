use Rattle.std.proofs.Common.{append_assoc}
use Rattle.xbar_page.specs.Section.{words_text}
use Rattle.xbar_page.proofs.sentences.add_words.Goals as goal

pub returns : goal.returns
unfolding words_text
returns c =
    rw (c.in_ok-push_str-2.ensures.bytes, c.in_ok-add_cards.ensures, c.in_ok-add_sentences.ensures, c.in_ok-push_str.ensures.bytes) (simp append_assoc)
