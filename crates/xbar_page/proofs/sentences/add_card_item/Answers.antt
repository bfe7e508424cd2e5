use Rattle.std.proofs.Common.{append_assoc}
use Rattle.xbar_page.specs.Section.{card_item_text}
use Rattle.xbar_page.proofs.sentences.add_card_item.Goals as goal

pub returns : goal.returns
unfolding card_item_text
returns c = rw (c.in_ok-push_str-2.ensures.bytes, c.in_ok-add_escaped.ensures, c.in_ok-push_str.ensures.bytes) (simp append_assoc)
