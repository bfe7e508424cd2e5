use Rattle.std.proofs.Common.{append_assoc}
use Rattle.xbar_page.specs.Section.{card_inset, inset_text}
use Rattle.xbar_page.proofs.section.add_card_inset.Goals as goal

pub returns : goal.returns
unfolding card_inset inset_text
returns c =
    rw (
      c.in_ok-push_str.ensures.bytes,
      c.in_ok-add_card.ensures,
      c.in_ok-add_inset_start.ensures,
    )
    (simp append_assoc)
