use Rattle.std.proofs.Common.{append_assoc}
use Rattle.xbar_page.specs.Section.{path_inset, inset_text}
use Rattle.xbar_page.proofs.section.add_path_inset.Goals as goal

pub returns : goal.returns
unfolding path_inset inset_text
returns c =
    rw (
      c.in_ok-push_str.ensures.bytes,
      c.in_ok-add_path_card.ensures,
      c.in_ok-add_inset_start.ensures,
    )
    (simp append_assoc)
