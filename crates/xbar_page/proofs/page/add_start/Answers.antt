use Rattle.std.proofs.Common.{append_assoc}
use Rattle.xbar_page.specs.Page.{start_text}
use Rattle.xbar_page.proofs.page.add_start.Goals as goal

pub returns : goal.returns
unfolding start_text
returns c =
    rw (
      c.in_ok-add_section_end.ensures,
      c.in_ok-writeln.ensures.bytes,
      c.in_ok-push_str-2.ensures.bytes,
      c.in_ok-add_start_nav.ensures,
      c.in_ok-push_str.ensures.bytes,
      c.turn_at.ensures,
    )
    (simp append_assoc)
