use Rattle.std.proofs.Common.{append_assoc}
use Rattle.xbar_page.specs.Links.{nav_text}
use Rattle.xbar_page.proofs.links.add_nav.Goals as goal

pub returns : goal.returns
unfolding nav_text
returns c =
    rw (
      c.in_ok-push_str-2.ensures.bytes,
      c.in_ok-add_next_link.ensures,
      c.in_ok-add_link.ensures,
      c.in_ok-push_str.ensures.bytes,
    )
    (simp append_assoc)
