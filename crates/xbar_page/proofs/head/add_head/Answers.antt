use Rattle.std.proofs.Common.{append_assoc}
use Rattle.xbar_page.specs.Page.{head_text}
use Rattle.xbar_page.proofs.head.add_head.Goals as goal

pub returns : goal.returns
unfolding head_text
returns c =
    rw (
      c.in_ok-push_str-6.ensures.bytes,
      c.in_ok-push_str-5.ensures.bytes,
      c.in_ok-push_str-4.ensures.bytes,
      c.in_ok-push_str-3.ensures.bytes,
      c.in_ok-push_str-2.ensures.bytes,
      c.in_ok-push_str.ensures.bytes,
      c.style.ensures,
    )
    (simp append_assoc)
