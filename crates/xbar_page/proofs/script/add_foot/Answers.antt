use Rattle.std.proofs.Common.{append_assoc}
use Rattle.xbar_page.specs.Page.{foot_text}
use Rattle.xbar_page.proofs.script.add_foot.Goals as goal

pub returns : goal.returns
unfolding foot_text
returns c =
    rw (
      c.in_ok-push_str-3.ensures.bytes,
      c.in_ok-push_str-2.ensures.bytes,
      c.in_ok-push_str.ensures.bytes,
    )
    (simp append_assoc)
