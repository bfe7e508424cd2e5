use Rattle.std.proofs.Common.{append_assoc}
use Rattle.xbar_page.specs.Section.{inset_start}
use Rattle.xbar_page.proofs.section.add_inset_start.Goals as goal

pub returns : goal.returns
unfolding inset_start
returns c =
    rw (
      c.in_ok-writeln.ensures.bytes,
      c.in_ok-push_str.ensures.bytes,
    )
    (simp append_assoc)
