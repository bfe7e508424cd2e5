use Rattle.std.proofs.Common.{append_assoc}
use Rattle.xbar_page.specs.Picture.{stay_text}
use Rattle.xbar_page.proofs.picture.add_stay.Goals as goal

pub returns : goal.returns
unfolding stay_text
returns c =
    rw (
      c.in_ok-push_str-2.ensures.bytes,
      c.in_ok-add_path_alone.ensures,
      c.in_ok-push_str.ensures.bytes,
      c.in_ok-add_escaped.ensures,
      c.in_ok-write-2.ensures.bytes,
      c.in_ok-add_until.ensures,
      c.in_ok-write.ensures.bytes,
      c.as_str.ensures.value,
      c.in_ok-end.ensures,
    )
    (simp append_assoc)
