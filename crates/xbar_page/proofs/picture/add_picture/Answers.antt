use Rattle.std.proofs.Common.{append_assoc}
use Rattle.xbar_page.specs.Picture.{picture_text}
use Rattle.xbar_page.proofs.picture.add_picture.Goals as goal

pub returns : goal.returns
unfolding picture_text
returns c =
    rw (
      c.in_ok-push_str-4.ensures.bytes,
      c.in_ok-add_stays.ensures,
      c.in_ok-add_office.ensures,
      c.in_ok-push_str-3.ensures.bytes,
      c.in_ok-add_count.ensures,
      c.in_ok-push_str-2.ensures.bytes,
      c.in_ok-add_shapes.ensures,
      c.in_ok-push_str.ensures.bytes,
      c.last_count.ensures,
    )
    (simp append_assoc)
