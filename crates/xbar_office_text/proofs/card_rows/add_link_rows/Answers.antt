use Rattle.std.proofs.Common.{append_assoc, append-nil}
use Rattle.xbar_office_text.specs.CardRows.{link_rows}
use Rattle.xbar_office_text.proofs.card_rows.add_link_rows.Goals as goal

pub returns : goal.returns
unfolding link_rows
returns c =
    rw (
      c.in_ok-add_digit_row-3.ensures,
      c.in_ok-add_digit_row-2.ensures,
      c.in_ok-add_digit_row.ensures,
      c.in_ok-add_row.ensures,
      c.in_ok-add_kind_row.ensures,
      c.digit_names.ensures.second,
      c.digit_names.ensures.first,
      c.kind-kind.ensures,
      c.frame.ensures.value,
      c.at.ensures.value,
      c.channel.ensures.value,
    )
    (simp (append_assoc, append-nil))
