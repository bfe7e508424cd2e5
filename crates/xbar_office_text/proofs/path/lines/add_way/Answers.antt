use Rattle.std.proofs.Common.{string_bytes}
use Rattle.xbar_office_text.{specs.PathLines.{edges_line, frames_line, links_line, title_line}, proofs.Joined.four_joined}
use Rattle.xbar_office_text.proofs.path.lines.add_way.Goals as goal

pub returns : goal.returns
unfolding title_line frames_line links_line edges_line
returns c =
    let path = c.args.path.now in
    rw (
      c.in_ok-push_str.ensures.bytes,
      c.in_ok-writeln-3.ensures.bytes,
      c.in_ok-writeln-2.ensures.bytes,
      c.in_ok-writeln.ensures.bytes,
      c.frame-line_frame.ensures.value,
      c.frame-trunk_frame.ensures.value,
      c.line_link-line_link.ensures,
      c.junctor-junctor.ensures,
      c.trunk_link-trunk_link.ensures,
    )
    (four_joined (string_bytes c.args.text.now) (title_line path c.args.member.now) (frames_line path) (links_line path) edges_line)
