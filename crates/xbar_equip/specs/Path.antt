use Rattle.std.specs.Prelude.{◌≡◌, ℕ, ◌⊎◌, List, ◌++◌, codes}
use Rattle.std.specs.Ordering.{nat_cmp, ordering_then}
use Rattle.std.specs.declared.cmp.Ordering.{Ordering}
use Rattle.xbar_equip.specs.Len.{Line, IsLine, line_text, line_cmp}
use Rattle.xbar_equip.specs.Ten.{TrunkPlace, IsTrunkPlace, place_text, place_cmp}
use Rattle.xbar_equip.specs.Channel.{IsChannel, channel_text}
use Rattle.xbar_equip.specs.Link.{Link}
use Rattle.xbar_equip.specs.declared.link.LinkKind.TheVariants.{LineLink, Junctor, TrunkLink}
use Rattle.xbar_equip.specs.declared.path.Path.{Path}

-- the numbers of the path are in range
pub record IsPath (path : Path) : Type 0 where
  pub line : IsLine path.line
  pub channel : IsChannel path.channel
  pub place : IsTrunkPlace path.place

-- the path between a line and a trunk place by a channel
abbrev pub path_by : Line → TrunkPlace → ℕ → Path
path_by line place channel = record { line = line; channel = channel; place = place }

-- the path's line link, from the line's switch
abbrev pub line_link : Path → Link
line_link path = record {
  kind = LineLink;
  frame = path.line.frame;
  at = path.line.switch;
  channel = path.channel;
}

-- the path's junctor, between its two frames
abbrev pub junctor : Path → Link
junctor path = record {
  kind = Junctor;
  frame = path.line.frame;
  at = path.place.frame;
  channel = path.channel;
}

-- the path's trunk link, to the trunk place's switch
abbrev pub trunk_link : Path → Link
trunk_link path = record {
  kind = TrunkLink;
  frame = path.place.frame;
  at = path.place.switch;
  channel = path.channel;
}

-- two paths have a part in common: the line, the place, the line link, the junctor or the trunk
-- link
abbrev pub SharesPart : Path → Path → Type 0
SharesPart p q =
    (p.line ≡ q.line) ⊎ (p.place ≡ q.place) ⊎ (line_link p ≡ line_link q) ⊎ (junctor p ≡ junctor q)
    ⊎ (trunk_link p ≡ trunk_link q)

-- the text of a path: line, channel and place, joined by dashes, as in `3041-0-417`
abbrev pub path_text : Path → List ℕ
path_text path =
    line_text path.line ++ codes "-" ++ channel_text path.channel ++ codes "-"
    ++ place_text path.place

-- the order of paths, by line, then channel, then place, which is also the order of their texts
abbrev pub path_cmp : Path → Path → Ordering
path_cmp p q =
    ordering_then (line_cmp p.line q.line)
    (ordering_then (nat_cmp p.channel q.channel) (place_cmp p.place q.place))
