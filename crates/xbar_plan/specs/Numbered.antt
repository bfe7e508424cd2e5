use Rattle.std.specs.Prelude.{ℕ, ◌+◌, ◌*◌}
use Rattle.xbar_equip.specs.Ten.{TrunkPlace}
use Rattle.xbar_equip.specs.Link.{Link}
use Rattle.xbar_equip.specs.declared.link.LinkKind.{LinkKind}
use Rattle.xbar_equip.specs.declared.link.LinkKind.TheVariants.{LineLink, Junctor, TrunkLink}

-- the number of a trunk place, which its text writes in three digits
abbrev pub place_number : TrunkPlace → ℕ
place_number place = 100 * place.frame + 10 * place.switch + place.appearance

-- the number of links of the kinds before this one, a thousand of each
abbrev pub links_before : LinkKind → ℕ
links_before LineLink = 0
links_before Junctor = 1000
links_before TrunkLink = 2000

-- the number of a link among the links of all three kinds
abbrev pub link_number : Link → ℕ
link_number link = links_before link.kind + (100 * link.frame + 10 * link.at + link.channel)
