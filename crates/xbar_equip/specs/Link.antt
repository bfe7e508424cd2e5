use Rattle.std.specs.Prelude.{ℕ, ◌<◌, ◌==◌, ◌&&◌, ◌||◌, nat_lt, not, Bool, true, false, Option, List, [], ◌∷◌, ◌++◌, length, drop, codes, nat_eq}
use Rattle.std.specs.List.{starts_with}
use Rattle.xbar_equip.specs.Digits.{digit, are_digits}
use Rattle.xbar_equip.specs.Fault.{first_fault}
use Rattle.xbar_equip.specs.declared.fault.EquipFault.{EquipFault}
use Rattle.xbar_equip.specs.declared.link.LinkKind.{LinkKind}
use Rattle.xbar_equip.specs.declared.link.LinkKind.TheVariants.{LineLink, Junctor, TrunkLink}

-- a link: `frame` and `at` are the frame and the switch of a line link or trunk link, but the line
-- link frame and the trunk link frame of a junctor; `channel` is the link's number there
pub record Link : Type 0 where
  pub kind : LinkKind
  pub frame : ℕ
  pub at : ℕ
  pub channel : ℕ

-- the link exists: there are a thousand links of each kind
pub record IsLink (link : Link) : Type 0 where
  pub frame : link.frame < 10
  pub at : link.at < 10
  pub channel : link.channel < 10

-- `IsLink` as a test
abbrev pub is_link : Link → Bool
is_link link = nat_lt link.frame 10 && nat_lt link.at 10 && nat_lt link.channel 10

-- the two letters that a link's text begins with
abbrev pub letters : LinkKind → List ℕ
letters LineLink = codes "LL"
letters Junctor = codes "JU"
letters TrunkLink = codes "TL"

-- the text of a link: two letters and three digits, as in `JU340`
abbrev pub link_text : Link → List ℕ
link_text link = letters link.kind ++ digit link.frame ∷ digit link.at ∷ digit link.channel ∷ []

-- whether a text begins with the letters of a kind of link
abbrev pub has_letters : List ℕ → Bool
has_letters text =
    starts_with nat_eq text (letters LineLink) || starts_with nat_eq text (letters Junctor)
    || starts_with nat_eq text (letters TrunkLink)

-- the fault, if any, of a link's text: wrong letters count as bytes that are not digits
abbrev pub link_fault : List ℕ → Option EquipFault
link_fault text =
    first_fault (not (length text == 5)) (not (has_letters text && are_digits (drop 2 text))) false

-- whether two kinds are the same
abbrev pub kind_eq : LinkKind → LinkKind → Bool
kind_eq LineLink LineLink = true
kind_eq Junctor Junctor = true
kind_eq TrunkLink TrunkLink = true
kind_eq _ _ = false

-- whether two links are the same
abbrev pub link_eq : Link → Link → Bool
link_eq a b = kind_eq a.kind b.kind && a.frame == b.frame && a.at == b.at && a.channel == b.channel
