-- The lines of the links that are out of order are whole, and none is the title of a card.
use Rattle.std.proofs.Common.{◌≡◌, ℕ, false, List, [], ◌∷◌, ◌++◌, refl, codes, flat_map}
use Rattle.xbar_equip.specs.{Link.{Link, letters}, declared.link.LinkKind.{LinkKind, TheVariants.{LineLink, Junctor, TrunkLink}}, TextLines.IsWholeLine}
use Rattle.xbar_office_text.specs.{Faults.{whereabouts, fault_line, fault_lines}, Titles.is_title}
use Rattle.xbar_office_text.proofs.{OtherLines.{IsOther, HasNoTitle, none_append, none_flat_map, none_line, none_nothing}, PlainTexts.plain_decimal}
use Rattle.xbar_office_text.proofs.{PlainTexts.plain_link, WholeLines.{IsPlain, plain_append, plain_nothing, plain_with, whole_append, whole_feed, whole_with}}

plain_whereabouts : (kind : LinkKind) (link : Link) → IsPlain (whereabouts kind link)
plain_whereabouts LineLink link =
    plain_with (codes "at line switch ") refl (plain_append (plain_decimal link.frame)
    (plain_with (codes ",") refl (plain_append (plain_decimal link.at) plain_nothing)))
plain_whereabouts Junctor link =
    plain_with (codes "from line link frame ") refl (plain_append (plain_decimal link.frame)
    (plain_with (codes " to trunk link frame ") refl (plain_append (plain_decimal link.at) plain_nothing)))
plain_whereabouts TrunkLink link =
    plain_with (codes "at trunk switch ") refl (plain_append (plain_decimal link.frame)
    (plain_with (codes ",") refl (plain_append (plain_decimal link.at) plain_nothing)))

letters_unlike : (kind : LinkKind) (digits rest : List ℕ) → is_title ((letters kind ++ digits) ++ rest) ≡ false
letters_unlike LineLink digits rest = refl
letters_unlike Junctor digits rest = refl
letters_unlike TrunkLink digits rest = refl

fault_line_whole : (link : Link) → IsWholeLine (fault_line link)
unfolding fault_line
fault_line_whole link =
    whole_append (plain_link link) (whole_with (codes ": channel ") refl (whole_append (plain_decimal link.channel) (whole_with (codes ", ") refl
    (whole_append (plain_whereabouts link.kind link) whole_feed))))

fault_line_unlike : (link : Link) → is_title (fault_line link) ≡ false
unfolding fault_line
fault_line_unlike link = letters_unlike link.kind _ _

each_line : (links : List Link) → HasNoTitle (flat_map fault_line links)
each_line links =
    none_flat_map fault_line links (λ link. none_line (fault_line link) (record { whole = fault_line_whole link; other = fault_line_unlike link }))

blank_line : IsOther (10 ∷ [])
blank_line = record { whole = whole_feed; other = refl }

heading_line : IsOther (codes "LINKS OUT OF ORDER\n")
heading_line = record { whole = whole_with (codes "LINKS OUT OF ORDER") refl whole_feed; other = refl }

pub none_in_faults : (links : List Link) → HasNoTitle (fault_lines links)
unfolding fault_lines
none_in_faults [] = none_nothing
none_in_faults (link ∷ links) =
    none_append (codes "\nLINKS OUT OF ORDER\n") (flat_map fault_line (link ∷ links))
    (none_append (10 ∷ []) (codes "LINKS OUT OF ORDER\n") (none_line (10 ∷ []) blank_line) (none_line (codes "LINKS OUT OF ORDER\n") heading_line))
    (each_line (link ∷ links))
