use Rattle.std.proofs.Common.{◌≡◌, ◌∙◌, refl, Option, None, IfSome}
use Rattle.{xbar_equip.specs.{Path.IsPath, declared.path.Path.Path}, xbar_office.specs.declared.reply.End.{End, TheVariants.{Connected, Released}}}
use Rattle.xbar_report.specs.{Parts.end_second, Ranges.IsEnd, Text.path_field}
use Rattle.xbar_report.proofs.fields.named_end.Goals as goal

-- the last field of an end is that of a path, or of none
second_of : (end : End) → IsEnd end → (path : Option Path) × IfSome path IsPath × (end_second end ≡ path_field path)
second_of (Connected calling called trial) h = (called, h.1, refl)
second_of (Released own other) h = (other, h.1, refl)
second_of _ h = (None, tt, refl)

pub returns-in_err-other : goal.returns-in_err-other
returns-in_err-other c end range name trial first second =
    let (path, fits, same) = second_of end range in
    let read = c.in_err-other.ensures path fits (second ∙ same) in
    cc
