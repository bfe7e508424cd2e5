use Rattle.std.proofs.Common.{◌≡◌, ◌++◌, take, flat_map, string_bytes}
use Rattle.xbar_page.specs.Picture.{stay_text}
use Rattle.xbar_page.proofs.picture.add_stays.Given as goal

abbrev pub invariant-loop-stay : goal.invariant-loop-stay
invariant-loop-stay l = string_bytes l.text ≡ string_bytes l.initial.text ++ flat_map (stay_text l.plan) (take l.stay-index l.stays)
