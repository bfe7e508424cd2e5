use Rattle.std.proofs.Common.{◌≡◌, ◌++◌, take, flat_map, string_bytes}
use Rattle.xbar_office_text.specs.Picture.{picture}
use Rattle.xbar_office_text.proofs.picture.add_pictures.Given as goal

abbrev pub invariant-loop-path : goal.invariant-loop-path
invariant-loop-path l = string_bytes l.text ≡ string_bytes l.initial.text ++ flat_map (picture l.plan) (take l.path-index l.paths)
