use Rattle.std.proofs.Common.{◌≡◌, ◌++◌, flat_map, string_bytes}
use Rattle.svg.specs.Escape.{escaped_character}
use Rattle.svg.proofs.escape.add_escaped.Given as goal

abbrev pub invariant-loop-character : goal.invariant-loop-character
invariant-loop-character l = string_bytes l.text ≡ string_bytes l.initial.text ++ flat_map escaped_character l.yielded
