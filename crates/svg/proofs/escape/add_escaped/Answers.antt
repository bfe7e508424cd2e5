use Rattle.std.proofs.Common.{flat_map, List, ℕ, ◌++◌, sym, ap, ◌∙◌, map-id, string_bytes}
use Rattle.{std.proofs.lemmas.Iterator.{YieldsList-from_chars, Consumers.YieldsList-end}, svg.specs.Escape.escaped_character}
use Rattle.svg.proofs.escape.add_escaped.Goals as goal

pub returns : goal.returns
returns c =
    let end =
    YieldsList-end (YieldsList-from_chars c.args.content.now c.utf8.content cc) c.loop-character.yielded _ c.loop-character.yielded_by _ _ c.in-None.is
    c.next.ensures.steps in
    c.loop-character.invariant
    ∙ ap (λ (read : List ℕ). string_bytes c.args.text.now ++ flat_map escaped_character read) (sym (map-id c.loop-character.yielded) ∙ end.0)
