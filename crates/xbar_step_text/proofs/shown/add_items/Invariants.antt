use Rattle.{std.specs.Prelude.string_bytes, xbar_step_text.proofs.Listed.IsShownTo}
use Rattle.xbar_step_text.proofs.shown.add_items.Given as goal

abbrev pub invariant-loop-position : goal.invariant-loop-position
invariant-loop-position l = IsShownTo l.place l.word l.head l.separator (string_bytes l.initial.text) (string_bytes l.text) l.any l.position
