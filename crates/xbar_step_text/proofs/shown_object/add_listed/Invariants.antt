use Rattle.std.proofs.Common.{[], codes, string_bytes}
use Rattle.xbar_step_text.{specs.{Objects.item_object, Shown.is_shown}, proofs.Listed.IsListed}
use Rattle.xbar_step_text.proofs.shown_object.add_listed.Given as goal

abbrev pub invariant-loop-position : goal.invariant-loop-position
invariant-loop-position l =
    IsListed (is_shown l.place l.word) (item_object l.place l.word) l.position [] (codes ",") (string_bytes l.initial.text) (string_bytes l.text) l.any
