use Rattle.{std.specs.Prelude.{nat_lt, slice_index, string_bytes}, xbar_step_text.specs.Objects.shown_object, xbar_look.proofs.Told.{AreTold, told_below}}
use Rattle.xbar_look.proofs.shown.add_listed_shown.Given as goal

abbrev pub invariant-loop-number : goal.invariant-loop-number
invariant-loop-number l =
    AreTold (told_below (λ n. nat_lt 0 (slice_index l.words n)) (λ n. shown_object n (slice_index l.words n)) l.number) (string_bytes l.initial.text)
    (string_bytes l.text) l.any
