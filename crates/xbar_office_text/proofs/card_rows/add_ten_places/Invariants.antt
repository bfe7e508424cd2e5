use Rattle.std.proofs.Common.{◌≡◌, ◌++◌, ◌==◌, codes, flat_map, string_bytes}
use Rattle.{std.specs.List.range_with_len, xbar_office_text.specs.CardRows.mark}
use Rattle.xbar_office_text.proofs.card_rows.add_ten_places.Given as goal

abbrev pub invariant-loop-place : goal.invariant-loop-place
invariant-loop-place l =
    string_bytes l.text ≡ string_bytes l.initial.text ++ flat_map (λ place. codes " " ++ mark (place == l.digit)) (range_with_len 0 l.place)
