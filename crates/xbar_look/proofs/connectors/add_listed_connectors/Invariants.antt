use Rattle.std.proofs.Common.{map, take, filter, nat_lt, slice_index, string_bytes}
use Rattle.{xbar_equip.specs.Word.{ConnWord, word_number}, xbar_look.{specs.Connectors.{all_conns, connector_object}, proofs.Told.AreTold}}
use Rattle.xbar_look.proofs.connectors.add_listed_connectors.Given as goal

abbrev pub invariant-loop-place : goal.invariant-loop-place
invariant-loop-place l =
    AreTold (map (λ conn. connector_object conn (slice_index l.words (word_number (ConnWord conn))))
    (filter (λ conn. nat_lt 0 (slice_index l.words (word_number (ConnWord conn)))) (take l.place all_conns))) (string_bytes l.initial.text)
    (string_bytes l.text) l.any
