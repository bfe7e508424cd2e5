use Rattle.std.proofs.Common.{◌≤◌, ◌++◌, length, ◌∙◌, ap, arith, ◌||◌, [], codes, nat_lt, slice_index, string_bytes, if◌then◌else◌}
use Rattle.{xbar_equip.specs.Word.{ConnWord, word_number}, xbar_look.specs.Connectors.{all_conns, connector_object, connector_objects}}
use Rattle.xbar_look.proofs.Told.{all_items, next_item, none_told}
use Rattle.xbar_look.proofs.connectors.add_listed_connectors.Goals as goal

pub loop-place-init : goal.loop-place-init
loop-place-init c = none_told (string_bytes c.args.text.now)

pub loop-place-preserved : goal.loop-place-preserved
loop-place-preserved c =
    let words = c.args.words.now in
    let conn = c.conn_at-conn.result in
    let word = c.word_of.ensures in
    next_item (λ conn. nat_lt 0 (slice_index words (word_number (ConnWord conn))))
    (λ conn. connector_object conn (slice_index words (word_number (ConnWord conn)))) all_conns c.loop-place.place _ _ _ c.loop-place.invariant conn _ _
    c.conn_at-conn.ensures.conn
    (c.in_ok-some.ensures.any ∙ ap (λ w. c.loop-place.any || nat_lt 0 w) word)
    (c.in_ok-some.ensures.text
    ∙ ap (λ w. string_bytes c.loop-place.text ++ (if nat_lt 0 w then (if c.loop-place.any then codes "," else []) ++ connector_object conn w else [])) word)

pub returns : goal.returns
unfolding connector_objects
returns c =
    let words = c.args.words.now in
    let all : length all_conns ≤ c.loop-place.place = omega (arith, c.loop-place-test.false) in
    all_items (λ conn. nat_lt 0 (slice_index words (word_number (ConnWord conn))))
    (λ conn. connector_object conn (slice_index words (word_number (ConnWord conn)))) all_conns c.loop-place.place _ _ _ c.loop-place.invariant all
