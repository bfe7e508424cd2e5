use Rattle.xbar_look.{specs.Look.look_object, proofs.Parts.{empty, then}}
use Rattle.xbar_look.proofs.look.look_json.Goals as goal

pub returns : goal.returns
unfolding look_object
returns c =
    let plan = then _ _ _ _ (then _ _ _ _ (empty _ c.new-text.ensures.bytes) c.in_ok-push_str.ensures.bytes) c.in_ok-add_json.ensures in
    let markers = then _ _ _ _ (then _ _ _ _ plan c.in_ok-push_str-2.ensures.bytes) c.in_ok-add_markers.ensures in
    let connectors = then _ _ _ _ (then _ _ _ _ markers c.in_ok-push_str-3.ensures.bytes) c.in_ok-add_connectors.ensures in
    let shown = then _ _ _ _ (then _ _ _ _ connectors c.in_ok-push_str-4.ensures.bytes) c.in_ok-add_shown.ensures in
    let records = then _ _ _ _ (then _ _ _ _ shown c.in_ok-push_str-5.ensures.bytes) c.in_ok-add_array.ensures in
    let words = then _ _ _ _ (then _ _ _ _ records c.in_ok-push_str-6.ensures.bytes) c.in_ok-add_words.ensures in
    let events = then _ _ _ _ (then _ _ _ _ words c.in_ok-push_str-7.ensures.bytes) c.in_ok-push_str-8.ensures.bytes in
    rw (← c.plan.ensures, ← c.words-words.ensures.words, ← c.markers.ensures, ← c.records.ensures.records)
    (then _ _ _ _ events c.in_ok-push_str-9.ensures.bytes).is
