use Rattle.std.proofs.Common.{◌≡◌, ◌≤◌, ◌++◌, true, List, ℕ, append_assoc, length, take, sym, ◌∙◌, ap, subst, arith, [], codes, string_bytes, if◌then◌else◌}
use Rattle.std.proofs.Common.{take_all}
use Rattle.{xbar_equip.proofs.Logic.or_true, xbar_json.specs.Json.listed, xbar_moves.specs.Exchange.Marker}
use Rattle.xbar_look.{specs.Markers.{marker_object, marker_objects}, proofs.{MarkersTold.objects_more, Told.{AreTold, none_told, one_told}}}
use Rattle.xbar_look.proofs.markers.add_listed_markers.Goals as goal

pub loop-number-init : goal.loop-number-init
unfolding marker_objects
loop-number-init c = none_told (string_bytes c.args.text.now)

pub loop-number-preserved : goal.loop-number-preserved
loop-number-preserved c =
    let words = c.args.words.now in
    let markers = c.args.markers.now in
    let n = c.loop-number.number in
    let m = c.index-markers-number.result in
    let comma = c.lead.ensures in
    let object = marker_object words n m in
    let adds : string_bytes c.add_marker.new.text ≡ string_bytes c.loop-number.text ++ ((if c.loop-number.any then codes "," else []) ++ object) =
    c.in_ok-add_marker.ensures
    ∙ ap (λ (text : List ℕ). text ++ object) (c.in_ok-push_str.ensures.bytes ∙ ap (λ (lead : List ℕ). string_bytes c.loop-number.text ++ lead) comma)
    ∙ append_assoc (string_bytes c.loop-number.text) (if c.loop-number.any then codes "," else []) object
    in
    let within = c.loop-number-test.true in
    subst (λ (values : List (List ℕ)). AreTold values (string_bytes c.args.text.now) (string_bytes c.add_marker.new.text) true)
    (sym (objects_more words markers n m c.index-markers-number.is (omega (arith, within, c.requires.count))))
    (one_told (marker_objects words 0 (take n markers)) _ _ c.loop-number.any c.loop-number.invariant object _ true true (sym (or_true c.loop-number.any)) adds)

pub returns : goal.returns
returns c =
    let all : length c.args.markers.now ≤ c.loop-number.number = omega (arith, c.loop-number-test.false, c.requires.count) in
    c.loop-number.invariant.text_is
    ∙ ap (λ (told : List Marker). string_bytes c.args.text.now ++ listed (marker_objects c.args.words.now 0 told))
    (take_all c.loop-number.number c.args.markers.now all)
