use Rattle.std.proofs.Common.{[], ◌∷◌, ◌∙◌, refl, codes, decimal, string_bytes}
use Rattle.{xbar_jobs.specs.OnWords.step_word, xbar_step_text.specs.Objects.{act_name, ended_value, found_value, holder_value, preferred_value, step_object}}
use Rattle.xbar_step_text.{specs.Objects.turn_value, proofs.Added.{has_more, has_none, has_one}}
use Rattle.xbar_step_text.proofs.object.add_object.Goals as goal

pub returns : goal.returns
unfolding step_object
returns c =
    let first = string_bytes c.args.text.now in
    let observed = c.args.observed.now in
    let begun =
    codes "{\"event\":\"step\",\"step\":" ∷ decimal c.args.number ∷ codes ",\"marker\":" ∷ decimal c.args.marker ∷ codes ",\"act\":\"" ∷ act_name observed.step
    ∷ codes "\",\"object\":" ∷ [] in
    let found =
    codes ",\"word\":" ∷ decimal (step_word observed.step) ∷ codes ",\"found\":" ∷ found_value observed.found observed.step ∷ codes ",\"items\":" ∷ [] in
    let denied = codes ",\"holder\":" ∷ holder_value observed.event ∷ codes ",\"preferred\":" ∷ preferred_value observed.event ∷ codes ",\"turn\":" ∷ [] in
    let turned = turn_value c.args.records.now ∷ codes ",\"record\":" ∷ [] in
    let ended = codes ",\"ended\":" ∷ ended_value observed.event ∷ codes ",\"says\":\"" ∷ [] in
    let one = has_more first _ _ _ (has_none first) begun (c.in_ok-write.ensures.bytes ∙ rw c.act_name-act.ensures refl) in
    let two = has_one first _ _ _ one _ c.in_ok-add_object_of.ensures in
    let three = has_more first _ _ _ two found (c.in_ok-write-2.ensures.bytes ∙ rw c.word_of-word.ensures refl) in
    let four = has_one first _ _ _ three _ c.in_ok-add_step_items.ensures in
    let five = has_more first _ _ _ four denied (c.in_ok-write-3.ensures.bytes ∙ refl) in
    let six = has_more first _ _ _ five turned (c.in_ok-write-4.ensures.bytes ∙ refl) in
    let seven = has_one first _ _ _ six _ c.in_ok-add_record.ensures in
    let eight = has_more first _ _ _ seven ended (c.in_ok-write-5.ensures.bytes ∙ refl) in
    let nine = has_one first _ _ _ eight _ c.in_ok-add_words.ensures in
    (has_one first _ _ _ nine _ c.in_ok-push_str.ensures.bytes).is
