use Rattle.std.proofs.Common.{rules, ◌≡◌, ◌≤◌, length, List, ℕ, [], ◌∷◌, ◌++◌, map, sym, ◌∙◌, ap, arith, Some, None}
use Rattle.{std.proofs.lemmas.List.map-append, toml.specs.{Data.as_str, View.view}}
use Rattle.xbar_plan_text.proofs.{ReadAll.{read_more, read_fails, read_whole}, Documents.texts-read}
use Rattle.xbar_plan_text.proofs.read.document.texts_of_array.Goals as goal

pub returns-in_default : goal.returns-in_default
returns-in_default c =
    let here : as_str (view c.index-items-item.result) ≡ None = search rules in
    texts-read c.args.items.now ∙ read_fails (λ value. as_str (view value)) c.args.items.now c.loop-item.item c.index-items-item.result c.loop-item-test.true
    (ap (λ v. as_str (view v)) (sym c.index-items-item.is) ∙ here)

pub loop-item-preserved : goal.loop-item-preserved
loop-item-preserved c =
    let here : as_str (view c.index-items-item.result) ≡ Some c.in-Some.text.now = search rules in
    let pushed : c.push.new.self.items ≡ c.loop-item.texts.items ++ c.as_bytes.result ∷ [] = search rules in
    let text : c.as_bytes.result.now ≡ c.in-Some.text.now = search rules in
    let kept : map (λ part. part.now) c.push.new.self.items ≡ map (λ part. part.now) c.loop-item.texts.items ++ c.in-Some.text.now ∷ [] =
    ap (map (λ part. part.now)) pushed ∙ map-append (λ part. part.now) c.loop-item.texts.items (c.as_bytes.result ∷ [])
    ∙ ap (λ (t : List ℕ). map (λ part. part.now) c.loop-item.texts.items ++ t ∷ []) text in
    read_more (λ value. as_str (view value)) c.args.items.now _ c.loop-item.item c.index-items-item.result _ c.loop-item-test.true c.loop-item.invariant
    (ap (λ v. as_str (view v)) (sym c.index-items-item.is) ∙ here) ∙ ap (λ z. Some z) (sym kept)

pub returns : goal.returns
returns c =
    let past : length c.args.items.now ≤ c.loop-item.item = omega arith in
    texts-read c.args.items.now ∙ read_whole (λ value. as_str (view value)) c.args.items.now _ c.loop-item.item past c.loop-item.invariant
