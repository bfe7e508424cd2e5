use Rattle.std.proofs.Common.{rules, ◌≡◌, ◌∷◌, ◌++◌, ℕ, List, string_bytes, sym, ◌∙◌, ap, flat_map, append_assoc}
use Rattle.{xbar_plan_text.specs.Written.{kind_text, member_text}, std.proofs.lemmas.List.Folds.flat_map-map}
use Rattle.xbar_plan_text.proofs.write.texts.group_text.Goals as goal

pub returns : goal.returns
returns c =
    let group = c.args.group.now in
    let begun : string_bytes c.in_ok-text.text ≡ group.name ++ 32 ∷ kind_text group.kind = search rules in
    let joined = flat_map-map (λ part. 32 ∷ part) member_text group.members in
    let others : List ℕ = flat_map (λ member. 32 ∷ member_text member) group.members in
    let added : string_bytes c.add_members.new.text ≡ string_bytes c.in_ok-text.text ++ others = search rules in
    added ∙ ap (λ (front : List ℕ). front ++ others) begun ∙ append_assoc group.name (32 ∷ kind_text group.kind) others
    ∙ ap (λ (rest : List ℕ). group.name ++ 32 ∷ (kind_text group.kind ++ rest)) (sym joined)
