use Rattle.std.specs.Prelude.{ℕ, List, [], ◌∷◌}
use Rattle.xbar_traffic.specs.declared.row.Fields.{Fields}

-- the five fields, in their order
abbrev pub five_fields : Fields → List (List ℕ)
five_fields fields =
    fields.first.now ∷ fields.second.now ∷ fields.third.now ∷ fields.fourth.now ∷ fields.fifth.now
    ∷ []
