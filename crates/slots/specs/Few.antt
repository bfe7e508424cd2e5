use Rattle.std.specs.Prelude.{List, [], ◌∷◌}
use Rattle.slots.specs.declared.up_to_two.UpToTwo.{UpToTwo}
use Rattle.slots.specs.declared.up_to_two.UpToTwo.TheVariants.{Empty, One, Two}

-- the items as a list
abbrev pub list_of : {A : Type 0} → UpToTwo A → List A
list_of Empty = []
list_of (One first) = first ∷ []
list_of (Two first second) = first ∷ second ∷ []
