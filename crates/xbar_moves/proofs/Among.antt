-- to be in a list, as turns and as xbar_equip say it
use Rattle.std.proofs.Common.{List, [], ◌∷◌, inl, inr}
use Rattle.turns.specs.Among.{IsIn}
use Rattle.xbar_equip.specs.Among as equip

-- what is in a list as xbar_equip says is in it as turns says
pub among_turns : {A : Type 0} (x : A) (xs : List A) → equip.IsIn x xs → IsIn x xs
among_turns x [] within = within
among_turns x (y ∷ xs) (inl same) = inl same
among_turns x (y ∷ xs) (inr later) = inr (among_turns x xs later)

-- and the other way round
pub among_equip : {A : Type 0} (x : A) (xs : List A) → IsIn x xs → equip.IsIn x xs
among_equip x [] within = within
among_equip x (y ∷ xs) (inl same) = inl same
among_equip x (y ∷ xs) (inr later) = inr (among_equip x xs later)
