use Rattle.std.specs.Prelude.{Bool, true, false}

-- the one decision if the test holds, otherwise the other one. A script that ends in it,
-- `Ends (decide_if test one other)`, needs no branches.
abbrev pub decide_if : {A : Type 0} → Bool → A → A → A
decide_if true one other = one
decide_if false one other = other
