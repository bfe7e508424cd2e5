use Rattle.std.specs.Prelude.{ℕ, ◌+◌, ◌-◌, ◌≤◌, List, [], ◌∷◌, ⊤}
use Rattle.turns.specs.Script.{Ends, TestThen, SeizeThen}
use Rattle.xbar_equip.specs.declared.conn.Conn.{Conn}
use Rattle.xbar_equip.specs.declared.conn.Conn.TheVariants.{Llf, Tlf, Group}
use Rattle.xbar_jobs.specs.Script.{Script}

-- a line link frame counts as none, and any other connector as one
abbrev pub others : Conn → ℕ
others (Llf frame) = 0
others (Tlf frame) = 1
others (Group group) = 1

-- how many connectors in a list are no line link frames
abbrev pub others_in : List Conn → ℕ
others_in [] = 0
others_in (conn ∷ conns) = others conn + others_in conns

-- whatever is read, a script has at most `most` seizings of connectors besides line link frames
unfoldable pub SeizesOthers : {A : Type 0} → ℕ → Script A → Type 0
SeizesOthers most (Ends found) = ⊤
SeizesOthers most (TestThen word script) = (value : ℕ) → SeizesOthers most (script value)
SeizesOthers most (SeizeThen conn script) =
    (others conn ≤ most) × SeizesOthers (most - others conn) script
