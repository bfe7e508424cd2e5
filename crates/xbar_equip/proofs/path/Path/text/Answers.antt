use Rattle.std.proofs.Common.{ℕ, zero, suc, ◌<◌, List, [], ◌∷◌, lit<, IsAscii}
use Rattle.xbar_equip.proofs.path.Path.text.Goals as goal

-- the bytes are ASCII, as a record, from which antt finds the list
record Ascii (text : List ℕ) : Type 0 where
  each : IsAscii text

cases : (x : ℕ) (rest : List ℕ) → x < 128 → IsAscii rest → IsAscii (x ∷ rest)
cases x rest first others zero = first
cases x rest first others (suc i) = others i

◌then◌ : {x : ℕ} {rest : List ℕ} → x < 128 → Ascii rest → Ascii (x ∷ rest)
◌then◌ {x} {rest} first others = record { each = cases x rest first others.each }

infixr 5 ◌then◌
nothing : Ascii []
nothing = record { each = λ i. lit< tt }

dash : 45 < 128
dash = lit< tt

pub returns-clause-ascii : goal.returns-clause-ascii
returns-clause-ascii c =
    let line = c.text.ensures.ascii in
    let channel = c.text-2.ensures.ascii in
    let place = c.text-3.ensures.ascii in
    (line 0 then line 1 then line 2 then line 3 then dash then channel 0 then dash then place 0 then place 1 then place 2 then nothing).each
