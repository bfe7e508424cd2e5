use Rattle.std.specs.Prelude.{ℕ, Bool, List, codes, nat_eq}
use Rattle.std.specs.List.{starts_with}

-- whether a line is the row of a card's title
abbrev pub is_title : List ℕ → Bool
is_title line = starts_with nat_eq line (codes "  /  TROUBLE CARD")
