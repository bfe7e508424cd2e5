use Rattle.std.specs.Prelude.{◌≡◌, ◌==◌, ℕ, not, true, List, [], ◌∷◌, ◌++◌, if◌then◌else◌}
use Rattle.std.specs.List.{list_all, onto_first}

-- the byte does not occur among the bytes
abbrev pub Lacks : ℕ → List ℕ → Type 0
Lacks byte bytes = list_all (λ b. not (b == byte)) bytes ≡ true

-- the text is one line, with its line feed
pub record IsWholeLine (line : List ℕ) : Type 0 where
  pub front : List ℕ
  pub lacks : Lacks 10 front
  pub line_is : line ≡ front ++ 10 ∷ []

-- the lines of a text, each with its line feed, which the last may lack
unfoldable pub lines : List ℕ → List (List ℕ)
lines [] = []
lines (b ∷ text) = if b == 10 then (b ∷ []) ∷ lines text else onto_first b (lines text)
