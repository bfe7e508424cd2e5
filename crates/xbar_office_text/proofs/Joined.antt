-- Texts added one after another.
use Rattle.std.proofs.Common.{◌≡◌, ℕ, List, [], ◌∷◌, ◌++◌, append_assoc, append-nil}
use Rattle.std.specs.List.{concat}

pub four_joined : (text a b c d : List ℕ) → (((text ++ a) ++ b) ++ c) ++ d ≡ text ++ concat (a ∷ b ∷ c ∷ d ∷ [])
four_joined text a b c d = simp (append_assoc, append-nil)
