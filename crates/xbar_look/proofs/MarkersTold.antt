-- markers told one by one
use Rattle.std.proofs.Common.{◌≡◌, ℕ, ◌+◌, ◌<◌, List, [], ◌∷◌, ◌++◌, get_or, length, take, append_assoc, append-nil, sym, ◌∙◌, ap, arith, length-take-le}
use Rattle.{std.proofs.lemmas.List.take_more, xbar_moves.specs.Exchange.Marker}
use Rattle.xbar_look.specs.{Lines.{marker_lines, markers_lines}, Markers.{marker_object, marker_objects}}

module _ (words : List ℕ) where
  objects_behind : (k n : ℕ) (markers : List Marker) (m : Marker) → n ≡ k + length markers
      → marker_objects words k (markers ++ m ∷ []) ≡ marker_objects words k markers ++ marker_object words n m ∷ []
  unfolding marker_objects
  objects_behind k n [] m is = let same : k ≡ n = omega (arith, is) in ap (λ (number : ℕ). marker_object words number m ∷ []) same
  objects_behind k n (first ∷ markers) m is =
      ap (λ (rest : List (List ℕ)). marker_object words k first ∷ rest) (objects_behind (1 + k) n markers m (omega (arith, is)))

  lines_behind : (k n : ℕ) (markers : List Marker) (m : Marker) → n ≡ k + length markers
      → markers_lines words k (markers ++ m ∷ []) ≡ markers_lines words k markers ++ marker_lines words n m
  unfolding markers_lines
  lines_behind k n [] m is = let same : k ≡ n = omega (arith, is) in append-nil (marker_lines words k m) ∙ ap (λ (number : ℕ). marker_lines words number m) same
  lines_behind k n (first ∷ markers) m is =
      ap (λ (rest : List ℕ). marker_lines words k first ++ rest) (lines_behind (1 + k) n markers m (omega (arith, is)))
      ∙ sym (append_assoc (marker_lines words k first) (markers_lines words (1 + k) markers) (marker_lines words n m))

  module _ (markers : List Marker) (n : ℕ) (m : Marker) (is : m ≡ get_or markers n m) (within : n < length markers) where
    taken : take (n + 1) markers ≡ take n markers ++ m ∷ []
    taken = take_more markers n m within ∙ ap (λ (last : Marker). take n markers ++ last ∷ []) (sym is)

    place : n ≡ 0 + length (take n markers)
    place = let count : length (take n markers) ≡ n = length-take-le n markers (omega (arith, within)) in omega (arith, count)

    pub objects_more : marker_objects words 0 (take (n + 1) markers) ≡ marker_objects words 0 (take n markers) ++ marker_object words n m ∷ []
    objects_more = ap (marker_objects words 0) taken ∙ objects_behind 0 n (take n markers) m place

    pub lines_more : markers_lines words 0 (take (n + 1) markers) ≡ markers_lines words 0 (take n markers) ++ marker_lines words n m
    lines_more = ap (markers_lines words 0) taken ∙ lines_behind 0 n (take n markers) m place
