-- What is made from the rows of a table, one after the other.
use Rattle.std.proofs.Common.{◌≡◌, ◌∙◌, ◌+◌, ◌<◌, ◌≤◌, ap, refl, subst, sym, List, [], ◌∷◌, ◌++◌, ℕ, length, map, take, Result, Ok, Err, All, IfOk, IsOkAnd}
use Rattle.std.proofs.Common.{slice_index_or, take_all}
use Rattle.std.proofs.lemmas.List.{map_push, take_more, Elements.{All-nil, All-push, All-same}}

-- each has the shape that its row asks for, and is local
pub record AreMade {Row X Shape : Type 0} (shape : X → Shape) (wanted : Row → Shape) (IsLocal : X → Type 0) (rows : List Row) (all : List X) : Type 0 where
  pub shapes : map shape all ≡ map wanted rows
  pub local : All IsLocal all

module _ {Row X Shape : Type 0} (shape : X → Shape) (wanted : Row → Shape) (IsLocal : X → Type 0) where
  pub none_made : AreMade shape wanted IsLocal [] []
  none_made = record { shapes = refl; local = All-nil IsLocal }

  pub one_more : (rows : List Row) (i : ℕ) (d : Row) (x : X) (before after : List X) → i < length rows
      → AreMade shape wanted IsLocal (take i rows) before → after ≡ before ++ x ∷ [] → shape x ≡ wanted (slice_index_or rows i d) → IsLocal x
      → AreMade shape wanted IsLocal (take (i + 1) rows) after
  one_more rows i d x before after below are added fits own = record {
    shapes = ap (map shape) added ∙ map_push shape before x ∙ ap (λ l. l ++ shape x ∷ []) are.shapes
        ∙ ap (λ y. map wanted (take i rows) ++ y ∷ []) fits ∙ sym (map_push wanted (take i rows) (slice_index_or rows i d))
        ∙ ap (map wanted) (sym (take_more rows i d below));
    local = All-same IsLocal after (before ++ x ∷ []) added (All-push IsLocal before x are.local own);
  }

  -- one for which memory may have run out
  pub one_tried : {E : Type 0} (made : Result X E) (rows : List Row) (i : ℕ) (d : Row) (before after : List X) → i < length rows
      → AreMade shape wanted IsLocal (take i rows) before → IsOkAnd made (λ x. after ≡ before ++ x ∷ [])
      → IfOk made (λ x. shape x ≡ wanted (slice_index_or rows i d)) → IfOk made IsLocal
      → AreMade shape wanted IsLocal (take (i + 1) rows) after
  one_tried (Err e) rows i d before after below are added fits own = absurd added
  one_tried (Ok x) rows i d before after below are added fits own = one_more rows i d x before after below are added fits own

  pub all_made : (rows : List Row) (i : ℕ) (all : List X) → length rows ≤ i → AreMade shape wanted IsLocal (take i rows) all
      → AreMade shape wanted IsLocal rows all
  all_made rows i all past are = subst (λ some. AreMade shape wanted IsLocal some all) (take_all i rows past) are
