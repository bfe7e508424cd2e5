use Rattle.std.proofs.Common.{◌≡◌, ℕ, ◌-◌, List, ◌++◌, length, take, drop, inl, sym, ap, ◌∙◌, append_assoc, take-append-drop, arith}
use Rattle.std.proofs.{lemmas.List.take_rest, KnownBytes.Appends-trans}
use Rattle.counted_io.proofs.whole.write_all.Goals as goal

-- what was written of the rest goes over to the front
moves_front : (all front rest : List ℕ) (n : ℕ) → all ≡ front ++ rest → all ≡ (front ++ take n rest) ++ take (length rest - n) (drop n rest)
moves_front all front rest n e =
    e ∙ ap (λ l. front ++ l) (sym (take-append-drop n rest)) ∙ sym (append_assoc front (take n rest) (drop n rest))
    ∙ ap (λ l. (front ++ take n rest) ++ l) (sym (take_rest rest n))

pub loop-rest-preserved : goal.loop-rest-preserved
loop-rest-preserved g c =
    let (front, split, appended, none_failed) = c.loop-rest.invariant in
    let rest = c.loop-rest.rest.now in
    let count = c.in-Ok.count in
    let none_more = c.in-Ok.ensures.taken (inl (omega (arith, c.if-count-eq0.false))) in
    (front ++ take count rest, moves_front _ front rest count split, Appends-trans _ _ _ _ _ appended c.in-Ok.ensures.bytes, none_more ∙ none_failed)
