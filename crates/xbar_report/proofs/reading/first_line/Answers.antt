use Rattle.std.proofs.Common.{◌≡◌, ◌<◌, ◌+◌, ◌++◌, ◌∷◌, [], List, ℕ, suc, length, take, drop, get_or, sym, ap, ◌∙◌, take-append-drop}
use Rattle.{std.proofs.lemmas.List.{take_more, drop_more}, xbar_equip.specs.TextLines.{Lacks, IsWholeLine}}
use Rattle.xbar_report.proofs.Splits.{cut_at_place, lacks_none}
use Rattle.xbar_report.proofs.reading.first_line.Goals as goal

whole : (i : ℕ) (text : List ℕ) → (i < length text) × Lacks 10 (take i text) × (drop i text ≡ 10 ∷ drop (suc i) text) → IsWholeLine (take (i + 1) text)
whole i text h =
    let cells = drop_more text i 0 h.0 in
    let all : 10 ∷ drop (suc i) text ≡ get_or text i 0 ∷ drop (i + 1) text = sym h.2 ∙ cells in
    let end : get_or text i 0 ≡ 10 = cc in
    record { front = take i text; lacks = h.1; line_is = take_more text i 0 h.0 ∙ ap (λ (b : ℕ). take i text ++ b ∷ []) end }

pub returns-in_err-place-clause-none : goal.returns-in_err-place-clause-none
returns-in_err-place-clause-none c = rw c.from_residual.ensures (lacks_none 10 c.args.text.now (sym c.in_err-place.ensures))

pub returns-clause-line : goal.returns-clause-line
returns-clause-line c =
    let h = cut_at_place 10 c.args.text.now c.in_ok-place.place (sym c.in_ok-place.ensures) in
    rw (c.split_at.ensures.front, c.split_at.ensures.back)
    (whole c.in_ok-place.place c.args.text.now h, sym (take-append-drop (c.in_ok-place.place + 1) c.args.text.now))
