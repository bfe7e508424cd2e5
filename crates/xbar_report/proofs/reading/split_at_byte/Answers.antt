use Rattle.std.proofs.Common.{◌≡◌, ◌++◌, ◌∷◌, List, ℕ, suc, take, drop, sym, ◌∙◌, subst, take-append-drop}
use Rattle.{xbar_equip.specs.TextLines.Lacks, xbar_report.proofs.Splits.{cut_at_place, lacks_none, cut_once, has_byte}}
use Rattle.xbar_report.proofs.reading.split_at_byte.Goals as goal

pub returns-in_err-place_of-clause-first : goal.returns-in_err-place_of-clause-first
returns-in_err-place_of-clause-first c front rest lacks e =
    absurd (has_byte c.args.end front rest (subst (λ (xs : List ℕ). Lacks c.args.end xs) e
    (lacks_none c.args.end c.args.text.now (sym c.in_err-place_of.ensures))))

pub returns-in_err-place_of-clause-none : goal.returns-in_err-place_of-clause-none
returns-in_err-place_of-clause-none c =
    rw c.from_residual.ensures (lacks_none c.args.end c.args.text.now (sym c.in_err-place_of.ensures))

parts : (byte i : ℕ) (text front back rest : List ℕ) (end : ℕ) → Lacks byte (take i text) × (drop i text ≡ byte ∷ drop (suc i) text)
    → front ≡ take i text → back ≡ drop i text → back ≡ end ∷ rest → Lacks byte front × (text ≡ front ++ byte ∷ rest)
parts byte i text front back rest end h f b e =
    let lacks : Lacks byte front = subst (λ (xs : List ℕ). Lacks byte xs) (sym f) h.0 in
    let cells : end ∷ rest ≡ byte ∷ drop (suc i) text = cc in
    let same : end ≡ byte = cc in
    let whole : take i text ++ drop i text ≡ text = take-append-drop i text in
    (lacks, cc)

pub returns-clause-parts : goal.returns-clause-parts
returns-clause-parts c =
    let h = cut_at_place c.args.end c.args.text.now c.in_ok-place_of.field-0 (sym c.in_ok-place_of.ensures) in
    parts c.args.end c.in_ok-place_of.field-0 c.args.text.now c.split_at.result.0.now c.split_at.result.1.now c.in_ok-_end.rest.now c.in_ok-_end._end.now
    (h.1, h.2) c.split_at.ensures.front c.split_at.ensures.back c.in_ok-_end.ensures.cases.0

pub returns-clause-first : goal.returns-clause-first
returns-clause-first c front rest lacks e =
    let h = cut_at_place c.args.end c.args.text.now c.in_ok-place_of.field-0 (sym c.in_ok-place_of.ensures) in
    let p =
    parts c.args.end c.in_ok-place_of.field-0 c.args.text.now c.split_at.result.0.now c.split_at.result.1.now c.in_ok-_end.rest.now c.in_ok-_end._end.now
    (h.1, h.2) c.split_at.ensures.front c.split_at.ensures.back c.in_ok-_end.ensures.cases.0 in
    cut_once c.args.end c.split_at.result.0.now c.in_ok-_end.rest.now front rest p.0 lacks (sym p.1 ∙ e)
