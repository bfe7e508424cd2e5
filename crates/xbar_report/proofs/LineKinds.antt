use Rattle.std.proofs.Common.{◌≡◌, ◌<◌, ◌≤◌, ◌^◌, ◌∙◌, ℕ, List, [], ◌∷◌, ◌++◌, length, refl, sym, ap, subst, arith, Option, Some, codes, decimal, option_map}
use Rattle.std.{specs.{Char.digit_value, Str.Parse.{AllDigits, digits_value}}, proofs.lemmas.Str.Parse.{IsNumeralModel, numerals_by_value, tells_digits}}
use Rattle.{std.proofs.lemmas.Fmt.{decimal_nonempty, digits_decimal}, xbar_report.specs.{Bare.bare_line, Line.{IsLine, line_text}, Ranges.IsTroubleLine}}
use Rattle.xbar_report.specs.{Text.{count_line, end_fields, job_fields, line_with, record_line, trouble_line}, declared.line.Line.Line}
use Rattle.xbar_report.{specs.declared.line.{Line.TheVariants.{Record, Trouble, Paths, Closed}, TroubleLine.TroubleLine}, proofs.LineFields.line_cut}
use Rattle.{xbar_equip.specs.TextLines.Lacks, xbar_office.specs.declared.reply.Record.{Record as TheRecord}}

digits_by_value : IsNumeralModel (AllDigits 10) (digits_value 10)
digits_by_value = numerals_by_value (AllDigits 10) tells_digits

first_is_digit : (digits more rest : List ℕ) (b : ℕ) → 0 < length digits → AllDigits 10 digits → digits ++ more ≡ b ∷ rest → digit_value b < 10
first_is_digit [] more rest b some all e = absurd (omega arith)
first_is_digit (x ∷ digits) more rest b some all e =
    let same : x ≡ b = cc in
    subst (λ (y : ℕ). digit_value y < 10) same all.0

-- a number begins with a digit, and so with none of these bytes
no_letter : (n b : ℕ) (more rest : List ℕ) → n < 2 ^ 64 → 10 ≤ digit_value b → decimal n ++ more ≡ b ∷ rest → ⊥
no_letter n b more rest fits letter e =
    let digit = first_is_digit (decimal n) more rest b (decimal_nonempty n fits) (digits_decimal digits_by_value n fits) e in
    omega (arith, digit, letter)

-- a record's line after its turn
after_turn : TheRecord → List ℕ
after_turn r = 44 ∷ line_with (decimal r.job_no ∷ decimal r.marker ∷ job_fields r.job ∷ end_fields r.reply.end ∷ [])

turn_cut : (r : TheRecord) → record_line r ≡ decimal r.turn ++ after_turn r
unfolding after_turn
turn_cut r = line_cut (decimal r.turn) (decimal r.job_no) (decimal r.marker ∷ job_fields r.job ∷ end_fields r.reply.end ∷ [])

other_byte : {x y b : ℕ} {text xs rest : List ℕ} → text ≡ b ∷ rest → b ≡ y → text ≡ x ∷ xs → x ≡ y
other_byte e is same = cc

-- a text that begins with T is a trouble card's line, or none's
pub trouble_alone : (line : Line) → IsLine line → (text rest : List ℕ) (b : ℕ) → text ≡ b ∷ rest → b ≡ 84 → text ≡ line_text line
    → (found : Option TroubleLine) → ((t : TroubleLine) → IsTroubleLine t → text ≡ trouble_line t → found ≡ Some t)
    → option_map Trouble found ≡ Some (bare_line line)
trouble_alone (Record r) range text rest b e is same found reads =
    absurd (no_letter r.turn 84 (after_turn r) rest range.turn (omega arith) (sym (turn_cut r) ∙ sym same ∙ e ∙ ap (λ (c : ℕ). c ∷ rest) is))
trouble_alone (Trouble t) range text rest b e is same found reads = ap (option_map Trouble) (reads t range same)
trouble_alone (Paths paths) range text rest b e is same found reads = absurd (let h : 80 ≡ 84 = other_byte e is same in omega arith)
trouble_alone (Closed closed) range text rest b e is same found reads = absurd (let h : 67 ≡ 84 = other_byte e is same in omega arith)

-- with P, that of a number of paths
pub paths_alone : (line : Line) → IsLine line → (text rest : List ℕ) (b : ℕ) → text ≡ b ∷ rest → b ≡ 80 → text ≡ line_text line
    → (found : Option ℕ) → ((name : List ℕ) (count : ℕ) → Lacks 44 name → count < 2 ^ 16 → text ≡ count_line name count → found ≡ Some count)
    → option_map Paths found ≡ Some (bare_line line)
paths_alone (Record r) range text rest b e is same found reads =
    absurd (no_letter r.turn 80 (after_turn r) rest range.turn (omega arith) (sym (turn_cut r) ∙ sym same ∙ e ∙ ap (λ (c : ℕ). c ∷ rest) is))
paths_alone (Trouble t) range text rest b e is same found reads = absurd (let h : 84 ≡ 80 = other_byte e is same in omega arith)
paths_alone (Paths paths) range text rest b e is same found reads = ap (option_map Paths) (reads (codes "PATHS") paths refl range same)
paths_alone (Closed closed) range text rest b e is same found reads = absurd (let h : 67 ≡ 80 = other_byte e is same in omega arith)

-- and with C, that of a number of closed crosspoints
pub closed_alone : (line : Line) → IsLine line → (text rest : List ℕ) (b : ℕ) → text ≡ b ∷ rest → b ≡ 67 → text ≡ line_text line
    → (found : Option ℕ) → ((name : List ℕ) (count : ℕ) → Lacks 44 name → count < 2 ^ 16 → text ≡ count_line name count → found ≡ Some count)
    → option_map Closed found ≡ Some (bare_line line)
closed_alone (Record r) range text rest b e is same found reads =
    absurd (no_letter r.turn 67 (after_turn r) rest range.turn (omega arith) (sym (turn_cut r) ∙ sym same ∙ e ∙ ap (λ (c : ℕ). c ∷ rest) is))
closed_alone (Trouble t) range text rest b e is same found reads = absurd (let h : 84 ≡ 67 = other_byte e is same in omega arith)
closed_alone (Paths paths) range text rest b e is same found reads = absurd (let h : 80 ≡ 67 = other_byte e is same in omega arith)
closed_alone (Closed closed) range text rest b e is same found reads = ap (option_map Closed) (reads (codes "CLOSED") closed refl range same)
