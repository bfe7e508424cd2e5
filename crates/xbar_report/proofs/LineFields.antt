use Rattle.std.proofs.Common.{◌≡◌, ◌<◌, ◌/◌, ◌%◌, ◌^◌, ℕ, zero, suc, Bool, true, false, List, [], ◌∷◌, ◌++◌, refl, ap, subst, arith, append_assoc, ◌==◌, not}
use Rattle.std.proofs.Common.{Option, Some, None, codes, decimal, eqb-true, ne_eqb}
use Rattle.std.specs.{List.list_all, Char.digit_value, Str.Parse.{AllDigits, digits_value}}
use Rattle.{std.proofs.lemmas.{Str.Parse.{IsNumeralModel, numerals_by_value, tells_digits}, Fmt.digits_decimal}, xbar_equip.proofs.Logic.both_hold}
use Rattle.xbar_equip.specs.{Digits.{digit, digits}, Len.{Line, line_text}, Link.{Link, link_text, letters}, Path.path_text, declared.link.LinkKind.LinkKind}
use Rattle.xbar_equip.specs.{declared.{link.LinkKind.TheVariants.{LineLink, Junctor, TrunkLink}, path.Path.Path}, TextLines.Lacks}
use Rattle.xbar_office.specs.declared.{job.Job.{Job, TheVariants.{Dial, Complete, Release}}, reply.End.{End, TheVariants.{DialTone, Connected, Released}}}
use Rattle.xbar_office.specs.declared.reply.End.TheVariants.{CalledBusy, LineBusy, RegistersBusy, TrunksBusy, NoPath, Trouble, VacantCode, VacantNumber}
use Rattle.{xbar_office.specs.declared.reply.End.TheVariants.{NoRegister, NoCall}, xbar_report.specs.Parts.{job_kind, job_line, job_dialled, end_name}}
use Rattle.xbar_report.specs.{Parts.{end_trial, end_first, end_second}, Ranges.IsEnd, Text.{line_with, job_fields, end_fields, path_field}}

-- one more byte that is another
more : (byte x : ℕ) (rest : List ℕ) → not (x == byte) ≡ true → Lacks byte rest → Lacks byte (x ∷ rest)
more byte x rest unlike lacks = both_hold (not (x == byte)) (list_all (λ c. not (c == byte)) rest) unlike lacks

-- a digit's byte is none below it
digit_unlike : (byte d : ℕ) → byte < 48 → not (digit d == byte) ≡ true
digit_unlike byte d low = ap not (ne_eqb (digit d) byte (λ e. omega arith))

more_digit : (byte d : ℕ) (rest : List ℕ) → byte < 48 → Lacks byte rest → Lacks byte (digit d ∷ rest)
more_digit byte d rest low lacks = more byte (digit d) rest (digit_unlike byte d low) lacks

digits_by_value : IsNumeralModel (AllDigits 10) (digits_value 10)
digits_by_value = numerals_by_value (AllDigits 10) tells_digits

comma_unlike : (x : ℕ) (b : Bool) → (x == 44) ≡ b → digit_value x < 10 → not b ≡ true
comma_unlike x true e h = absurd (let s : digit_value 44 < 10 = subst (λ (y : ℕ). digit_value y < 10) (eqb-true x 44 e) h in omega (arith, s))
comma_unlike x false e h = refl

end_unlike : (x : ℕ) (b : Bool) → (x == 10) ≡ b → digit_value x < 10 → not b ≡ true
end_unlike x true e h = absurd (let s : digit_value 10 < 10 = subst (λ (y : ℕ). digit_value y < 10) (eqb-true x 10 e) h in omega (arith, s))
end_unlike x false e h = refl

digits_have_no_comma : (text : List ℕ) → AllDigits 10 text → Lacks 44 text
digits_have_no_comma [] h = refl
digits_have_no_comma (x ∷ text) h = more 44 x text (comma_unlike x (x == 44) refl h.0) (digits_have_no_comma text h.1)

digits_have_no_end : (text : List ℕ) → AllDigits 10 text → Lacks 10 text
digits_have_no_end [] h = refl
digits_have_no_end (x ∷ text) h = more 10 x text (end_unlike x (x == 10) refl h.0) (digits_have_no_end text h.1)

-- a number's text has neither a comma nor the end of a line
pub decimal_has_no_comma : (n : ℕ) → n < 2 ^ 64 → Lacks 44 (decimal n)
decimal_has_no_comma n h = digits_have_no_comma (decimal n) (digits_decimal digits_by_value n h)

pub decimal_has_no_end : (n : ℕ) → n < 2 ^ 64 → Lacks 10 (decimal n)
decimal_has_no_end n h = digits_have_no_end (decimal n) (digits_decimal digits_by_value n h)

-- `Lacks` as a record, so that its text is found from the goal
record IsFree (byte : ℕ) (text : List ℕ) : Type 0 where
  lacks : Lacks byte text

free : {byte : ℕ} → IsFree byte []
free = record { lacks = refl }

cell : {byte : ℕ} {rest : List ℕ} (d : ℕ) → byte < 48 → IsFree byte rest → IsFree byte (digit d ∷ rest)
cell {byte = byte} {rest = rest} d low h = record { lacks = more_digit byte d rest low h.lacks }

-- texts of digits lack each byte below these
pub digits_lack : (byte k n : ℕ) → byte < 48 → Lacks byte (digits k n)
digits_lack byte zero n low = refl
digits_lack byte (suc k) n low = more_digit byte (n / 10 ^ k % 10) (digits k n) low (digits_lack byte k n low)

free_line : (byte : ℕ) (line : Line) → byte < 48 → IsFree byte (line_text line)
free_line byte line low = cell line.frame low (cell line.switch low (cell (line.x / 5) low (cell (line.x % 5) low free)))

pub line_lacks : (byte : ℕ) (line : Line) → byte < 48 → Lacks byte (line_text line)
line_lacks byte line low = (free_line byte line low).lacks

free_link : (kind : LinkKind) (byte frame at channel : ℕ) → byte < 48 → IsFree byte (letters kind ++ digit frame ∷ digit at ∷ digit channel ∷ [])
free_link LineLink byte frame at channel low = cell 28 low (cell 28 low (cell frame low (cell at low (cell channel low free))))
free_link Junctor byte frame at channel low = cell 26 low (cell 37 low (cell frame low (cell at low (cell channel low free))))
free_link TrunkLink byte frame at channel low = cell 36 low (cell 28 low (cell frame low (cell at low (cell channel low free))))

pub link_lacks : (byte : ℕ) (link : Link) → byte < 48 → Lacks byte (link_text link)
link_lacks byte link low = (free_link link.kind byte link.frame link.at link.channel low).lacks

dash : {byte : ℕ} {rest : List ℕ} → byte < 45 → IsFree byte rest → IsFree byte (45 ∷ rest)
dash {byte = byte} {rest = rest} low h = record { lacks = more byte 45 rest (ap not (ne_eqb 45 byte (λ e. omega arith))) h.lacks }

free_path : (byte : ℕ) (path : Path) → byte < 45 → IsFree byte (path_text path)
free_path byte path low =
    let below : byte < 48 = omega arith in
    cell path.line.frame below (cell path.line.switch below (cell (path.line.x / 5) below (cell (path.line.x % 5) below (dash low
    (cell path.channel below (dash low (cell path.place.frame below (cell path.place.switch below (cell path.place.appearance below free)))))))))

-- and so do paths, but for the dash
pub path_lacks : (byte : ℕ) (path : Path) → byte < 45 → Lacks byte (path_text path)
path_lacks byte path low = (free_path byte path low).lacks

dash_lacks : (byte : ℕ) → byte < 45 → Lacks byte (codes "-")
dash_lacks byte low = more byte 45 [] (ap not (ne_eqb 45 byte (λ e. omega arith))) refl

pub path_field_lacks : (byte : ℕ) (path : Option Path) → byte < 45 → Lacks byte (path_field path)
path_field_lacks byte None low = dash_lacks byte low
path_field_lacks byte (Some path) low = path_lacks byte path low

-- the fields of a job have no comma
pub kind_has_no_comma : (job : Job) → Lacks 44 (job_kind job)
kind_has_no_comma (Dial line) = refl
kind_has_no_comma (Complete line dialled) = refl
kind_has_no_comma (Release line) = refl

pub job_line_lacks : (byte : ℕ) (job : Job) → byte < 48 → Lacks byte (job_line job)
job_line_lacks byte (Dial line) low = line_lacks byte line low
job_line_lacks byte (Complete line dialled) low = line_lacks byte line low
job_line_lacks byte (Release line) low = line_lacks byte line low

pub job_dialled_lacks : (byte : ℕ) (job : Job) → byte < 45 → Lacks byte (job_dialled job)
job_dialled_lacks byte (Dial line) low = dash_lacks byte low
job_dialled_lacks byte (Complete line dialled) low = digits_lack byte 7 dialled (omega arith)
job_dialled_lacks byte (Release line) low = dash_lacks byte low

-- nor have those of an end
pub name_has_no_comma : (end : End) → Lacks 44 (end_name end)
name_has_no_comma (DialTone path trial) = refl
name_has_no_comma (Connected calling called trial) = refl
name_has_no_comma (Released own other) = refl
name_has_no_comma CalledBusy = refl
name_has_no_comma LineBusy = refl
name_has_no_comma RegistersBusy = refl
name_has_no_comma TrunksBusy = refl
name_has_no_comma NoPath = refl
name_has_no_comma Trouble = refl
name_has_no_comma VacantCode = refl
name_has_no_comma VacantNumber = refl
name_has_no_comma NoRegister = refl
name_has_no_comma NoCall = refl

pub trial_has_no_comma : (end : End) → IsEnd end → Lacks 44 (end_trial end)
trial_has_no_comma (DialTone path trial) h = decimal_has_no_comma trial (omega (arith, h.1))
trial_has_no_comma (Connected calling called trial) h = decimal_has_no_comma trial (omega (arith, h.2))
trial_has_no_comma _ h = refl

pub first_lacks : (byte : ℕ) (end : End) → byte < 45 → Lacks byte (end_first end)
first_lacks byte (DialTone path trial) low = path_lacks byte path low
first_lacks byte (Connected calling called trial) low = path_lacks byte calling low
first_lacks byte (Released own other) low = path_lacks byte own low
first_lacks byte _ low = dash_lacks byte low

pub second_lacks : (byte : ℕ) (end : End) → byte < 45 → Lacks byte (end_second end)
second_lacks byte (Connected calling called trial) low = path_field_lacks byte called low
second_lacks byte (Released own other) low = path_field_lacks byte other low
second_lacks byte _ low = dash_lacks byte low

-- the first field of a line, and the line of the others
pub line_cut : (x y : List ℕ) (ys : List (List ℕ)) → line_with (x ∷ y ∷ ys) ≡ x ++ 44 ∷ line_with (y ∷ ys)
line_cut x y ys = simp append_assoc

-- the fields of a job, and the line of the others
pub job_cut : (job : Job) (y : List ℕ) (ys : List (List ℕ))
    → line_with (job_fields job ∷ y ∷ ys) ≡ job_kind job ++ 44 ∷ (job_line job ++ 44 ∷ (job_dialled job ++ 44 ∷ line_with (y ∷ ys)))
job_cut (Dial line) y ys = simp append_assoc
job_cut (Complete line dialled) y ys = simp append_assoc
job_cut (Release line) y ys = simp append_assoc

-- the fields of an end, the last of a line
pub end_cut : (end : End) → end_fields end ++ codes "\n" ≡ end_name end ++ 44 ∷ (end_trial end ++ 44 ∷ (end_first end ++ 44 ∷ (end_second end ++ 10 ∷ [])))
end_cut (DialTone path trial) = simp append_assoc
end_cut (Connected calling called trial) = simp append_assoc
end_cut (Released own other) = simp append_assoc
end_cut _ = refl
