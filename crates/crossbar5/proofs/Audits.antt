-- the findings on records
use Rattle.std.proofs.Common.{◌≡◌, ◌∙◌, ℕ, ◌*◌, List, [], ◌∷◌, length, refl, sym, ap, ap₂, subst, arith, length-append, Option, Some, slice_get, take}
use Rattle.{xbar_equip.specs.{declared.path.Path.Path, Crosspoint.crosspoints}, xbar_plan.specs.Tables.Tables}
use Rattle.xbar_office.specs.{Closed.closed, Audit.IsFirstWrongReply, Legal.{HaveTurns, IsLegal, after}, declared.audit_fault.AuditFault.TheVariants.Reply}
use Rattle.{xbar_office.{specs.declared.reply.Record.Record, proofs.AuditedRecords.{no-fault, turn_at}}, xbar_report.specs.declared.line.Counts.Counts}
use Rattle.crossbar5.specs.{Audit.{AreRightCounts, IsFoundOf, righted, counts_after}, declared.finding.Finding.Finding}
use Rattle.crossbar5.specs.declared.finding.{Finding.TheVariants.{NoReport, WrongTurn, WrongReply, WrongCounts, Legal}, OfficeCounts.OfficeCounts}

-- legal records with right counts are found legal
pub found_legal : (plan : Tables) (records : List Record) (counts : Option Counts) (finding : Finding) → IsLegal plan records
    → AreRightCounts counts (counts_after plan records) → IsFoundOf plan records counts finding
    → finding ≡ Legal (length records) (counts_after plan records)
found_legal plan records counts (Legal count standing) legal right is = ap₂ (λ (n : ℕ) (s : OfficeCounts). Legal n s) is.1 is.2
found_legal plan records counts (WrongCounts standing) legal right is = absurd (is.2 (subst (AreRightCounts counts) (sym is.1) right))
found_legal plan records counts (WrongReply given other) legal right is = let none = no-fault plan records (Reply given.turn) legal (legal.turns, is.0) in
    absurd cc
found_legal plan records counts (WrongTurn place) legal right is = absurd is
found_legal plan records counts (NoReport line) legal right is = absurd is

-- four crosspoints are closed for each path
pub four_a_path : (paths : List Path) → length (closed paths) ≡ 4 * length paths
four_a_path [] = refl
four_a_path (p ∷ paths) = let rest = four_a_path paths in omega (arith, length-append (crosspoints p) (closed paths), rest)

-- so the counts after records are those of the paths and the crosspoints of their set
pub standing_is : (plan : Tables) (records : List Record) (paths : List Path) → paths ≡ after plan records → (count : ℕ)
    → count ≡ length (closed (after plan records))
    → record { paths = length paths; closed = count } ≡ counts_after plan records
standing_is plan records paths same count is = ap₂ (λ (p c : ℕ). record { paths = p; closed = c }) (ap length same) (is ∙ four_a_path (after plan records))

-- the first record with a wrong reply is found, and the same with the right one
pub found_reply : (plan : Tables) (records : List Record) (turn : ℕ) (given again right : Record) → HaveTurns 0 records → IsFirstWrongReply plan records turn
    → slice_get records turn ≡ Some given
    → again ≡ given → right ≡ righted plan (take turn records) given → (counts : Option Counts) → IsFoundOf plan records counts (WrongReply again right)
found_reply plan records turn given again right turns wrong here same is counts =
    let at : again.turn ≡ turn = ap (λ (r : Record). r.turn) same ∙ turn_at records turn given turns here in (
      subst (λ (t : ℕ). IsFirstWrongReply plan records t) (sym at) wrong,
      ap (λ (t : ℕ). slice_get records t) at ∙ here ∙ ap (λ (r : Record). Some r) (sym same),
      is ∙ ap₂ (λ (t : ℕ) (r : Record). righted plan (take t records) r) (sym at) (sym same),
    )
