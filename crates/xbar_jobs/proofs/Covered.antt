use Rattle.std.proofs.Common.{◌≡◌, ℕ, ◌<◌, ◌≤◌, List, [], length, subst, sym, arith, Some, Result, Ok, Err, MatchResult}
use Rattle.turns.proofs.{Keeping.{HasReadWords, WalkFits, under_more, walk_fits, walk_keeps}, Words.run_ends}
use Rattle.turns.specs.{Seen.AreReadWords, Script.run, System.{AreUnder, AreWords}, declared.wanted.Wanted.TheVariants.{Seize, Test}}
use Rattle.xbar_equip.specs.Word.{Word, IsWord, LineSwitch, LineJunctor, TrunkSwitch, TrunkJunctor, GroupWord, ConnWord, TurnWord, protector, word_number}
use Rattle.{xbar_equip.{specs.declared.conn.Conn.Conn, proofs.PathTests.conn_eq-exact}, xbar_plan.specs.{Tables.Tables, Lawful.IsLawful}}
use Rattle.{xbar_office.specs.{Legal.IsJob, declared.job.Job.Job}, xbar_jobs.specs.{Closing.effects, Jobs.script, Keeping.{AreEffects, IsCovered, IsWanted}}}
use Rattle.xbar_jobs.specs.{Office.{Protects, office}, Script.{Seen, Wanted, walk}, Standing.most_effects, declared.decision.Decision.Decision}
use Rattle.xbar_jobs.proofs.{HeldEffects.IsWellCovered, JobBounds.ends_as_kept, JobKeeps.{job_keeps, script_keeps}}

-- a word that a connector protects comes before the connectors' own words
number_below : (w : Word) (conn : Conn) → IsWord w → protector w ≡ Some conn → word_number w < 416
number_below (LineSwitch frame switch) conn is e = omega arith
number_below (LineJunctor frame channel) conn is e = omega arith
number_below (TrunkSwitch frame switch) conn is e = omega arith
number_below (TrunkJunctor frame channel) conn is e = omega arith
number_below (GroupWord group) conn is e = omega arith
number_below (ConnWord c) conn is e = cc
number_below TurnWord conn is e = cc

pub protected_below : (conn : Conn) (number : ℕ) → Protects conn number → number < 416
protected_below conn number p = subst (λ (n : ℕ). n < 416) p.named (number_below p.word conn p.there p.protects)

-- a job's walk comes to effects on words that are held, to a word that may be tested, or to a connector
pub walk_covered : (plan : Tables) (seen : Seen) (job : Job) → IsLawful plan → IsJob job → HasReadWords (office plan) seen
    → WalkFits (office plan) (IsCovered plan) seen.held (walk seen (script plan job))
walk_covered plan seen job laws range read =
    walk_fits (office plan) (λ a b e. (conn_eq-exact a b).0 e) (IsCovered plan) seen read [] (script plan job) (λ conn within. absurd within)
    (script_keeps plan job laws range)

-- and to no more effects than there is room for
walk_well_covered : (plan : Tables) (seen : Seen) (job : Job) → IsLawful plan → IsJob job → AreReadWords seen.readings
    → WalkFits (office plan) (IsWellCovered plan) seen.held (walk seen (script plan job))
walk_well_covered plan seen job laws range read =
    walk_keeps (office plan) (λ a b e. (conn_eq-exact a b).0 e) (IsWellCovered plan) seen read [] (script plan job) (λ conn within. absurd within)
    (job_keeps plan laws job range)

in_office : (plan : Tables) (held : List Conn) (found : Result Decision Wanted) → WalkFits (office plan) (IsWellCovered plan) held found
    → MatchResult found (λ decision. AreEffects (effects decision) × (length (effects decision) ≤ most_effects)) (λ wanted. IsWanted wanted)
in_office plan held (Ok decision) good = let fits = good.fits in (fits.covered.effects, fits.few)
in_office plan held (Err (Seize conn)) range = range
in_office plan held (Err (Test word)) under = let below = protected_below under.lock word under.protects in omega arith

-- so what it comes to is of the office
pub walk_range : (plan : Tables) (seen : Seen) (job : Job) (found : Result Decision Wanted) → IsLawful plan → IsJob job → AreReadWords seen.readings
    → found ≡ walk seen (script plan job)
    → MatchResult found (λ decision. AreEffects (effects decision) × (length (effects decision) ≤ most_effects)) (λ wanted. IsWanted wanted)
walk_range plan seen job found laws range read is =
    subst (λ (r : Result Decision Wanted). MatchResult r (λ decision. AreEffects (effects decision) × (length (effects decision) ≤ most_effects))
    (λ wanted. IsWanted wanted)) (sym is)
    (in_office plan seen.held (walk seen (script plan job)) (walk_well_covered plan seen job laws range read))

pub decision_range : (plan : Tables) (seen : Seen) (job : Job) (decision : Decision) → IsLawful plan → IsJob job → AreReadWords seen.readings
    → Ok decision ≡ walk seen (script plan job) → AreEffects (effects decision) × (length (effects decision) ≤ most_effects)
decision_range plan seen job decision laws range read is = walk_range plan seen job (Ok decision) laws range read is

-- run alone on words of 64 bits, a job comes to effects of the office
pub run_range : (plan : Tables) (words : List ℕ) (job : Job) → IsLawful plan → IsJob job → AreWords words →
    AreEffects (effects (run words (script plan job)))
run_range plan words job laws range are =
    let Has : Decision → Type 0 = λ decision. AreEffects (effects decision) in
    run_ends Has words (script plan job) are
    (ends_as_kept plan (IsCovered plan) Has [] (script plan job) (λ held decision covered. covered.effects) (script_keeps plan job laws range))

-- a decision that it comes to has its effects on words that are held
pub decided_under : (plan : Tables) (seen : Seen) (job : Job) (decision : Decision) → IsLawful plan → IsJob job → HasReadWords (office plan) seen
    → walk seen (script plan job) ≡ Ok decision → AreUnder (office plan) seen.held (effects decision)
decided_under plan seen job decision laws range read come =
    let covered = subst (λ (found : _). WalkFits (office plan) (IsCovered plan) seen.held found) come (walk_covered plan seen job laws range read) in
    λ effect within. under_more (office plan) covered.some seen.held _ covered.among (covered.fits.under effect within)
