use Rattle.std.proofs.Common.{◌≡◌, ℕ, zero, suc, List, [], ◌∷◌, ◌++◌, map, take, refl, sym, ap, ◌∙◌, Option, Some, None}
use Rattle.{xbar_office.specs.declared.reply.Record.{Record as TheRecord}, xbar_report.specs.{Bare.bare_line, Draft.{stage_behind, tally_lines}}}
use Rattle.xbar_report.specs.{Line.{lines_of_sheet, lines_of_counts, next_stage, Stage, AtRecords, AtCards, AtPaths, AtEnd}, Sheet.Sheet}
use Rattle.xbar_report.specs.declared.line.{Counts.Counts, Line.{Line, TheVariants.{Record, Trouble, Paths, Closed}}, TroubleLine.TroubleLine}
use Rattle.xbar_report.specs.declared.reading.Tally.{Tally, TheVariants.{Missing, Begun, Whole}}

-- the stage after these lines, if each may come
abbrev pub stage_after : Option Stage → List Line → Option Stage
stage_after None ls = None
stage_after (Some stage) [] = Some stage
stage_after (Some stage) (l ∷ ls) = stage_after (next_stage stage l) ls

pub stage_after-append : (at : Option Stage) (xs ys : List Line) → stage_after at (xs ++ ys) ≡ stage_after (stage_after at xs) ys
stage_after-append None xs ys = refl
stage_after-append (Some stage) [] ys = refl
stage_after-append (Some stage) (x ∷ xs) ys = stage_after-append (next_stage stage x) xs ys

-- the first lines of those that may come may come
pub stage_after-take : (at : Option Stage) (n : ℕ) (ls : List Line) (end : Stage) → stage_after at ls ≡ Some end
    → (stage : Stage) × (stage_after at (take n ls) ≡ Some stage)
stage_after-take None n ls end e = absurd (let none : ◌≡◌ {A = Option Stage} None (Some end) = e in cc)
stage_after-take (Some stage) zero ls end e = (stage, refl)
stage_after-take (Some stage) (suc n) [] end e = (stage, refl)
stage_after-take (Some stage) (suc n) (l ∷ ls) end e = stage_after-take (next_stage stage l) n ls end e

-- the cards of a record count for nothing
pub next-bare : (stage : Stage) (l : Line) → next_stage stage (bare_line l) ≡ next_stage stage l
next-bare AtRecords (Record r) = refl
next-bare AtRecords (Trouble t) = refl
next-bare AtRecords (Paths paths) = refl
next-bare AtRecords (Closed closed) = refl
next-bare AtCards (Record r) = refl
next-bare AtCards (Trouble t) = refl
next-bare AtCards (Paths paths) = refl
next-bare AtCards (Closed closed) = refl
next-bare AtPaths (Record r) = refl
next-bare AtPaths (Trouble t) = refl
next-bare AtPaths (Paths paths) = refl
next-bare AtPaths (Closed closed) = refl
next-bare AtEnd (Record r) = refl
next-bare AtEnd (Trouble t) = refl
next-bare AtEnd (Paths paths) = refl
next-bare AtEnd (Closed closed) = refl

pub stage_after-bare : (at : Option Stage) (ls : List Line) → stage_after at (map bare_line ls) ≡ stage_after at ls
stage_after-bare None ls = refl
stage_after-bare (Some stage) [] = refl
stage_after-bare (Some stage) (l ∷ ls) =
    ap (λ (at : Option Stage). stage_after at (map bare_line ls)) (next-bare stage l) ∙ stage_after-bare (next_stage stage l) ls

behind_records : (rs : List TheRecord) → stage_after (Some AtRecords) (map Record rs) ≡ Some AtRecords
behind_records [] = refl
behind_records (r ∷ rs) = behind_records rs

from_cards : (cs : List TroubleLine) → stage_after (Some AtCards) (map Trouble cs) ≡ Some AtCards
from_cards [] = refl
from_cards (c ∷ cs) = from_cards cs

behind_cards : (cs : List TroubleLine) → stage_after (Some AtRecords) (map Trouble cs) ≡ Some (stage_behind Missing cs)
behind_cards [] = refl
behind_cards (c ∷ cs) = from_cards cs

counts_from : (cs : List TroubleLine) (tally : Tally) → stage_after (Some (stage_behind Missing cs)) (tally_lines tally) ≡ Some (stage_behind tally cs)
counts_from [] Missing = refl
counts_from [] (Begun paths) = refl
counts_from [] (Whole counts) = refl
counts_from (c ∷ cs) Missing = refl
counts_from (c ∷ cs) (Begun paths) = refl
counts_from (c ∷ cs) (Whole counts) = refl

-- the stages after records, cards and counts
pub stage_of_lines : (rs : List TheRecord) (cs : List TroubleLine) (tally : Tally)
    → stage_after (Some AtRecords) (map Record rs ++ map Trouble cs ++ tally_lines tally) ≡ Some (stage_behind tally cs)
stage_of_lines rs cs tally =
    stage_after-append (Some AtRecords) (map Record rs ++ map Trouble cs) (tally_lines tally)
    ∙ ap (λ (at : Option Stage). stage_after at (tally_lines tally)) (stage_after-append (Some AtRecords) (map Record rs) (map Trouble cs)
    ∙ ap (λ (at : Option Stage). stage_after at (map Trouble cs)) (behind_records rs) ∙ behind_cards cs)
    ∙ counts_from cs tally

-- a sheet never ends between its counts
abbrev tally_of : Option Counts → Tally
tally_of None = Missing
tally_of (Some counts) = Whole counts

tally_lines_of : (counts : Option Counts) → tally_lines (tally_of counts) ≡ lines_of_counts counts
tally_lines_of None = refl
tally_lines_of (Some counts) = refl

pub record IsWholeStage (stage : Stage) : Type 0 where
  pub whole : stage ≡ AtPaths → ⊥

whole_behind : (counts : Option Counts) (cs : List TroubleLine) → IsWholeStage (stage_behind (tally_of counts) cs)
whole_behind None [] = record { whole = λ e. cc }
whole_behind None (c ∷ cs) = record { whole = λ e. cc }
whole_behind (Some counts) cs = record { whole = λ e. cc }

pub stage_of_sheet : (s : Sheet) → (stage : Stage) × (stage_after (Some AtRecords) (lines_of_sheet s) ≡ Some stage) × IsWholeStage stage
stage_of_sheet s = (
  stage_behind (tally_of s.counts) s.cards,
  ap (λ (ls : List Line). stage_after (Some AtRecords) (map Record s.records ++ map Trouble s.cards ++ ls)) (sym (tally_lines_of s.counts))
      ∙ stage_of_lines s.records s.cards (tally_of s.counts),
  whole_behind s.counts s.cards,
)
