-- a settled office leaves one history
use Rattle.std.proofs.Common.{◌≡◌, ℕ, ◌^◌, ◌%◌, ◌<◌, true, length, ◌∙◌, arith, Some, slice_get, slice_index, mod-eq_of_lt}
use Rattle.{xbar_equip.specs.Word.{TurnWord, word_count, word_number}, xbar_plan.specs.Tables.Tables, xbar_match.proofs.CountedPaths.counted}
use Rattle.{xbar_office.specs.Legal.{IsLegal, after}, xbar_jobs.specs.Office.ShowsOffice, xbar_moves.specs.Exchange.{Exchange, Marker, is_idle}}
use Rattle.crossbar5.specs.Run.{IsOneHistory}

pub settled_history : (plan : Tables) (e : Exchange) → length e.words ≡ word_count → length e.records < 2 ^ 64
    → ((k : ℕ) (m : Marker) → slice_get e.markers k ≡ Some m → is_idle m.work ≡ true)
    → (length e.records < 2 ^ 64 → IsLegal plan e.records) → slice_index e.words (word_number TurnWord) ≡ length e.records % 2 ^ 64
    → ShowsOffice plan e.words (after plan e.records)
    → IsOneHistory plan e
settled_history plan e size fits idle legal turns shows =
    let counts =
    counted e.words (after plan e.records) (omega (arith, size)) shows.switches shows.lawful.orderly.ranges shows.lawful.orderly.apart
    shows.lawful.orderly.set in
    record {
      idle = idle;
      legal = legal fits;
      shows = shows;
      turns = turns ∙ mod-eq_of_lt fits;
      paths = counts.lines;
      crosspoints = counts.closed;
    }
