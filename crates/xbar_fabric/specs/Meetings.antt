use Rattle.std.specs.Prelude.{◌≡◌, ℕ, ◌<◌, ◌%◌, ◌^◌, List, length, slice_get, slice_index, IfSome, true}
use Rattle.turns.specs.Among.{IsIn}
use Rattle.turns.specs.System.{AreWords}
use Rattle.desks.specs.Parts.{Begins}
use Rattle.xbar_equip.specs.Conn.{IsConn}
use Rattle.xbar_equip.specs.Word.{ConnWord, TurnWord, word_count, word_number}
use Rattle.xbar_equip.specs.declared.conn.Conn.{Conn}
use Rattle.xbar_plan.specs.Tables.{Tables}
use Rattle.xbar_office.specs.Legal.{after}
use Rattle.xbar_office.specs.declared.reply.Record.{Record}
use Rattle.xbar_jobs.specs.Office.{ShowsOffice}
use Rattle.xbar_moves.specs.Exchange.{Exchange, is_idle}
use Rattle.xbar_fabric.specs.Between.{IsOfficeOn}
use Rattle.xbar_fabric.specs.Histories.{IsHistory}
use Rattle.xbar_fabric.specs.Views.{DeskView, FabricView, AgreesWith, IsDeskOf, mine, own}

-- two desks have met: both have now seen one history, which begins with what each had seen, and in
-- which each has the same own records as before
pub record MarkersHaveMet (one other one_after other_after : DeskView) : Type 0 where
  pub history : IsHistory one.plan one_after.seen
  pub same : other_after.seen ≡ one_after.seen
  pub one_begins : Begins one.seen one_after.seen
  pub other_begins : Begins other.seen other_after.seen
  pub one_mine : mine one_after ≡ mine one
  pub other_mine : mine other_after ≡ mine other

-- a desk has learned a note: it has now seen a history, which begins with what it had seen and with
-- what the note has, and in which it has the same own records as before
pub record MarkerHasLearned (before : DeskView) (noted : List Record) (after : DeskView) : Type 0
  where
    pub history : IsHistory after.plan after.seen
    pub begins : Begins before.seen after.seen
    pub note_begins : Begins noted after.seen
    pub mine_are : mine after ≡ mine before

-- no marker holds the connector, by its word
abbrev pub IsFreeConn : List ℕ → Conn → Type 0
IsFreeConn words conn = slice_index words (word_number (ConnWord conn)) % 64 ≡ 0

-- no marker holds or requests the connector: its word is 0
abbrev pub IsUnused : List ℕ → Conn → Type 0
IsUnused words conn = slice_index words (word_number (ConnWord conn)) ≡ 0

-- words after these records: each has 64 bits, the turn word counts the records, and if no
-- connector is held the words show the set after them
pub record AreWordsAfter (plan : Tables) (records : List Record) (words : List ℕ) : Type 0 where
  pub count : length words ≡ word_count
  pub are_words : AreWords words
  pub counted : slice_index words (word_number TurnWord) ≡ length records % 2 ^ 64
  pub shows : ((conn : Conn) → IsConn conn → IsFreeConn words conn)
      → ShowsOffice plan words (after plan records)

-- the shared words of `count` markers were shut with this desk, whatever jobs were under way: they
-- are the words of a lawful office that agrees with what the desk knew, and words after the
-- office's records, which are a history
pub record FabricIsShut (count : ℕ) (desk : DeskView) (words : List ℕ) : Type 0 where
  pub office : Exchange
  pub agrees : AgreesWith desk office
  pub office_is : IsOfficeOn desk.plan count words office
  pub history : IsHistory desk.plan office.records
  pub words_are : AreWordsAfter desk.plan office.records words

-- all desks of the shared words, each idle and at the index of its marker
pub record AreAllIdle (desks : List DeskView) (fabric : FabricView) : Type 0 where
  pub count : length desks ≡ fabric.count
  pub each : (k : ℕ) → IfSome (slice_get desks k)
      (λ desk. IsDeskOf desk fabric × (desk.marker ≡ k) × (is_idle desk.work ≡ true))

-- the shared words were shut with all their desks: each connector's word is 0, the words show the
-- set after a history that begins with what each desk had seen, and its records are those of the
-- desks' own turns and no others
pub record FabricHasClosed (plan : Tables) (desks : List DeskView) (words : List ℕ) : Type 0 where
  pub records : List Record
  pub history : IsHistory plan records
  pub theirs : (r : Record) → IsIn r records → r.marker < length desks
  pub each : (k : ℕ) → IfSome (slice_get desks k)
      (λ desk. Begins desk.seen records × (own k records ≡ own k desk.seen))
  pub words_are : AreWordsAfter plan records words
  pub unused : (conn : Conn) → IsConn conn → IsUnused words conn
  pub shows : ShowsOffice plan words (after plan records)
