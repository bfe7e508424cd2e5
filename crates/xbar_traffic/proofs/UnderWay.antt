use Rattle.std.proofs.Common.{◌≡◌, ◌∷◌, ◌++◌, [], Bor, true, ℕ, List, refl, sym, subst, ◌∙◌, inl, false, Option, Some, None, Ok, Err}
use Rattle.csv.specs.Reading.{ReadRecord, Reached, Ready, default_config, is_flexible, reader_config, reader_state, reader_trim, records, source_of, took_first}
use Rattle.csv.{specs.declared.reader.Reader.Reader, proofs.ReadFacts.{rows-end, rows-more}}
use Rattle.xbar_traffic.specs.{Traffic.{AreReadAfter, IsJudgedAs, IsTrafficOf, is_in_rows}, declared.{fault.RowFault.RowFault, row.{Mode.Mode, Row.Row}}}
use Rattle.xbar_traffic.proofs.{RecordCounts.{records_are, records_begin}, RowsSoFar.{read_more, read_stops}}
use Rattle.csv.specs.declared.parser.State.TheVariants as st
use Rattle.csv.specs.declared.reader.Trim.TheVariants as trim

-- a reader of bytes in memory
abbrev pub Bytes : Type 0
Bytes = Bor (List ℕ)

abbrev pub bytes_left : Bytes → Option (List ℕ)
bytes_left bytes = Some bytes.now

-- the records that a reader gave so far are these rows, and it can give more
pub record IsUnderWay (mode : Mode) (text : List ℕ) (reader : Reader Bytes) (rows : List Row) : Type 0 where
  pub trim : reader_trim reader ≡ trim.None
  pub ready : Ready reader
  pub config : reader_config reader ≡ default_config
  pub flexible : is_flexible reader ≡ true
  pub rest : List ℕ
  pub source : source_of bytes_left reader ≡ Some rest
  pub given : List (List (List ℕ))
  pub reached : Reached default_config st.StartRecord text given (reader_state reader) rest
  pub read : AreReadAfter mode [] given rows None

-- the next record is a row
pub goes_on : (mode : Mode) (text : List ℕ) (old new : Reader Bytes) (rows : List Row) (fields : List (List ℕ)) (row : Row)
    → IsUnderWay mode text old rows → ReadRecord bytes_left old new true fields → took_first new ≡ true → is_flexible new ≡ is_flexible old
    → IsJudgedAs mode (is_in_rows rows) fields (Ok row) → IsUnderWay mode text new (rows ++ row ∷ [])
goes_on mode text old new rows fields row u took first flexible judged =
    let (rest, source, reached) = rows-more bytes_left old new fields default_config st.StartRecord text u.rest u.given u.config u.source u.reached took in
    record {
      trim = took.3 ∙ u.trim;
      ready = inl first;
      config = took.2 ∙ u.config;
      flexible = flexible ∙ u.flexible;
      rest = rest;
      source = source;
      given = u.given ++ fields ∷ [];
      reached = reached;
      read = read_more mode [] u.given rows fields row u.read judged;
    }

-- the next record is at fault
pub stops : (mode : Mode) (text : List ℕ) (old new : Reader Bytes) (rows : List Row) (fields : List (List ℕ)) (fault : RowFault)
    → IsUnderWay mode text old rows → ReadRecord bytes_left old new true fields
    → IsJudgedAs mode (is_in_rows rows) fields (Err fault) → IsTrafficOf mode (records default_config text) rows (Some fault)
stops mode text old new rows fields fault u took judged =
    let (rest, source, reached) = rows-more bytes_left old new fields default_config st.StartRecord text u.rest u.given u.config u.source u.reached took in
    subst (λ (all : List (List (List ℕ))). IsTrafficOf mode all rows (Some fault))
    (sym (records_begin (u.given ++ fields ∷ []) (reader_state new) text rest reached))
    (read_stops mode [] u.given _ rows fields fault u.read judged)

-- there is no next record
pub ends : (mode : Mode) (text : List ℕ) (old new : Reader Bytes) (rows : List Row) (fields : List (List ℕ))
    → IsUnderWay mode text old rows → ReadRecord bytes_left old new false fields → IsTrafficOf mode (records default_config text) rows None
ends mode text old new rows fields u ended =
    let none = rows-end bytes_left old new fields default_config u.rest u.config u.source ended in
    subst (λ (all : List (List (List ℕ))). IsTrafficOf mode all rows None) (sym (records_are u.given (reader_state old) text u.rest u.reached none)) u.read

-- a reader that was made and has given nothing
pub begins : (mode : Mode) (text : List ℕ) (reader : Reader Bytes) → reader_trim reader ≡ trim.None → Ready reader
    → reader_config reader ≡ default_config → is_flexible reader ≡ true → source_of bytes_left reader ≡ Some text → reader_state reader ≡ st.StartRecord
    → IsUnderWay mode text reader []
unfolding Reached
begins mode text reader trim ready config flexible source start =
    record {
      trim = trim;
      ready = ready;
      config = config;
      flexible = flexible;
      rest = text;
      source = source;
      given = [];
      reached = (sym start, refl);
      read = tt;
    }
