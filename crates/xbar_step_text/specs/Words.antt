use Rattle.std.specs.Prelude.{ℕ, ◌-◌, ◌^◌, Option, None, Some, List, [], ◌∷◌, bit_and, codes, decimal}
use Rattle.std.specs.List.{concat}
use Rattle.xbar_equip.specs.Dialled.{dialled_text}
use Rattle.xbar_equip.specs.Len.{line_text}
use Rattle.xbar_equip.specs.Path.{path_text}
use Rattle.xbar_equip.specs.declared.conn.Conn.{Conn}
use Rattle.xbar_equip.specs.declared.path.Path.{Path}
use Rattle.xbar_office.specs.declared.job.Job.{Job}
use Rattle.xbar_office.specs.declared.job.Job.TheVariants.{Dial, Complete, Release}
use Rattle.xbar_office.specs.declared.reply.End.{End}
use Rattle.xbar_office.specs.declared.reply.End.TheVariants.{DialTone, Connected, Released}
use Rattle.xbar_office.specs.declared.reply.Record.{Record}
use Rattle.xbar_report.specs.Parts.{end_name}
use Rattle.xbar_jobs.specs.declared.program.Step.{Step}
use Rattle.xbar_jobs.specs.declared.program.Step.TheVariants as step
use Rattle.xbar_moves.specs.declared.event.Event.{Event}
use Rattle.xbar_moves.specs.declared.event.Event.TheVariants as event
use Rattle.xbar_step_text.specs.Places.{conn_name, place_name, place_of}
use Rattle.xbar_step_text.specs.Shown.{listed, shown}
use Rattle.xbar_step_text.specs.declared.place.Place.{Place}
use Rattle.xbar_step_text.specs.declared.place.Place.TheVariants.{Group}
use Rattle.xbar_step_text.specs.declared.observation.Observation.{Observation}

-- a job in words
unfoldable pub job_words : Job → List ℕ
job_words (Dial line) = concat (codes "dial tone for line " ∷ line_text line ∷ [])
job_words (Complete line dialled) =
    concat (codes "call of line " ∷ line_text line ∷ codes " to " ∷ dialled_text dialled ∷ [])
job_words (Release line) = concat (codes "release of line " ∷ line_text line ∷ [])

-- why a request or a seizure was denied; empty if it wasn't
unfoldable pub denial_words : Event → List ℕ
denial_words (event.Refused conn holder) =
    concat (codes ": marker " ∷ decimal holder ∷ codes " holds it" ∷ [])
denial_words (event.Preferred other) =
    concat (codes ": marker " ∷ decimal other ∷ codes " is preferred" ∷ [])
denial_words _ = []

-- a seizure in words; if the marker's next step is to seize again, the word wasn't the one that
-- the marker expected
unfoldable pub seize_words : Conn → Event → Step → List ℕ
seize_words conn (event.Refused asked holder) next =
    concat (codes "would seize " ∷ conn_name conn ∷ denial_words (event.Refused asked holder) ∷ [])
seize_words conn (event.Preferred other) next =
    concat (codes "would seize " ∷ conn_name conn ∷ denial_words (event.Preferred other) ∷ [])
seize_words conn _ (step.Seize same expected) =
    concat (codes "would seize " ∷ conn_name conn ∷ codes ": its word has changed, it tries again"
    ∷ [])
seize_words conn _ _ = concat (codes "seizes " ∷ conn_name conn ∷ [])

-- what a test of a place found, in words
unfoldable pub found_words : Place → ℕ → List ℕ
found_words (Group group) word =
    listed (codes "all members idle") (codes "busy members: ") (codes ", ")
    (shown (Group group) word)
found_words place word =
    listed (codes "nothing closed") (codes "closed: ") (codes "; ") (shown place word)

-- a test in words: the place, and what was found
unfoldable pub test_words : Place → ℕ → List ℕ
test_words place word =
    concat (codes "tests " ∷ place_name place ∷ codes ": " ∷ found_words place word ∷ [])

-- a change of crosspoints of a switch, in words
unfoldable pub switched_words : List ℕ → List ℕ → Place → ℕ → List ℕ
switched_words verb state place bits =
    concat (verb ∷ place_name place
    ∷ listed (codes ":") (codes ": ") (codes "; ") (shown place bits) ∷ state ∷ [])

-- a change of members of a group, in words
unfoldable pub marked_words : List ℕ → Place → ℕ → List ℕ
marked_words state place bits =
    concat (listed (codes "marks nothing") (codes "marks member ") (codes ", ") (shown place bits)
    ∷ codes " of " ∷ place_name place ∷ state ∷ [])

-- a close step in words, by the bits that it sets
unfoldable pub close_words : Place → ℕ → List ℕ
close_words (Group group) bits = marked_words (codes " busy") (Group group) bits
close_words place bits = switched_words (codes "closes ") (codes " are joined") place bits

-- an open step in words, by the bits that it clears
unfoldable pub open_words : Place → ℕ → List ℕ
open_words (Group group) bits = marked_words (codes " idle") (Group group) bits
open_words place bits = switched_words (codes "opens ") (codes " are parted") place bits

-- the bits of a word that the mask doesn't keep
abbrev pub cleared_by : ℕ → ℕ → ℕ
cleared_by word mask = bit_and word (2 ^ 64 - 1 - mask)

-- the words that end the line of a job's last step, or of the last step of giving back
unfoldable pub job_ending_words : Event → Step → List ℕ
job_ending_words (event.Finished r) next = concat (codes ", and has done job " ∷ decimal r.job_no ∷ [])
job_ending_words _ (step.Request conn) = codes ", and begins anew"
job_ending_words _ _ = []

-- a second path, after 'and'; empty if there is none
unfoldable pub and_path : Option Path → List ℕ
and_path None = []
and_path (Some path) = concat (codes " and " ∷ path_text path ∷ [])

-- the end of a job in words: its name in records, its trial and its paths
unfoldable pub end_words : End → List ℕ
end_words (DialTone path trial) =
    concat (codes "DIALTONE at trial " ∷ decimal trial ∷ codes " by " ∷ path_text path ∷ [])
end_words (Connected calling called trial) =
    concat (codes "CONNECTED at trial " ∷ decimal trial ∷ codes " by " ∷ path_text calling
    ∷ and_path called ∷ [])
end_words (Released own other) =
    concat (codes "RELEASED, and takes out " ∷ path_text own ∷ and_path other ∷ [])
end_words end = end_name end

-- a turn in words, with the record that it adds
unfoldable pub turn_words : List Record → List ℕ
turn_words [] = codes "takes its turn"
turn_words (r ∷ records) =
    concat (codes "takes turn " ∷ decimal r.turn ∷ codes ": job " ∷ decimal r.job_no
    ∷ codes " ends " ∷ end_words r.reply.end ∷ [])

-- a step in words: what it acts on, and its result
unfoldable pub step_words : Observation → List Record → List ℕ
step_words observed records = of_step observed.step where
  of_step : Step → List ℕ
  of_step (step.Request conn) =
      concat (codes "requests " ∷ conn_name conn ∷ denial_words observed.event ∷ [])
  of_step (step.Seize conn expected) = seize_words conn observed.event observed.next
  of_step (step.Withdraw conn) =
      concat (codes "withdraws its request for " ∷ conn_name conn ∷ job_ending_words observed.event observed.next
      ∷ [])
  of_step (step.Test word) = test_words (place_of word) observed.found
  of_step step.Turn = turn_words records
  of_step (step.Close word bits) = close_words (place_of word) bits
  of_step (step.Open word mask) = open_words (place_of word) (cleared_by observed.found mask)
  of_step (step.Free conn) =
      concat (codes "frees " ∷ conn_name conn ∷ job_ending_words observed.event observed.next ∷ [])
  of_step step.Finished = []
