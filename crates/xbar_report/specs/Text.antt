use Rattle.std.specs.Prelude.{ℕ, Option, Some, None, List, [], ◌∷◌, ◌++◌, codes, decimal, flat_map, map}
use Rattle.std.specs.List.{join_with_byte}
use Rattle.std.specs.Option.{option_map_or}
use Rattle.xbar_equip.specs.Dialled.{dialled_text}
use Rattle.xbar_equip.specs.Len.{line_text}
use Rattle.xbar_equip.specs.Link.{link_text}
use Rattle.xbar_equip.specs.Path.{path_text}
use Rattle.xbar_equip.specs.declared.path.Path.{Path}
use Rattle.xbar_office.specs.declared.job.Job.{Job}
use Rattle.xbar_office.specs.declared.job.Job.TheVariants.{Dial, Complete, Release}
use Rattle.xbar_office.specs.declared.reply.Card.{Card}
use Rattle.xbar_office.specs.declared.reply.End.{End}
use Rattle.xbar_office.specs.declared.reply.End.TheVariants.{DialTone, Connected, Released, CalledBusy, LineBusy, RegistersBusy, TrunksBusy, NoPath, Trouble, VacantCode, VacantNumber, NoRegister, NoCall}
use Rattle.xbar_office.specs.declared.reply.Record.{Record}
use Rattle.xbar_report.specs.declared.line.Counts.{Counts}
use Rattle.xbar_report.specs.declared.line.TroubleLine.{TroubleLine}

-- fields with commas between them
abbrev pub fields : List (List ℕ) → List ℕ
fields texts = join_with_byte 44 texts

-- a field with no value
abbrev pub nothing : List ℕ
nothing = codes "-"

-- the fields of a job: kind, line, dialled
abbrev pub job_fields : Job → List ℕ
job_fields (Dial line) = fields (codes "D" ∷ line_text line ∷ nothing ∷ [])
job_fields (Complete line dialled) = fields (codes "C" ∷ line_text line ∷ dialled_text dialled ∷ [])
job_fields (Release line) = fields (codes "R" ∷ line_text line ∷ nothing ∷ [])

-- the field of a path; '-' if there is none
abbrev pub path_field : Option Path → List ℕ
path_field path = option_map_or path_text path nothing

-- the fields of an end that has neither a trial nor a path
abbrev pub plain_end_fields : List ℕ → List ℕ
plain_end_fields name = fields (name ∷ nothing ∷ nothing ∷ nothing ∷ [])

-- the fields of an end: its name, trial, first path, second path
abbrev pub end_fields : End → List ℕ
end_fields (DialTone path trial) =
    fields (codes "DIALTONE" ∷ decimal trial ∷ path_text path ∷ nothing ∷ [])
end_fields (Connected calling called trial) =
    fields (codes "CONNECTED" ∷ decimal trial ∷ path_text calling ∷ path_field called ∷ [])
end_fields (Released own other) =
    fields (codes "RELEASED" ∷ nothing ∷ path_text own ∷ path_field other ∷ [])
end_fields CalledBusy = plain_end_fields (codes "CALLEDBUSY")
end_fields LineBusy = plain_end_fields (codes "LINEBUSY")
end_fields RegistersBusy = plain_end_fields (codes "REGISTERSBUSY")
end_fields TrunksBusy = plain_end_fields (codes "TRUNKSBUSY")
end_fields NoPath = plain_end_fields (codes "NOPATH")
end_fields Trouble = plain_end_fields (codes "TROUBLE")
end_fields VacantCode = plain_end_fields (codes "VACANTCODE")
end_fields VacantNumber = plain_end_fields (codes "VACANTNUMBER")
end_fields NoRegister = plain_end_fields (codes "NOREGISTER")
end_fields NoCall = plain_end_fields (codes "NOCALL")

-- a line with these fields
abbrev pub line_with : List (List ℕ) → List ℕ
line_with texts = fields texts ++ codes "\n"

-- the line of a record: turn, job number, marker, then the fields of its job and of its end
abbrev pub record_line : Record → List ℕ
record_line r =
    line_with (decimal r.turn ∷ decimal r.job_no ∷ decimal r.marker ∷ job_fields r.job
    ∷ end_fields r.reply.end ∷ [])

-- the line of a trouble card: turn, job number, trial, link
abbrev pub trouble_line : TroubleLine → List ℕ
trouble_line t =
    line_with (codes "TROUBLE" ∷ decimal t.turn ∷ decimal t.job_no ∷ decimal t.card.trial
    ∷ link_text t.card.link ∷ [])

-- a card of a record, with the record's turn and job number
abbrev pub trouble_of : Record → Card → TroubleLine
trouble_of r card = record { turn = r.turn; job_no = r.job_no; card = card }

-- a record's cards, in their order
abbrev pub troubles_of : Record → List TroubleLine
troubles_of r = map (trouble_of r) r.reply.cards

-- the lines of a record's cards, in their order
abbrev pub card_lines : Record → List ℕ
card_lines r = flat_map trouble_line (troubles_of r)

-- a count line: a name and a number
abbrev pub count_line : List ℕ → ℕ → List ℕ
count_line name count = line_with (name ∷ decimal count ∷ [])

-- the line with the number of paths
abbrev pub paths_line : ℕ → List ℕ
paths_line paths = count_line (codes "PATHS") paths

-- the line with the number of closed crosspoints
abbrev pub closed_line : ℕ → List ℕ
closed_line closed = count_line (codes "CLOSED") closed

-- the two count lines, if there are counts
abbrev pub count_lines : Option Counts → List ℕ
count_lines None = []
count_lines (Some counts) = paths_line counts.paths ++ closed_line counts.closed

-- the text of records, with counts or without: the lines of all records, then those of all cards,
-- then the counts
abbrev pub records_text : List Record → Option Counts → List ℕ
records_text records counts =
    flat_map record_line records ++ flat_map card_lines records ++ count_lines counts

-- the text of a run with these records, and with these counts of paths and of closed crosspoints
-- at its end
abbrev pub report_text : List Record → ℕ → ℕ → List ℕ
report_text records paths closed =
    records_text records (Some (record { paths = paths; closed = closed }))
