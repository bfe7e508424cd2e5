use Rattle.xbar_office.specs.Replies.{plain_reply}
use Rattle.xbar_office.specs.declared.reply.Record as record_type
use Rattle.xbar_report.specs.declared.line.Line.{Line}
use Rattle.xbar_report.specs.declared.line.Line.TheVariants.{Record, Trouble, Paths, Closed}

-- a record without its cards, which its line doesn't show
abbrev pub bare_record : record_type.Record → record_type.Record
bare_record r = record r { reply = plain_reply r.reply.end }

-- a line without the cards of its record, if it has a record
abbrev pub bare_line : Line → Line
bare_line (Record r) = Record (bare_record r)
bare_line (Trouble t) = Trouble t
bare_line (Paths paths) = Paths paths
bare_line (Closed closed) = Closed closed
