-- What happened in a turn, in sentences: only what its record and the plan show.
use Rattle.std.specs.Prelude.{ℕ, Bool, true, false, if◌then◌else◌, Option, Some, None, List, [], ◌∷◌, ◌++◌, codes, decimal, map, option_to_list}
use Rattle.std.specs.List.{concat}
use Rattle.xbar_equip.specs.Channel.{channel_text}
use Rattle.xbar_equip.specs.Dialled.{dialled_text}
use Rattle.xbar_equip.specs.Len.{line_text}
use Rattle.xbar_equip.specs.Link.{link_text}
use Rattle.xbar_equip.specs.Path.{junctor, line_link, path_text, trunk_link}
use Rattle.xbar_equip.specs.Ten.{place_text}
use Rattle.xbar_equip.specs.declared.path.Path.{Path}
use Rattle.xbar_office.specs.AddedPaths.{added_by}
use Rattle.xbar_office.specs.declared.job.Job.{Job}
use Rattle.xbar_office.specs.declared.job.Job.TheVariants.{Dial, Complete, Release}
use Rattle.xbar_office.specs.declared.reply.Card.{Card}
use Rattle.xbar_office.specs.declared.reply.End.{End}
use Rattle.xbar_office.specs.declared.reply.End.TheVariants.{DialTone, Connected, Released, CalledBusy, LineBusy, RegistersBusy, TrunksBusy, NoPath, Trouble, VacantCode, VacantNumber, NoRegister, NoCall}
use Rattle.xbar_office.specs.declared.reply.Record.{Record}
use Rattle.xbar_office.specs.declared.trial.CallPaths.{CallPaths}
use Rattle.xbar_office_text.specs.Ends.{end_text}
use Rattle.xbar_plan.specs.Tables.{Tables}

-- ---- the job

-- what the line of a job asks for, in words
unfoldable pub asked_words : Job → List ℕ
asked_words (Dial line) = concat (codes "line " ∷ line_text line ∷ codes " wants dial tone" ∷ [])
asked_words (Complete line dialled) =
    concat (codes "line " ∷ line_text line ∷ codes " calls " ∷ dialled_text dialled ∷ [])
asked_words (Release line) = concat (codes "line " ∷ line_text line ∷ codes " hangs up" ∷ [])

-- the sentence on the marker that does a job
unfoldable pub marker_words : Record → List ℕ
marker_words owner =
    concat (codes "Marker " ∷ decimal owner.marker ∷ codes " does job " ∷ decimal owner.job_no
    ∷ codes "." ∷ [])

-- ---- its end

-- why a job didn't get what it asked for; empty if it did
abbrev pub refusal_words : End → List ℕ
refusal_words CalledBusy = codes "Called busy: no line of the number that was dialled is idle, but perhaps the calling one."
refusal_words LineBusy = codes "Line busy: the line is in a path already."
refusal_words RegistersBusy = codes "Registers busy: no register is idle."
refusal_words TrunksBusy = codes "Trunks busy: no trunk that the code leads to is idle."
refusal_words NoPath = codes "No path: no trial found an idle channel."
refusal_words Trouble =
    codes "Trouble: both trials failed, and at least one of them at a faulty link."
refusal_words VacantCode = codes "Vacant code: the office has no such code."
refusal_words VacantNumber = codes "Vacant number: the office has no such number."
refusal_words NoRegister = codes "No register: the line has no register."
refusal_words NoCall = codes "No call: the line has no path."
refusal_words _ = []

-- the other line of a call inside the office
abbrev pub with_line : Option Path → List ℕ
with_line None = []
with_line (Some other) = codes " with line " ++ line_text other.line

-- the sentence on how a job ended
unfoldable pub end_words : Tables → End → List ℕ
end_words plan (DialTone path trial) =
    concat (codes "Dial tone: trial " ∷ decimal trial ∷ codes " found a path to "
    ∷ end_text plan path ∷ codes "." ∷ [])
end_words plan (Connected calling called trial) =
    concat (codes "Connected" ∷ with_line called ∷ codes ": trial " ∷ decimal trial
    ∷ codes " found a path to " ∷ end_text plan calling ∷ codes "." ∷ [])
end_words plan (Released own other) =
    concat (codes "Released" ∷ with_line other ∷ codes ": the path to " ∷ end_text plan own
    ∷ codes " is gone." ∷ [])
end_words plan end = refusal_words end

-- whether a completing job with this end released a register: it does so if its line has one,
-- whatever the result of the call
abbrev pub had_register : End → Bool
had_register NoRegister = false
had_register _ = true

-- that a register was released, if one was
abbrev pub register_words : Job → End → List (List ℕ)
register_words (Complete line dialled) end =
    if had_register end then codes "The register is given back: four crosspoints open." ∷ [] else []
register_words _ end = []

-- ---- its paths

-- the paths that a job with this end took out
abbrev pub taken_out : End → List Path
taken_out (Released own other) = own ∷ option_to_list other
taken_out _ = []

-- the paths of a call, if there is one
abbrev pub paths_of : Option CallPaths → List Path
paths_of None = []
paths_of (Some call) = call.calling ∷ option_to_list call.called

-- the paths that a job with this end set up
abbrev pub set_up : End → List Path
set_up end = paths_of (added_by end)

-- the three links of a path
unfoldable pub links_words : Path → List ℕ
links_words path =
    concat (link_text (line_link path) ∷ codes ", " ∷ link_text (junctor path) ∷ codes ", "
    ∷ link_text (trunk_link path) ∷ [])

-- the sentence on a path that a job took out
unfoldable pub taken_out_words : Path → List ℕ
taken_out_words path =
    concat (codes "Path " ∷ path_text path ∷ codes " is taken out: " ∷ links_words path
    ∷ codes " are idle again. Four crosspoints open." ∷ [])

-- the sentence on a path that a job set up
unfoldable pub set_up_words : Path → List ℕ
set_up_words path =
    concat (codes "Channel " ∷ channel_text path.channel ∷ codes " is idle from line "
    ∷ line_text path.line ∷ codes " to place " ∷ place_text path.place
    ∷ codes ": " ∷ links_words path ∷ codes ". Four crosspoints close." ∷ [])

-- ---- all of it

-- all sentences on a turn, but for those on its trouble cards
unfoldable pub sentences : Tables → Record → List (List ℕ)
sentences plan owner =
    marker_words owner ∷ end_words plan owner.reply.end ∷ register_words owner.job owner.reply.end
    ++ map taken_out_words (taken_out owner.reply.end)
    ++ map set_up_words (set_up owner.reply.end)

-- the sentence on a trouble card
unfoldable pub card_words : Card → List ℕ
card_words card =
    concat (codes "Trouble card: trial " ∷ decimal card.trial ∷ codes ", " ∷ link_text card.link
    ∷ codes " is faulty." ∷ [])
