use Rattle.std.specs.Prelude.{ℕ, ◌==◌, Bool, true, false, Option, Some, None, List, [], ◌∷◌, option_and_then, if◌then◌else◌}
use Rattle.xbar_equip.specs.Dialled.{code_of, number_of}
use Rattle.xbar_equip.specs.Len.{Line, line_eq}
use Rattle.xbar_equip.specs.declared.conn.Conn.TheVariants.{Group}
use Rattle.xbar_equip.specs.declared.path.Path.{Path}
use Rattle.xbar_plan.specs.Tables.{Tables, lines_of, member_place, register_group, route_of}
use Rattle.xbar_plan.specs.declared.group.MemberPlace.{MemberPlace}
use Rattle.xbar_office.specs.Trunks.{leads_inside}
use Rattle.xbar_office.specs.declared.aim.Aim.TheVariants.{Connected}
use Rattle.xbar_office.specs.declared.reply.End.TheVariants.{CalledBusy, NoRegister, VacantCode, VacantNumber}
use Rattle.turns.specs.Script.{Ends, ◌>>=◌, ◌>>◌, seize}
use Rattle.xbar_jobs.specs.Closing.{leave_effects, leave_of, leaving, refused}
use Rattle.xbar_jobs.specs.Connecting.{alone, connect}
use Rattle.xbar_jobs.specs.Script.{Script, as_if_made}
use Rattle.xbar_jobs.specs.Sides.{party_after}
use Rattle.xbar_jobs.specs.Tracing.{approach, channel_of, trace}
use Rattle.xbar_jobs.specs.declared.decision.Decision.{Decision}
use Rattle.xbar_jobs.specs.declared.decision.Leave.{Leave}
use Rattle.xbar_jobs.specs.declared.party.Party.{Party}

-- a line that has a path is passed over
unfoldable pub unless_busy : Party → Script (Option Party) → Option ℕ → Script (Option Party)
unless_busy party next None = Ends (Some party)
unless_busy party next (Some channel) = next

-- the calling line is passed over; any other is approached, and passed over if it has a path
unfoldable pub unless_calling : Line → Script (Option Party) → Bool → Script (Option Party)
unless_calling line next true = next
unless_calling line next false = do
  party ← approach line
  unless_busy party next (channel_of party)

-- the first idle line of a number that isn't the calling line: lines are approached in order until
-- one is idle
unfoldable pub hunt : Line → List Line → Script (Option Party)
hunt calling [] = Ends None
hunt calling (line ∷ lines) = unless_calling line (hunt calling lines) (line_eq line calling)

-- a call to this line of the office; without an idle line the called number is busy
unfoldable pub call_line : Tables → Party → List ℕ → Option Party → Script Decision
call_line plan calling groups None = Ends (refused CalledBusy)
call_line plan calling groups (Some called) =
    connect plan Connected (record { calling = calling; called = Some called }) groups

-- a call to a number of the office, which has these lines
unfoldable pub call_number : Tables → Party → List ℕ → Option (List Line) → Script Decision
call_number plan calling groups None = Ends (refused VacantNumber)
call_number plan calling groups (Some lines) = do
  called ← hunt calling.line lines
  call_line plan calling groups called

-- a call by these groups: inside the office by its number, and else without it
unfoldable pub call_by : Tables → Party → ℕ → List ℕ → Bool → Script Decision
call_by plan calling dialled groups true =
    call_number plan calling groups (lines_of plan (number_of dialled))
call_by plan calling dialled groups false = connect plan Connected (alone calling) groups

-- a call by the groups that its code leads to, if it leads to any
unfoldable pub call : Tables → Party → ℕ → Option (List ℕ) → Script Decision
call plan calling dialled None = Ends (refused VacantCode)
call plan calling dialled (Some groups) =
    call_by plan calling dialled groups (leads_inside plan groups)

-- this member, if it is a register
abbrev pub if_register : Tables → MemberPlace → Option MemberPlace
if_register plan found = if found.group == register_group plan then Some found else None

-- the register at which a path ends, if it ends at one
abbrev pub register_at : Tables → Path → Option MemberPlace
register_at plan own = option_and_then (if_register plan) (member_place plan own.place)

-- the register is let go: its group is seized, and the call is decided on the words as they will
-- be once the register is let go
unfoldable pub call_without : Tables → Party → ℕ → Leave → Script Decision
call_without plan calling dialled leave = do
  seize (Group leave.group)
  decision ← as_if_made (leave_effects leave)
      (call plan (party_after (leave_effects leave) calling) dialled
      (route_of plan (code_of dialled)))
  Ends (leaving leave decision)

-- a call by a line whose own path ends at this register, if it ends at one
unfoldable pub call_from : Tables → Party → ℕ → Path → Option MemberPlace → Script Decision
call_from plan calling dialled own None = Ends (refused NoRegister)
call_from plan calling dialled own (Some found) =
    call_without plan calling dialled (leave_of own None found)

-- a completing job, once the line's own path is traced
unfoldable pub complete_from : Tables → Party → ℕ → Option Path → Script Decision
complete_from plan calling dialled None = Ends (refused NoRegister)
complete_from plan calling dialled (Some own) =
    call_from plan calling dialled own (register_at plan own)

-- a completing job: approach the line and trace its path, and if that ends at a register go on
-- with the call
unfoldable pub complete_steps : Tables → Line → ℕ → Script Decision
complete_steps plan line dialled = do
  calling ← approach line
  own ← trace calling
  complete_from plan calling dialled own
