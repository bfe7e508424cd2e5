use Rattle.std.specs.Prelude.{Option, Some, None}
use Rattle.xbar_equip.specs.Len.{Line}
use Rattle.xbar_equip.specs.Ten.{TrunkPlace}
use Rattle.xbar_equip.specs.declared.conn.Conn.TheVariants.{Group}
use Rattle.xbar_equip.specs.declared.path.Path.{Path}
use Rattle.xbar_plan.specs.Tables.{Tables, member_place}
use Rattle.xbar_plan.specs.declared.group.MemberPlace.{MemberPlace}
use Rattle.xbar_office.specs.declared.reply.End.TheVariants.{NoCall}
use Rattle.turns.specs.Script.{Ends, ◌>>=◌, ◌>>◌, seize}
use Rattle.xbar_jobs.specs.Closing.{leave_of, refused, released}
use Rattle.xbar_jobs.specs.Script.{Script}
use Rattle.xbar_jobs.specs.Tracing.{approach, trace, trace_back}
use Rattle.xbar_jobs.specs.declared.decision.Decision.{Decision}

-- the other party's path, traced back from the other place of a pair, if the member is one
unfoldable pub trace_other : Option TrunkPlace → Script (Option Path)
trace_other None = Ends None
trace_other (Some place) = trace_back place

-- the member at the end of the line's path is let go: its group is seized, and the other party's
-- path is traced if it is a pair
unfoldable pub release_member : Path → Option MemberPlace → Script Decision
release_member own None = Ends (refused NoCall)
release_member own (Some found) = do
  seize (Group found.group)
  other ← trace_other found.other
  Ends (released (leave_of own other found))

-- a release, once the line's own path is traced
unfoldable pub release_from : Tables → Option Path → Script Decision
release_from plan None = Ends (refused NoCall)
release_from plan (Some own) = release_member own (member_place plan own.place)

-- a release: approach the line, trace its path, and let its call go
unfoldable pub release_steps : Tables → Line → Script Decision
release_steps plan line = do
  party ← approach line
  own ← trace party
  release_from plan own
