use Rattle.std.specs.Prelude.{◌≡◌, ℕ, Option, Some, None, Ok, option_map, ⊤}
use Rattle.xbar_equip.specs.Len.{Line}
use Rattle.xbar_equip.specs.Path.{path_by}
use Rattle.xbar_equip.specs.Ten.{TrunkPlace}
use Rattle.xbar_equip.specs.Word.{LineJunctor, LineSwitch, TrunkJunctor, TrunkSwitch}
use Rattle.xbar_equip.specs.declared.conn.Conn.TheVariants.{Llf, Tlf}
use Rattle.xbar_equip.specs.declared.path.Path.{Path}
use Rattle.xbar_switch.specs.declared.shape.Shape.TheVariants.{Line as LineShape, Other}
use Rattle.xbar_match.specs.Traces.{field_at_place, place_at_field}
use Rattle.turns.specs.Script.{Ends, ◌>>=◌, ◌>>◌, seize}
use Rattle.xbar_jobs.specs.Script.{Script, Seen, test, walk}
use Rattle.xbar_jobs.specs.declared.party.Party.{Party}
use Rattle.xbar_jobs.specs.declared.walk.WalkProgress.{WalkProgress}
use Rattle.xbar_jobs.specs.declared.walk.WalkProgress.TheVariants.{Begun, Approached, Traced}

-- approach a line: seize its frame and test its line switch
unfoldable pub approach : Line → Script Party
approach line = do
  seize (Llf line.frame)
  word ← test (LineSwitch line.frame line.switch)
  Ends (record { line = line; word = word })

-- the channel of the path that a party's line has, if it has one
abbrev pub channel_of : Party → Option ℕ
channel_of party = field_at_place LineShape party.word party.line.x

-- a line's path, once channel, trunk link frame and trunk switch are known
unfoldable pub trace_at : Line → ℕ → ℕ → Option ℕ → Script (Option Path)
trace_at line channel frame None = Ends None
trace_at line channel frame (Some switch) = do
  word ← test (TrunkSwitch frame switch)
  Ends (option_map
      (λ appearance.
      path_by line (record { frame = frame; switch = switch; appearance = appearance }) channel)
      (place_at_field Other word channel))

-- a line's path, once channel and trunk link frame are known
unfoldable pub trace_to : Line → ℕ → Option ℕ → Script (Option Path)
trace_to line channel None = Ends None
trace_to line channel (Some frame) = do
  seize (Tlf frame)
  word ← test (TrunkJunctor frame channel)
  trace_at line channel frame (place_at_field Other word line.frame)

-- a line's path, once the channel is known
unfoldable pub trace_by : Line → Option ℕ → Script (Option Path)
trace_by line None = Ends None
trace_by line (Some channel) = do
  word ← test (LineJunctor line.frame channel)
  trace_to line channel (field_at_place Other word line.switch)

-- trace a line's path from switch to switch; a path that breaks off counts as none
unfoldable pub trace : Party → Script (Option Path)
trace party = trace_by party.line (channel_of party)

-- the calling line was approached, and its own path traced
pub record HasTraced (line : Line) (calling : Party) (own : Option Path) (seen : Seen)
    : Type 0 where
  pub approached : walk seen (approach line) ≡ Ok calling
  pub traced : walk seen (trace calling) ≡ Ok own

-- a resume point is valid: what it says of the line and its path is what a walk finds in what was
-- seen
abbrev pub ResumePointIsValid : Line → WalkProgress → Seen → Type 0
ResumePointIsValid line Begun seen = ⊤
ResumePointIsValid line (Approached calling) seen = walk seen (approach line) ≡ Ok calling
ResumePointIsValid line (Traced calling own) seen = HasTraced line calling own seen

-- a trunk place's path, once channel, line link frame and line switch are known
unfoldable pub trace_back_at : TrunkPlace → ℕ → ℕ → Option ℕ → Script (Option Path)
trace_back_at place channel frame None = Ends None
trace_back_at place channel frame (Some switch) = do
  word ← test (LineSwitch frame switch)
  Ends (option_map
      (λ x. path_by (record { frame = frame; switch = switch; x = x }) place channel)
      (place_at_field LineShape word channel))

-- a trunk place's path, once channel and line link frame are known
unfoldable pub trace_back_to : TrunkPlace → ℕ → Option ℕ → Script (Option Path)
trace_back_to place channel None = Ends None
trace_back_to place channel (Some frame) = do
  seize (Llf frame)
  word ← test (LineJunctor frame channel)
  trace_back_at place channel frame (place_at_field Other word place.frame)

-- a trunk place's path, once the channel is known
unfoldable pub trace_back_by : TrunkPlace → Option ℕ → Script (Option Path)
trace_back_by place None = Ends None
trace_back_by place (Some channel) = do
  word ← test (TrunkJunctor place.frame channel)
  trace_back_to place channel (field_at_place Other word place.switch)

-- trace the path of a trunk place, whose frame is held, from switch to switch
unfoldable pub trace_back : TrunkPlace → Script (Option Path)
trace_back place = do
  word ← test (TrunkSwitch place.frame place.switch)
  trace_back_by place (field_at_place Other word place.appearance)
