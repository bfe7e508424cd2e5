-- what approaching a line and tracing a path come to on given words, and on words that show a set
use Rattle.std.proofs.Common.{◌≡◌, ℕ, List, refl, Option, Some, None, option_and_then}
use Rattle.{turns.specs.Script.{◌>>=◌, run}, xbar_equip.specs.{Len.{Line, IsLine}, Ten.{TrunkPlace, IsTrunkPlace}}}
use Rattle.{xbar_equip.specs.{Word.{LineSwitch, LineJunctor, TrunkSwitch, TrunkJunctor}, declared.path.Path.Path}, xbar_plan.specs.Tables.Tables}
use Rattle.{xbar_switch.specs.declared.shape.Shape.TheVariants.{Line as LineShape, Other}, xbar_match.specs.{Switches.word_of, Traces.field_at_place}}
use Rattle.xbar_match.specs.Traces.{place_at_field, traced, traced_by, traced_to, traced_at, traced_back, traced_back_by, traced_back_to, traced_back_at}
use Rattle.{xbar_match.proofs.TracedPaths.{traced-shown, traced_back-shown}, xbar_office.specs.Standing.{path_of, path_at}, xbar_jobs.specs.Office.ShowsOffice}
use Rattle.xbar_jobs.specs.Tracing.{approach, trace, trace_by, trace_to, trace_at, trace_back, trace_back_by, trace_back_to, trace_back_at}

-- a line that is approached is found with the word of its line switch
pub approach_runs : (words : List ℕ) (line : Line)
    → run words (approach line) ≡ record { line = line; word = word_of words (LineSwitch line.frame line.switch) }
unfolding run approach ◌>>=◌
approach_runs words line = refl

trace_at_runs : (words : List ℕ) (line : Line) (channel frame : ℕ) (switch : Option ℕ)
    → run words (trace_at line channel frame switch) ≡ option_and_then (traced_at words line channel frame) switch
unfolding run trace_at ◌>>=◌
trace_at_runs words line channel frame None = refl
trace_at_runs words line channel frame (Some switch) = refl

trace_to_runs : (words : List ℕ) (line : Line) (channel : ℕ) (frame : Option ℕ)
    → run words (trace_to line channel frame) ≡ option_and_then (traced_to words line channel) frame
unfolding run trace_to ◌>>=◌
trace_to_runs words line channel None = refl
trace_to_runs words line channel (Some frame) =
    trace_at_runs words line channel frame (place_at_field Other (word_of words (TrunkJunctor frame channel)) line.frame)

trace_by_runs : (words : List ℕ) (line : Line) (channel : Option ℕ) → run words (trace_by line channel) ≡ option_and_then (traced_by words line) channel
unfolding run trace_by ◌>>=◌
trace_by_runs words line None = refl
trace_by_runs words line (Some channel) = trace_to_runs words line channel (field_at_place Other (word_of words (LineJunctor line.frame channel)) line.switch)

-- a line's trace finds what its words join it to
pub trace_runs : (words : List ℕ) (line : Line)
    → run words (trace (record { line = line; word = word_of words (LineSwitch line.frame line.switch) })) ≡ traced words line
unfolding trace
trace_runs words line = trace_by_runs words line (field_at_place LineShape (word_of words (LineSwitch line.frame line.switch)) line.x)

back_at_runs : (words : List ℕ) (place : TrunkPlace) (channel frame : ℕ) (switch : Option ℕ)
    → run words (trace_back_at place channel frame switch) ≡ option_and_then (traced_back_at words place channel frame) switch
unfolding run trace_back_at ◌>>=◌
back_at_runs words place channel frame None = refl
back_at_runs words place channel frame (Some switch) = refl

back_to_runs : (words : List ℕ) (place : TrunkPlace) (channel : ℕ) (frame : Option ℕ)
    → run words (trace_back_to place channel frame) ≡ option_and_then (traced_back_to words place channel) frame
unfolding run trace_back_to ◌>>=◌
back_to_runs words place channel None = refl
back_to_runs words place channel (Some frame) =
    back_at_runs words place channel frame (place_at_field Other (word_of words (LineJunctor frame channel)) place.frame)

back_by_runs : (words : List ℕ) (place : TrunkPlace) (channel : Option ℕ)
    → run words (trace_back_by place channel) ≡ option_and_then (traced_back_by words place) channel
unfolding run trace_back_by ◌>>=◌
back_by_runs words place None = refl
back_by_runs words place (Some channel) =
    back_to_runs words place channel (field_at_place Other (word_of words (TrunkJunctor place.frame channel)) place.switch)

-- and a place's trace what they join the place to
pub trace_back_runs : (words : List ℕ) (place : TrunkPlace) → run words (trace_back place) ≡ traced_back words place
unfolding run trace_back ◌>>=◌
trace_back_runs words place = back_by_runs words place (field_at_place Other (word_of words (TrunkSwitch place.frame place.switch)) place.appearance)

-- on words that show a set, a line is joined by its path in the set
pub traced_shown : (plan : Tables) (words : List ℕ) (paths : List Path) (line : Line) → ShowsOffice plan words paths → IsLine line
    → traced words line ≡ path_of paths line
traced_shown plan words paths line shows in_range =
    traced-shown words paths line in_range shows.switches shows.lawful.orderly.ranges shows.lawful.orderly.apart

-- and a place by the path that ends there
pub traced_back_shown : (plan : Tables) (words : List ℕ) (paths : List Path) (place : TrunkPlace) → ShowsOffice plan words paths → IsTrunkPlace place
    → traced_back words place ≡ path_at paths place
traced_back_shown plan words paths place shows in_range =
    traced_back-shown words paths place in_range shows.switches shows.lawful.orderly.ranges shows.lawful.orderly.apart
