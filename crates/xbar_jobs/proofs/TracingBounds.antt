-- how much it takes to approach a line, and to trace a path
use Rattle.std.proofs.Common.{ℕ, arith, Option, Some, None}
use Rattle.{turns.specs.Script.◌>>=◌, xbar_equip.specs.{Len.Line, Ten.TrunkPlace}, xbar_switch.specs.declared.shape.Shape.TheVariants.Other}
use Rattle.{xbar_match.specs.Traces.{field_at_place, place_at_field}, xbar_jobs.specs.Tracing.{approach, channel_of, trace, trace_at, trace_back}}
use Rattle.xbar_jobs.{specs.{Tracing.{trace_back_at, trace_back_by, trace_back_to, trace_by, trace_to}, declared.party.Party.Party}, proofs.AskBounds.Asks}

-- a line is approached with one test and one seizing, of its line link frame
pub approach_asks : (line : Line) → Asks 1 1 0 (approach line)
unfolding Asks approach ◌>>=◌
approach_asks line = (omega arith, λ word. tt)

-- and its path traced with three tests and one seizing, of a trunk link frame
trace_at_asks : (line : Line) (channel frame : ℕ) (switch : Option ℕ) → Asks 1 0 0 (trace_at line channel frame switch)
unfolding Asks trace_at ◌>>=◌
trace_at_asks line channel frame None = tt
trace_at_asks line channel frame (Some switch) = λ word. tt

trace_to_asks : (line : Line) (channel : ℕ) (frame : Option ℕ) → Asks 2 1 1 (trace_to line channel frame)
unfolding Asks trace_to ◌>>=◌
trace_to_asks line channel None = tt
trace_to_asks line channel (Some frame) = (omega arith, λ word. trace_at_asks line channel frame (place_at_field Other word line.frame))

trace_by_asks : (line : Line) (channel : Option ℕ) → Asks 3 1 1 (trace_by line channel)
unfolding Asks trace_by ◌>>=◌
trace_by_asks line None = tt
trace_by_asks line (Some channel) = λ word. trace_to_asks line channel (field_at_place Other word line.switch)

pub trace_asks : (party : Party) → Asks 3 1 1 (trace party)
unfolding trace
trace_asks party = trace_by_asks party.line (channel_of party)

-- a place's path is traced with four tests and one seizing, of a line link frame
trace_back_at_asks : (place : TrunkPlace) (channel frame : ℕ) (switch : Option ℕ) → Asks 1 0 0 (trace_back_at place channel frame switch)
unfolding Asks trace_back_at ◌>>=◌
trace_back_at_asks place channel frame None = tt
trace_back_at_asks place channel frame (Some switch) = λ word. tt

trace_back_to_asks : (place : TrunkPlace) (channel : ℕ) (frame : Option ℕ) → Asks 2 1 0 (trace_back_to place channel frame)
unfolding Asks trace_back_to ◌>>=◌
trace_back_to_asks place channel None = tt
trace_back_to_asks place channel (Some frame) = (omega arith, λ word. trace_back_at_asks place channel frame (place_at_field Other word place.frame))

trace_back_by_asks : (place : TrunkPlace) (channel : Option ℕ) → Asks 3 1 0 (trace_back_by place channel)
unfolding Asks trace_back_by ◌>>=◌
trace_back_by_asks place None = tt
trace_back_by_asks place (Some channel) = λ word. trace_back_to_asks place channel (field_at_place Other word place.switch)

pub trace_back_asks : (place : TrunkPlace) → Asks 4 1 0 (trace_back place)
unfolding Asks trace_back ◌>>=◌
trace_back_asks place = λ word. trace_back_by_asks place (field_at_place Other word place.appearance)
