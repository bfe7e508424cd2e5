-- approaching a line and tracing paths test what is held by then, and a path that is found is held
use Rattle.std.proofs.Common.{◌≡◌, ℕ, zero, suc, ◌+◌, ◌<◌, nat_lt, if◌then◌else◌, Bool, true, false, List, [], ◌∷◌, ◌++◌, refl, Option, Some, None, IfSome}
use Rattle.std.proofs.Common.{option_map, ◌==◌, ltb-true}
use Rattle.{turns.{specs.{Among.IsIn, Script.◌>>=◌, System.KeepsTo}, proofs.Lists.in_last}, xbar_equip.specs.{First.{first_below, IsFirstBelow}, Len.Line}}
use Rattle.xbar_equip.{specs.{Len.IsLine, Path.path_by, Ten.TrunkPlace, declared.conn.Conn.{Conn, TheVariants.{Llf, Tlf}}}, proofs.FirstNumber.first_below-law}
use Rattle.xbar_switch.specs.{Field.field_of, Shape.places, declared.shape.Shape.{Shape, TheVariants.{Line as LineShape, Other}}}
use Rattle.{xbar_match.specs.Traces.{field_at_place, place_at_field, place_of_value}, xbar_plan.specs.Tables.Tables, xbar_jobs.specs.Office.office}
use Rattle.xbar_jobs.specs.Tracing.{approach, channel_of, trace, trace_at, trace_back, trace_back_at, trace_back_by, trace_back_to, trace_by, trace_to}
use Rattle.xbar_jobs.{specs.declared.party.Party.Party, proofs.HeldEffects.{IsHeldIfAny, IsHeldLine, IsHeldPlace, line_held, place_held}}
use Rattle.xbar_jobs.proofs.HeldWords.{one_more, line_junctor_under, line_switch_under, trunk_junctor_under, trunk_switch_under}

-- the field at a place is one of ten
pub field_below : (shape : Shape) (word place : ℕ) → IfSome (field_at_place shape word place) (λ v. v < 10)
field_below shape word place = of (first_below test 10) (first_below-law test 10) where
  test : ℕ → Bool
  test v = field_of shape word v == 1 + place

  of : (found : Option ℕ) → IsFirstBelow (λ v. field_of shape word v == 1 + place) 10 found → IfSome found (λ v. v < 10)
  of None none = tt
  of (Some v) is = is.0

-- and the place at a field is one of its switch's
pub place_below : (shape : Shape) (word v : ℕ) → IfSome (place_at_field shape word v) (λ place. place < places shape)
place_below shape word v = of (field_of shape word v) where
  within : (place : ℕ) (b : Bool) → nat_lt place (places shape) ≡ b → IfSome (if b then Some place else None) (λ found. found < places shape)
  within place true is = ltb-true place (places shape) is
  within place false is = tt

  of : (value : ℕ) → IfSome (place_of_value shape value) (λ place. place < places shape)
  of zero = tt
  of (suc place) = within place (nat_lt place (places shape)) refl

-- the line of a party that was approached is held
abbrev pub HoldsLine : List Conn → Party → Type 0
HoldsLine held party = IsHeldLine held party.line

module _ (plan : Tables) where
  pub approach_keeps : (held : List Conn) (line : Line) → IsLine line → KeepsTo (office plan) HoldsLine held (approach line)
  unfolding KeepsTo approach ◌>>=◌
  approach_keeps held line range =
      let own : IsIn (Llf line.frame) (held ++ Llf line.frame ∷ []) = in_last (Llf line.frame) held in
      (range.frame, (line_switch_under plan _ line.frame line.switch own range.frame range.switch, λ word fits. record { range = range; own = own }))

  -- a line's path, from the line's switch on
  module _ (line : Line) (channel : ℕ) (below : channel < 10) where
    trace_at_keeps : (held : List Conn) (frame : ℕ) (switch : Option ℕ) → IsHeldLine held line → frame < 10 → IsIn (Tlf frame) held
        → IfSome switch (λ s. s < 10) → KeepsTo (office plan) IsHeldIfAny held (trace_at line channel frame switch)
    unfolding KeepsTo trace_at ◌>>=◌
    trace_at_keeps held frame None line_own in_frame own in_switch = tt
    trace_at_keeps held frame (Some switch) line_own in_frame own in_switch = (
      trunk_switch_under plan held frame switch own in_frame in_switch,
      λ word fits. of (place_at_field Other word channel) (place_below Other word channel),
    ) where
      of : (found : Option ℕ) → IfSome found (λ a. a < 10)
          → IsHeldIfAny held (option_map (λ appearance. path_by line (record { frame = frame; switch = switch; appearance = appearance }) channel) found)
      of None range = tt
      of (Some appearance) range = record {
        line = line_own;
        channel = below;
        place = record { range = record { frame = in_frame; switch = in_switch; appearance = range }; own = own };
      }

    trace_to_keeps : (held : List Conn) (frame : Option ℕ) → IsHeldLine held line → IfSome frame (λ f. f < 10)
        → KeepsTo (office plan) IsHeldIfAny held (trace_to line channel frame)
    unfolding KeepsTo trace_to ◌>>=◌
    trace_to_keeps held None line_own in_frame = tt
    trace_to_keeps held (Some frame) line_own in_frame =
        let more : List Conn = held ++ Tlf frame ∷ [] in
        let own : IsIn (Tlf frame) more = in_last (Tlf frame) held in
        let still : IsHeldLine more line = line_held held more (one_more held (Tlf frame)) line line_own in (
          in_frame,
          (
            trunk_junctor_under plan more frame channel own in_frame below,
            λ word fits. trace_at_keeps more frame (place_at_field Other word line.frame) still in_frame own (place_below Other word line.frame),
          ),
        )

  trace_by_keeps : (held : List Conn) (line : Line) (channel : Option ℕ) → IsHeldLine held line → IfSome channel (λ c. c < 10)
      → KeepsTo (office plan) IsHeldIfAny held (trace_by line channel)
  unfolding KeepsTo trace_by ◌>>=◌
  trace_by_keeps held line None own below = tt
  trace_by_keeps held line (Some channel) own below = (
    line_junctor_under plan held line.frame channel own.own own.range.frame below,
    λ word fits. trace_to_keeps line channel below held (field_at_place Other word line.switch) own (field_below Other word line.switch),
  )

  -- with the line held, its path may be traced, and is held then
  pub trace_keeps : (held : List Conn) (party : Party) → IsHeldLine held party.line → KeepsTo (office plan) IsHeldIfAny held (trace party)
  unfolding trace
  trace_keeps held party own = trace_by_keeps held party.line (channel_of party) own (field_below LineShape party.word party.line.x)

  -- a place's path, from the place's switch on
  module _ (place : TrunkPlace) (channel : ℕ) (below : channel < 10) where
    trace_back_at_keeps : (held : List Conn) (frame : ℕ) (switch : Option ℕ) → IsHeldPlace held place → frame < 10 → IsIn (Llf frame) held
        → IfSome switch (λ s. s < 10) → KeepsTo (office plan) IsHeldIfAny held (trace_back_at place channel frame switch)
    unfolding KeepsTo trace_back_at ◌>>=◌
    trace_back_at_keeps held frame None place_own in_frame own in_switch = tt
    trace_back_at_keeps held frame (Some switch) place_own in_frame own in_switch = (
      line_switch_under plan held frame switch own in_frame in_switch,
      λ word fits. of (place_at_field LineShape word channel) (place_below LineShape word channel),
    ) where
      of : (found : Option ℕ) → IfSome found (λ x. x < 30)
          → IsHeldIfAny held (option_map (λ x. path_by (record { frame = frame; switch = switch; x = x }) place channel) found)
      of None range = tt
      of (Some x) range = record {
        line = record { range = record { frame = in_frame; switch = in_switch; x = range }; own = own };
        channel = below;
        place = place_own;
      }

    trace_back_to_keeps : (held : List Conn) (frame : Option ℕ) → IsHeldPlace held place → IfSome frame (λ f. f < 10)
        → KeepsTo (office plan) IsHeldIfAny held (trace_back_to place channel frame)
    unfolding KeepsTo trace_back_to ◌>>=◌
    trace_back_to_keeps held None place_own in_frame = tt
    trace_back_to_keeps held (Some frame) place_own in_frame =
        let more : List Conn = held ++ Llf frame ∷ [] in
        let own : IsIn (Llf frame) more = in_last (Llf frame) held in
        let still : IsHeldPlace more place = place_held held more (one_more held (Llf frame)) place place_own in (
          in_frame,
          (
            line_junctor_under plan more frame channel own in_frame below,
            λ word fits. trace_back_at_keeps more frame (place_at_field Other word place.frame) still in_frame own (place_below Other word place.frame),
          ),
        )

  trace_back_by_keeps : (held : List Conn) (place : TrunkPlace) (channel : Option ℕ) → IsHeldPlace held place → IfSome channel (λ c. c < 10)
      → KeepsTo (office plan) IsHeldIfAny held (trace_back_by place channel)
  unfolding KeepsTo trace_back_by ◌>>=◌
  trace_back_by_keeps held place None own below = tt
  trace_back_by_keeps held place (Some channel) own below = (
    trunk_junctor_under plan held place.frame channel own.own own.range.frame below,
    λ word fits. trace_back_to_keeps place channel below held (field_at_place Other word place.switch) own (field_below Other word place.switch),
  )

  -- with the place's frame held, so may the place's path
  pub trace_back_keeps : (held : List Conn) (place : TrunkPlace) → IsHeldPlace held place → KeepsTo (office plan) IsHeldIfAny held (trace_back place)
  unfolding KeepsTo trace_back ◌>>=◌
  trace_back_keeps held place own = (
    trunk_switch_under plan held place.frame place.switch own.own own.range.frame own.range.switch,
    λ word fits. trace_back_by_keeps held place (field_at_place Other word place.appearance) own (field_below Other word place.appearance),
  )
