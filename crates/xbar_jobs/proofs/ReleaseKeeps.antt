-- a release tests what is held by then, and lets go what is held
use Rattle.std.proofs.Common.{◌≡◌, ℕ, List, [], ◌∷◌, ◌++◌, refl, sym, ◌∙◌, subst, Option, Some, None, IfSome}
use Rattle.turns.{specs.{Among.IsIn, Script.{Ends, ◌>>=◌}, System.KeepsTo}, proofs.Lists.in_last}
use Rattle.xbar_equip.specs.{Len.{Line, IsLine}, Ten.TrunkPlace, declared.{conn.Conn.{Conn, TheVariants.{Tlf, Group}}, path.Path.Path}}
use Rattle.xbar_plan.specs.{Lawful.IsLawful, Tables.{Tables, member_place}, declared.group.MemberPlace.MemberPlace}
use Rattle.xbar_plan.proofs.{MemberPlaces.{member_place-member, member_place-numbers, member_place-other}, OtherPlaces.others}
use Rattle.{xbar_office.specs.declared.reply.End.TheVariants.NoCall, xbar_jobs.specs.{Closing.{leave_of, released}, Office.office, Releasing.release_from}}
use Rattle.xbar_jobs.{specs.{Releasing.{release_member, release_steps, trace_other}, Tracing.{approach, trace}}, proofs.HeldEffects.{IsHeldIfAny, IsHeldMember}}
use Rattle.xbar_jobs.proofs.HeldEffects.{IsHeldPath, IsHeldPlace, IsWellCovered, member_held, path_held, refused_takes, released_covered, taking_covered}
use Rattle.xbar_jobs.proofs.{HeldWords.{keeps_then, one_more}, Items.if_found, TracingKeeps.{HoldsLine, approach_keeps, trace_back_keeps, trace_keeps}}

module _ (plan : Tables) where
  trace_other_keeps : (held : List Conn) (other : Option TrunkPlace) → IfSome other (λ place. IsHeldPlace held place)
      → KeepsTo (office plan) IsHeldIfAny held (trace_other other)
  unfolding KeepsTo trace_other
  trace_other_keeps held None own = tt
  trace_other_keeps held (Some place) own = trace_back_keeps plan held place own

module _ (plan : Tables) (laws : IsLawful plan) where
  -- the other place of a pair is on the frame of the path's own place
  other_place_held : (held : List Conn) (own : Path) (found : MemberPlace) → IsHeldPath held own → member_place plan own.place ≡ Some found
      → IfSome found.other (λ place. IsHeldPlace held place)
  other_place_held held own found path here = if_found found.other (
      λ place is.
      let named = member_place-member plan own.place found here in
      let apart = others plan laws found.group found.index named.member own.place place named.here named.stands (sym named.other ∙ is) in
      record {
        range = member_place-other plan laws own.place place found here is;
        own = subst (λ (frame : ℕ). IsIn (Tlf frame) held) (sym apart.frame) path.place.own;
      }
      )

  -- the other party's path is traced, and both are let go with their member
  found_keeps : (held : List Conn) (own : Path) (found : MemberPlace) → IsHeldPath held own → IsHeldMember held found.group found.index
      → member_place plan own.place ≡ Some found
      → KeepsTo (office plan) (IsWellCovered plan) held (trace_other found.other >>= λ other. Ends (released (leave_of own other found)))
  unfolding KeepsTo
  found_keeps held own found path member here =
      keeps_then plan IsHeldIfAny (IsWellCovered plan) held (trace_other found.other) _
      (trace_other_keeps plan held found.other (other_place_held held own found path here))
      (
      λ conns other among other_own.
      let still : IsHeldPath conns own = path_held held conns among own path in
      let same : IsHeldMember conns found.group found.index = member_held held conns among found.group found.index member in
      released_covered plan conns (leave_of own other found) (record { own = still; other = other_own; member = same })
      )

  release_member_keeps : (held : List Conn) (own : Path) (found : Option MemberPlace) → IsHeldPath held own → member_place plan own.place ≡ found
      → KeepsTo (office plan) (IsWellCovered plan) held (release_member own found)
  unfolding KeepsTo release_member ◌>>=◌
  release_member_keeps held own None path here = taking_covered plan held _ (refused_takes held NoCall)
  release_member_keeps held own (Some found) path here =
      let numbers = member_place-numbers plan laws own.place found here in
      let more : List Conn = held ++ Group found.group ∷ [] in
      let still : IsHeldPath more own = path_held held more (one_more held (Group found.group)) own path in
      let member : IsHeldMember more found.group found.index = record { own = in_last (Group found.group) held; numbers = numbers } in
      (numbers.0, found_keeps more own found still member here)

  release_from_keeps : (held : List Conn) (own : Option Path) → IsHeldIfAny held own → KeepsTo (office plan) (IsWellCovered plan) held (release_from plan own)
  unfolding KeepsTo release_from
  release_from_keeps held None path = taking_covered plan held _ (refused_takes held NoCall)
  release_from_keeps held (Some own) path = release_member_keeps held own (member_place plan own.place) path refl

  -- a release's script tests what is protected, and what it decides is covered
  pub release_keeps : (line : Line) → IsLine line → KeepsTo (office plan) (IsWellCovered plan) [] (release_steps plan line)
  unfolding release_steps
  release_keeps line range =
      keeps_then plan HoldsLine (IsWellCovered plan) [] (approach line) _ (approach_keeps plan [] line range)
      (
      λ held party among own.
      keeps_then plan IsHeldIfAny (IsWellCovered plan) held (trace party) _ (trace_keeps plan held party own)
      (λ conns path still path_own. release_from_keeps conns path path_own)
      )
