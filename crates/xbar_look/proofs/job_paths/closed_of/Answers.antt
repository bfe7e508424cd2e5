use Rattle.std.proofs.Common.{List, sym, subst, slice_index_or}
use Rattle.{xbar_equip.specs.declared.crosspoint.Crosspoint.Crosspoint, xbar_match.specs.Effects.IsCrosspoint}
use Rattle.xbar_match.proofs.PathEffects.{crosspoint_line, crosspoint_line_junctor, crosspoint_trunk_junctor, crosspoint_trunk}
use Rattle.xbar_look.proofs.job_paths.closed_of.Goals as goal

pub is_closed-requires-clause-crosspoint : goal.is_closed-requires-clause-crosspoint
is_closed-requires-clause-crosspoint c =
    subst (λ (found : List Crosspoint). IsCrosspoint (slice_index_or found 0 c.index-crosspoints-0.result)) (sym c.crosspoints.ensures.crosspoints)
    (crosspoint_line c.args.path.now c.crosspoints.ensures.range)

pub is_closed-requires-2-clause-crosspoint : goal.is_closed-requires-2-clause-crosspoint
is_closed-requires-2-clause-crosspoint c =
    subst (λ (found : List Crosspoint). IsCrosspoint (slice_index_or found 1 c.index-crosspoints-1.result)) (sym c.crosspoints.ensures.crosspoints)
    (crosspoint_line_junctor c.args.path.now c.crosspoints.ensures.range)

pub is_closed-requires-3-clause-crosspoint : goal.is_closed-requires-3-clause-crosspoint
is_closed-requires-3-clause-crosspoint c =
    subst (λ (found : List Crosspoint). IsCrosspoint (slice_index_or found 2 c.index-crosspoints-2.result)) (sym c.crosspoints.ensures.crosspoints)
    (crosspoint_trunk_junctor c.args.path.now c.crosspoints.ensures.range)

pub is_closed-requires-4-clause-crosspoint : goal.is_closed-requires-4-clause-crosspoint
is_closed-requires-4-clause-crosspoint c =
    subst (λ (found : List Crosspoint). IsCrosspoint (slice_index_or found 3 c.index-crosspoints-3.result)) (sym c.crosspoints.ensures.crosspoints)
    (crosspoint_trunk c.args.path.now c.crosspoints.ensures.range)
