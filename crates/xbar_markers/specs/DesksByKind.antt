use Rattle.std.specs.Prelude.{◌≡◌, ℕ, ◌<◌, ◌++◌, List, All, map, replicate}
use Rattle.xbar_moves.specs.declared.kinds.Kind.{Kind}
use Rattle.xbar_moves.specs.declared.kinds.Kind.TheVariants.{Completing, Dial}
use Rattle.xbar_fabric.specs.Views.{DeskView, FabricView}
use Rattle.xbar_markers.specs.Work.{IsReady}

-- the kinds of markers that dial, followed by those of markers that complete calls and release
-- them
abbrev pub kinds_of : ℕ → ℕ → List Kind
kinds_of dialling completing = replicate dialling Dial ++ replicate completing Completing

-- idle desks of these shared words, first those that dial and then those that complete calls, at
-- least one of each
pub record AreDesksByKind (desks : List DeskView) (fabric : FabricView) : Type 0 where
  pub dialling : ℕ
  pub completing : ℕ
  pub kinds : map (λ desk. desk.kind) desks ≡ kinds_of dialling completing
  pub some_dial : 0 < dialling
  pub some_complete : 0 < completing
  pub ready : All (λ desk. IsReady desk fabric) desks
