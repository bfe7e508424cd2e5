use Rattle.std.specs.Prelude.{◌≡◌, ◌≢◌, ◌⊎◌, ℕ, if◌then◌else◌}
use Rattle.turns.specs.System.{System}
use Rattle.turns.specs.declared.act.Act.{Act}
use Rattle.turns.specs.declared.act.Act.TheVariants.{Request, Seize}
use Rattle.turns.specs.World.{becomes}
use Rattle.turns.specs.declared.judgement.Judgement.{Judgement}

module _ (O : System) where
  open O use {Lock, Effect, sharing}

  -- actor k's step requests a lock, or tries to seize it and finds another word than expected; by
  -- the lock's own word, as the step left it, actor k is judged so. A request that seizes at once
  -- leaves the word as found if it is denied.
  pub record IsDeniedBy (k : ℕ) (step : Act Lock Effect) (found : ℕ) (judgement : Judgement)
      : Type 0 where
    pub lock : Lock
    pub asks : (step ≡ Request lock)
        ⊎ ((expected : ℕ) × (step ≡ Seize lock expected) × (found ≢ expected))
    pub says : sharing.judged k (if sharing.asks then becomes O k step found else found) ≡ judgement
