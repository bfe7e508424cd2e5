use Rattle.std.specs.Prelude.{ℕ, List, slice_index}
use Rattle.xbar_jobs.specs.declared.program.Step.{Step}
use Rattle.xbar_jobs.specs.declared.program.Step.TheVariants as step

-- the value of the word that a step tests or opens; 0 if it does neither
abbrev pub found_by : List ℕ → Step → ℕ
found_by words (step.Test word) = slice_index words word
found_by words (step.Open word mask) = slice_index words word
found_by words _ = 0
