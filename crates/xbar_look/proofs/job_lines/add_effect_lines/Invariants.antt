use Rattle.std.proofs.Common.{◌≡◌, ◌++◌, take, flat_map, string_bytes}
use Rattle.{xbar_jobs.specs.Attempt.effect_step, xbar_look.specs.Lines.effect_line}
use Rattle.xbar_look.proofs.job_lines.add_effect_lines.Given as goal

abbrev pub invariant-loop-effect : goal.invariant-loop-effect
invariant-loop-effect l =
    string_bytes l.text ≡ string_bytes l.initial.text ++ flat_map (λ effect. effect_line l.words (effect_step effect)) (take l.effect-index l.effects)
