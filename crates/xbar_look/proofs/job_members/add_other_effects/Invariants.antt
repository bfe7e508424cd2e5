use Rattle.std.proofs.Common.{◌≡◌, ◌++◌, map, take, codes, flat_map, string_bytes}
use Rattle.{xbar_jobs.specs.Attempt.effect_step, xbar_look.specs.Markers.step_to_make}
use Rattle.xbar_look.proofs.job_members.add_other_effects.Given as goal

abbrev pub invariant-loop-effect : goal.invariant-loop-effect
invariant-loop-effect l =
    string_bytes l.text ≡ string_bytes l.initial.text
    ++ flat_map (λ other. codes "," ++ other) (map (λ effect. step_to_make l.words (effect_step effect)) (take l.effect-index l.effects))
