use Rattle.std.proofs.Common.{◌≡◌, ◌∙◌, ◌-◌, ℕ, ap, option_map, refl, rules, subst, sym}
use Rattle.{crossbar5.specs.PlanRefusal.plan_in, crossbar5_cli.specs.{Endings.ending_of_run, Named.{IsPlanNamed, files_of, name_in}, Sentences.sentence_on_run}}
use Rattle.crossbar5_cli.proofs.Answering.{plan_end, run_end}
use Rattle.crossbar5_cli.proofs.asked.perform.Goals as goal

pub returns-in-Err-clause-ends : goal.returns-in-Err-clause-ends
returns-in-Err-clause-ends g c =
    plan_end c.args.work.now c.args.file _ _ (option_map (λ lines. lines.items) c.of_plan_file.result.reasons) c.of_plan_file.result.sentence
    c.of_plan_file.result.ending c.in-Err.fault c.reason_of.result c.in-Err.ensures.refused refl refl
    c.of_plan_file.ensures.ending (search rules) c.of_plan_file.ensures.sentence

pub returns-clause-ends : goal.returns-clause-ends
returns-clause-ends g c =
    let failures : ℕ = g.R.Source.failure_count c.answer-run.new.input - g.R.Source.failure_count c.args.input.now in
    let sentence : c.of_run.result.sentence ≡ sentence_on_run c.answer-run.result c.args.file failures = search rules in
    let named =
    subst (IsPlanNamed (files_of (g.S.System.Opens c.args.system.now) (λ it. g.S.File.Read.remaining it) (λ it. g.S.File.Source.failure_count it)
    (λ it. g.S.File.Source.read_count it)) (name_in c.args.file)) (sym c.source_of-plan.ensures) c.in-Ok.ensures.named in
    run_end c.args.work.now c.args.file _ _ (option_map (λ lines. lines.items) c.of_run.result.reasons) c.of_run.result.sentence
    c.answer-run.result c.of_run.result.ending (plan_in c.source_of-plan.result) named
    (search rules) c.answer-run.ensures.diagnostic c.answer-run.ensures.unwritten (search rules) c.answer-run.ensures.end
    c.answer-run.ensures.device c.answer-run.ensures.long
    c.of_run.ensures.ending c.of_run.ensures.reasons sentence

pub returns-clause-no_failure : goal.returns-clause-no_failure
returns-clause-no_failure g c =
    λ other. c.answer-run.ensures.no_failure (λ is. other (c.of_run.ensures.ending ∙ ap ending_of_run is))
