use Rattle.std.proofs.Common.{length, ap, arith}
use Rattle.{xbar_office.specs.declared.reply.Record.Record, xbar_walk.proofs.ToldSteps.{made_tells, records_within}}
use Rattle.xbar_walk.proofs.walk.walk_step.Goals as goal

pub add_made-requires : goal.add_made-requires
add_made-requires c =
    let few = records_within c.args.exchange.now c.make_step-observed.new.exchange c.args.marker c.make_step-observed.ensures.step in
    let same = ap (length {A = Record}) c.records-before.ensures.records in
    omega (arith, few, same)

pub returns-clause-observed : goal.returns-clause-observed
returns-clause-observed c =
    made_tells c.args.marker c.args.exchange.now c.make_step-observed.new.exchange c.args.story.now _ (length c.records-before.result.now)
    c.make_step-observed.result
    c.requires.goes c.make_step-observed.ensures.step c.make_step-observed.ensures.observed
    (ap (length {A = Record}) c.records-before.ensures.records) c.in_ok-add_made.ensures
