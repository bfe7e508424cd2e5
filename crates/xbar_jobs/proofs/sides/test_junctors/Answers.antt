use Rattle.std.proofs.Common.{◌≡◌, ℕ, List, arith, rules, Ok, Err, refl, sym, ap, ◌∙◌, Result}
use Rattle.{turns.specs.Script.{TestThen, Ends}, xbar_equip.specs.Word.LineJunctor, xbar_jobs.specs.Script.{Wanted, walk_on_words, test}}
use Rattle.xbar_jobs.proofs.{JunctorTests.{all_read, one_more_read, then_none, wanted_there}, WalksOnWords.{came, comes}}
use Rattle.xbar_jobs.proofs.sides.test_junctors.Goals as goal

pub loop-channel-init : goal.loop-channel-init
loop-channel-init c = record { size = refl; so_far = sym (then_none c.args.made.now _) }

pub returns-in_err-row : goal.returns-in_err-row
returns-in_err-row c =
    let wanted : c.from_residual.result ≡ Err c.in_err-row.field-0.0 = search rules in
    let tests =
    c.value_of.ensures
    ∙ ap (λ (number : ℕ). walk_on_words c.args.made.now (TestThen number Ends) c.loop-channel.seen c.args.words.now) c.line_junctor.ensures in
    let stops =
    came c.args.made.now (test (LineJunctor c.args.frame c.loop-channel.channel)) c.loop-channel.seen c.value_of.new.seen c.args.words.now c.args.words.now
    c.value_of.result (Err c.in_err-row.field-0.0) tests c.in_err-row.was in
    ap (λ (r : Result (List ℕ) Wanted). comes r c.value_of.new.seen c.args.words.now) wanted
    ∙ sym (wanted_there c.args.made.now c.args.frame c.args.seen.now c.args.words.now c.loop-channel.channel c.loop-channel.row c.loop-channel.seen
    c.value_of.new.seen c.args.words.now c.args.words.now _ c.loop-channel.invariant (omega arith) stops)

pub loop-channel-preserved : goal.loop-channel-preserved
loop-channel-preserved c =
    let tests =
    c.value_of.ensures
    ∙ ap (λ (number : ℕ). walk_on_words c.args.made.now (TestThen number Ends) c.loop-channel.seen c.args.words.now) c.line_junctor.ensures in
    let read =
    came c.args.made.now (test (LineJunctor c.args.frame c.loop-channel.channel)) c.loop-channel.seen c.value_of.new.seen c.args.words.now c.args.words.now
    c.value_of.result (Ok c.in_ok-row.field-0) tests c.in_ok-row.was in
    one_more_read c.args.made.now c.args.frame c.args.seen.now c.args.words.now c.loop-channel.channel c.loop-channel.row c.loop-channel.seen
    c.value_of.new.seen c.args.words.now c.args.words.now c.from.result c.in_ok-row.field-0 (omega arith) c.loop-channel.invariant (omega arith) read

pub returns : goal.returns
returns c =
    all_read c.args.made.now c.args.frame c.args.seen.now c.args.words.now c.loop-channel.channel c.loop-channel.row c.loop-channel.seen c.args.words.now
    c.loop-channel.invariant (omega arith)
