use Rattle.std.proofs.Common.{◌≡◌, ℕ, rules, arith, ◌<◌, length, slice_index, None, Ok, Err, sym, ap, subst, ◌∙◌, Option, Result}
use Rattle.{std.proofs.lemmas.Option.slice_get-get_or, turns.specs.Script.{TestThen, Ends, seize}}
use Rattle.{xbar_equip.specs.{First.first_below, Word.GroupWord, declared.conn.Conn.TheVariants.Group}, xbar_jobs.specs.Script.{Wanted, walk_on_words, test}}
use Rattle.xbar_jobs.{specs.{Trunks.{Trunks, first_clear, is_bit_clear, trunks_of}, declared.trunks.IdleGroup.IdleGroup}, proofs.WalksOnWords.{came, comes}}
use Rattle.{xbar_jobs.proofs.TriedGroups.{busy_passed, idle_taken, none_tried, seizing_stops, testing_stops}, xbar_plan.proofs.LawfulPlans.group_count-range}
use Rattle.xbar_jobs.proofs.trunks.find_trunk.Goals as goal

pub require_held-requires : goal.require_held-requires
require_held-requires c =
    let there = c.requires.groups c.loop-group.group-index _ (slice_get-get_or c.args.groups.now c.loop-group.group-index 0 c.loop-group-test.true) in
    omega (arith, there, group_count-range c.args.plan.now c.every_plan_is_lawful.ensures)

pub returns-in_err-require_held-clause-walk : goal.returns-in_err-require_held-clause-walk
returns-in_err-require_held-clause-walk c =
    let wanted : c.from_residual.result ≡ Err c.in_err-require_held.field-0.0 = search rules in
    let group = slice_index c.args.groups.now c.loop-group.group-index in
    let stops =
    came c.args.made.now (seize (Group group)) c.loop-group.seen c.require_held.new.seen c.loop-group.words c.require_held.new.words c.require_held.result
    (Err c.in_err-require_held.field-0.0) (c.require_held.ensures c.args.made.now) c.in_err-require_held.was in
    ap (λ (r : Result (Option IdleGroup) Wanted). comes r c.require_held.new.seen c.require_held.new.words) wanted
    ∙ sym (seizing_stops c.args.plan.now c.args.made.now c.args.groups.now c.loop-group.group-index c.loop-group-test.true c.loop-group.seen c.loop-group.words
    _ c.require_held.new.seen c.require_held.new.words stops)
    ∙ c.loop-group.invariant

pub group_word-requires : goal.group_word-requires
group_word-requires c =
    let there = c.requires.groups c.loop-group.group-index _ (slice_get-get_or c.args.groups.now c.loop-group.group-index 0 c.loop-group-test.true) in
    omega (arith, there, group_count-range c.args.plan.now c.every_plan_is_lawful.ensures)

pub returns-in_err-word-clause-walk : goal.returns-in_err-word-clause-walk
returns-in_err-word-clause-walk c =
    let wanted : c.from_residual-in_err-word.result ≡ Err c.in_err-word.field-0.0 = search rules in
    let group = slice_index c.args.groups.now c.loop-group.group-index in
    let own =
    came c.args.made.now (seize (Group group)) c.loop-group.seen c.require_held.new.seen c.loop-group.words c.require_held.new.words c.require_held.result
    (Ok tt) (c.require_held.ensures c.args.made.now) c.in_ok-require_held.was in
    let tests =
    c.value_of.ensures
    ∙ ap (λ (number : ℕ). walk_on_words c.args.made.now (TestThen number Ends) c.require_held.new.seen c.require_held.new.words) c.group_word.ensures in
    let stops =
    came c.args.made.now (test (GroupWord group)) c.require_held.new.seen c.value_of.new.seen c.require_held.new.words c.require_held.new.words
    c.value_of.result (Err c.in_err-word.field-0.0) tests c.in_err-word.was in
    ap (λ (r : Result (Option IdleGroup) Wanted). comes r c.value_of.new.seen c.require_held.new.words) wanted
    ∙ sym (testing_stops c.args.plan.now c.args.made.now c.args.groups.now c.loop-group.group-index c.loop-group-test.true c.loop-group.seen c.loop-group.words
    tt c.require_held.new.seen c.require_held.new.words own _ c.value_of.new.seen c.require_held.new.words stops)
    ∙ c.loop-group.invariant

pub trunks_of-trunks-requires : goal.trunks_of-trunks-requires
trunks_of-trunks-requires c =
    c.requires.groups c.loop-group.group-index _ (slice_get-get_or c.args.groups.now c.loop-group.group-index 0 c.loop-group-test.true)

pub returns-in-Some-clause-walk : goal.returns-in-Some-clause-walk
returns-in-Some-clause-walk c =
    let group = slice_index c.args.groups.now c.loop-group.group-index in
    let first : c.first_clear.result ≡ first_clear (trunks_of c.args.plan.now group c.in_ok-word.word) =
    c.first_clear.ensures.first
    ∙ ap (λ (trunks : Trunks). first_below (is_bit_clear c.in_ok-word.word) (length trunks.members)) (c.trunks.view_is ∙ c.trunks_of-trunks.ensures.trunks) in
    let own =
    came c.args.made.now (seize (Group group)) c.loop-group.seen c.require_held.new.seen c.loop-group.words c.require_held.new.words c.require_held.result
    (Ok tt) (c.require_held.ensures c.args.made.now) c.in_ok-require_held.was in
    let tests =
    c.value_of.ensures
    ∙ ap (λ (number : ℕ). walk_on_words c.args.made.now (TestThen number Ends) c.require_held.new.seen c.require_held.new.words) c.group_word.ensures in
    let read =
    came c.args.made.now (test (GroupWord group)) c.require_held.new.seen c.value_of.new.seen c.require_held.new.words c.require_held.new.words
    c.value_of.result (Ok c.in_ok-word.word) tests c.in_ok-word.was in
    sym (idle_taken c.args.plan.now c.args.made.now c.args.groups.now c.loop-group.group-index c.loop-group-test.true c.loop-group.seen c.loop-group.words tt
    c.require_held.new.seen c.require_held.new.words own c.in_ok-word.word c.value_of.new.seen c.require_held.new.words read _ first _ c.in-Some.is)
    ∙ c.loop-group.invariant

pub returns-in-Some-clause-range : goal.returns-in-Some-clause-range
returns-in-Some-clause-range c = record {
  group = c.requires.groups c.loop-group.group-index _ (slice_get-get_or c.args.groups.now c.loop-group.group-index 0 c.loop-group-test.true);
  first = subst (λ (trunks : Trunks). c.in-Some.first < length trunks.members) (c.trunks.view_is ∙ c.trunks_of-trunks.ensures.trunks) c.in-Some.ensures.bound;
}

pub loop-group-preserved : goal.loop-group-preserved
loop-group-preserved c =
    let group = slice_index c.args.groups.now c.loop-group.group-index in
    let first : c.first_clear.result ≡ first_clear (trunks_of c.args.plan.now group c.in_ok-word.word) =
    c.first_clear.ensures.first
    ∙ ap (λ (trunks : Trunks). first_below (is_bit_clear c.in_ok-word.word) (length trunks.members)) (c.trunks.view_is ∙ c.trunks_of-trunks.ensures.trunks) in
    let none : c.first_clear.result ≡ None = search rules in
    let own =
    came c.args.made.now (seize (Group group)) c.loop-group.seen c.require_held.new.seen c.loop-group.words c.require_held.new.words c.require_held.result
    (Ok tt) (c.require_held.ensures c.args.made.now) c.in_ok-require_held.was in
    let tests =
    c.value_of.ensures
    ∙ ap (λ (number : ℕ). walk_on_words c.args.made.now (TestThen number Ends) c.require_held.new.seen c.require_held.new.words) c.group_word.ensures in
    let read =
    came c.args.made.now (test (GroupWord group)) c.require_held.new.seen c.value_of.new.seen c.require_held.new.words c.require_held.new.words
    c.value_of.result (Ok c.in_ok-word.word) tests c.in_ok-word.was in
    sym (busy_passed c.args.plan.now c.args.made.now c.args.groups.now c.loop-group.group-index c.loop-group-test.true c.loop-group.seen c.loop-group.words tt
    c.require_held.new.seen c.require_held.new.words own c.in_ok-word.word c.value_of.new.seen c.require_held.new.words read _ first none)
    ∙ c.loop-group.invariant

pub returns-clause-walk : goal.returns-clause-walk
returns-clause-walk c =
    sym (none_tried c.args.plan.now c.args.made.now c.args.groups.now c.loop-group.group-index c.loop-group.seen c.loop-group.words c.loop-group-test.false)
    ∙ c.loop-group.invariant
