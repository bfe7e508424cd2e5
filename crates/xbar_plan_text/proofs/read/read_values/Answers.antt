use Rattle.std.proofs.Common.{rules, ◌≡◌, None, Err, refl, ap, option_and_then}
use Rattle.xbar_plan_text.specs.{Document.plan_of_values, Refusal.{malformed_of_values, malformed_of_lists}}
use Rattle.xbar_plan_text.proofs.FourLists.{values_at, groups_textless, numbers_textless, codes_textless, faults_textless, all_texts}
use Rattle.xbar_plan_text.proofs.Stages.{values_refused, values_read, not_texts, reading}
use Rattle.xbar_plan_text.proofs.read.read_values.Goals as goal

pub returns-in_err-groups : goal.returns-in_err-groups
returns-in_err-groups c =
    let is : c.from_residual.result ≡ Err c.in_err-groups.field-0.0 = search rules in
    rw is (not_texts (plan_of_values c.args.version (values_at c.args.values.now)) None (malformed_of_values c.args.version (values_at c.args.values.now)) _ _
    c.in_err-groups.ensures
    (λ none. values_refused c.args.version (values_at c.args.values.now) (groups_textless (values_at c.args.values.now) none)))

pub returns-in_err-numbers : goal.returns-in_err-numbers
returns-in_err-numbers c =
    let is : c.from_residual-in_err-numbers.result ≡ Err c.in_err-numbers.field-0.0 = search rules in
    rw is (not_texts (plan_of_values c.args.version (values_at c.args.values.now)) None (malformed_of_values c.args.version (values_at c.args.values.now)) _ _
    c.in_err-numbers.ensures
    (λ none. values_refused c.args.version (values_at c.args.values.now) (numbers_textless (values_at c.args.values.now) _ c.in_ok-groups.ensures none)))

pub returns-in_err-codes : goal.returns-in_err-codes
returns-in_err-codes c =
    let is : c.from_residual-in_err-codes.result ≡ Err c.in_err-codes.field-0.0 = search rules in
    rw is (not_texts (plan_of_values c.args.version (values_at c.args.values.now)) None (malformed_of_values c.args.version (values_at c.args.values.now)) _ _
    c.in_err-codes.ensures
    (λ none. values_refused c.args.version (values_at c.args.values.now) (codes_textless (values_at c.args.values.now) _ _ c.in_ok-groups.ensures c.in_ok-numbers.ensures none)))

pub returns-in_err-faults : goal.returns-in_err-faults
returns-in_err-faults c =
    let is : c.from_residual-in_err-faults.result ≡ Err c.in_err-faults.field-0.0 = search rules in
    rw is (not_texts (plan_of_values c.args.version (values_at c.args.values.now)) None (malformed_of_values c.args.version (values_at c.args.values.now)) _ _
    c.in_err-faults.ensures
    (λ none. values_refused c.args.version (values_at c.args.values.now) (faults_textless (values_at c.args.values.now) _ _ _ c.in_ok-groups.ensures c.in_ok-numbers.ensures c.in_ok-codes.ensures none)))

pub returns : goal.returns
returns c =
    let texts =
    all_texts (values_at c.args.values.now) _ _ _ _ c.in_ok-groups.ensures c.in_ok-numbers.ensures c.in_ok-codes.ensures c.in_ok-faults.ensures in
    reading _ _ _ _ _ _ c.read_lists.result (values_read c.args.version (values_at c.args.values.now) _ texts) refl
    (ap (option_and_then (malformed_of_lists c.args.version)) texts) (search rules)
