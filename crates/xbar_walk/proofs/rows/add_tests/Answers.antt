use Rattle.std.proofs.Common.{◌≡◌, ◌++◌, ℕ, List, subst, OnOk, string_bytes}
use Rattle.xbar_walk.proofs.Joining.{many_text, one_text}
use Rattle.xbar_walk.proofs.rows.add_tests.Goals as goal

pub returns-in-len1 : goal.returns-in-len1
returns-in-len1 c =
    subst (λ (line : List ℕ). OnOk c.add_one.result (string_bytes c.add_one.new.text ≡ string_bytes c.args.text.now ++ line))
    (one_text c.args.tests.now _ c.in-len1.len_at_least c.in-len1.len_below) c.add_one.ensures

pub returns-in-len2-up : goal.returns-in-len2-up
returns-in-len2-up c =
    subst (λ (line : List ℕ). OnOk c.add_row.result (string_bytes c.add_row.new.text ≡ string_bytes c.args.text.now ++ line))
    (many_text c.args.tests.now _ c.in-len2-up.len_at_least) c.add_row.ensures
