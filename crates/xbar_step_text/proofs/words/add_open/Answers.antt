use Rattle.std.proofs.Common.{◌≡◌, ◌++◌, ℕ, List, subst, OnOk, string_bytes}
use Rattle.xbar_step_text.proofs.ChangedWords.{opens}
use Rattle.xbar_step_text.proofs.words.add_open.Goals as goal

pub returns-in_default : goal.returns-in_default
returns-in_default c =
    subst (λ (words : List ℕ). OnOk c.add_switched.result (string_bytes c.add_switched.new.text ≡ string_bytes c.args.text.now ++ words))
    (opens c.args.place c.args.bits c.in_default.not-Group) c.add_switched.ensures
