-- steps of which a gate is notified, one after another
use Rattle.std.proofs.Common.{◌≡◌, ℕ, zero, ◌+◌, refl, ap, ◌∙◌, arith, Some, None, Option}
use Rattle.{desks.specs.Watching.watched_more, xbar_fabric.specs.Views.DeskView, xbar_markers.specs.Work.HasPassed}
use Rattle.xbar_markers.proofs.JobsInHand.{steps_both, watched_both}

none_watched : (passed : Option ℕ) → passed ≡ watched_more 0 passed
none_watched None = refl
none_watched (Some n) =
    let same : n ≡ n + 0 = omega arith in
    ap Some same

-- no step was made
pub none_passed : (before after : DeskView) (passed : Option ℕ) → after ≡ before → HasPassed before after passed passed
none_passed before after passed same = record { count = zero; made = same; passed_is = none_watched passed }

pub passed_both : (a b c : DeskView) (p q r : Option ℕ) → HasPassed a b p q → HasPassed b c q r → HasPassed a c p r
passed_both a b c p q r first second = record {
  count = first.count + second.count;
  made = steps_both first.count second.count a b c first.made second.made;
  passed_is = second.passed_is ∙ ap (watched_more second.count) first.passed_is ∙ watched_both first.count second.count p;
}
