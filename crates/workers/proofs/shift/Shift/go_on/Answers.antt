use Rattle.std.proofs.Common.{◌∙◌, ap, sym, ◌++◌, ◌∷◌, []}
use Rattle.workers.proofs.Logs.{same_job}
use Rattle.workers.proofs.shift.Shift.go_on.Goals as goal

pub returns-clause-done : goal.returns-clause-done
returns-clause-done g c = λ _ number job is.
    let reported = c.in-Some.reported in
    let its = same_job reported.number number reported.job job (sym c.in-Some.ensures.finished.its_job ∙ is) in
    record {
      reported = reported;
      log_is = c.push_reserved.ensures.items ∙ ap (λ l. l ++ reported ∷ []) c.reserve.ensures.items;
      number_is = its.0;
      job_is = its.1;
    }

pub returns-clause-logged : goal.returns-clause-logged
returns-clause-logged g c =
    (c.in-Some.reported, c.push_reserved.ensures.items ∙ ap (λ l. l ++ c.in-Some.reported ∷ []) c.reserve.ensures.items, c.in-Some.ensures.persisted)
