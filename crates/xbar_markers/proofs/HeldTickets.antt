-- Tickets keep their parts over steps one after another, so what they may do stays.
use Rattle.std.proofs.Common.{◌∙◌, ℕ, ◌<◌, sym, refl, subst}
use Rattle.xbar_markers.specs.Shares.{HasTickets, MayUse, Queues, Share}

pub tickets_same : (s : Share) → HasTickets s s
tickets_same s = record {
  calls_queue = refl;
  calls_parts = refl;
  calls_put = refl;
  tasks_queue = refl;
  tasks_parts = refl;
}

pub tickets_on : {s t u : Share} → HasTickets s t → HasTickets t u → HasTickets s u
tickets_on {s} {t} {u} first second = record {
  calls_queue = second.calls_queue ∙ first.calls_queue;
  calls_parts = second.calls_parts ∙ first.calls_parts;
  calls_put = second.calls_put ∙ first.calls_put;
  tasks_queue = second.tasks_queue ∙ first.tasks_queue;
  tasks_parts = second.tasks_parts ∙ first.tasks_parts;
}

pub may_on : {s t : Share} {queues : Queues} → HasTickets s t → MayUse s queues → MayUse t queues
may_on {s} {t} {queues} tickets may = record {
  calls = (
    tickets.calls_queue ∙ may.calls.0,
    subst (λ (n : ℕ). 0 < n) (sym tickets.calls_parts) may.calls.1,
  );
  tasks = (
    tickets.tasks_queue ∙ may.tasks.0,
    subst (λ (n : ℕ). 0 < n) (sym tickets.tasks_parts) may.tasks.1,
  );
}
