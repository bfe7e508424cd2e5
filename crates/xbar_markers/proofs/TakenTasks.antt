-- What taking a task says of a share.
use Rattle.std.proofs.Common.{◌≡◌, ◌∙◌, Option, Some, None, IfNone, IfSome, sym, ap, subst}
use Rattle.{fair_queue.specs.Tickets.{TicketView, with_taken}, xbar_fabric.specs.Views.DeskView}
use Rattle.xbar_markers.{specs.{Calls.HasDialTone, Shares.{HasServed, Share}, Tasks.{Task, IsSound}}, proofs.{Serving.served_none, ServedSteps.HasTakenTask}}

-- there was none
pub none_taken : (d : DeskView) (share after : Share) (ticket : TicketView Task)
    (result : Option Task) → after ≡ record share { tasks = ticket } → result ≡ None
    → IfNone result (ticket ≡ share.tasks) → HasServed d share d after
none_taken d share after ticket result is none same =
    let stays : ticket ≡ share.tasks =
    subst (λ (o : Option Task). IfNone o (ticket ≡ share.tasks)) none same in
    subst (HasServed d share d)
    (sym (is ∙ ap (λ (t : TicketView Task). record share { tasks = t }) stays))
    (served_none d share)

-- there was this one
pub one_taken : (share after : Share) (ticket : TicketView Task) (result : Option Task) (it : Task)
    → after ≡ record share { tasks = ticket } → result ≡ Some it
    → IfSome result (λ item. ticket ≡ with_taken share.tasks item) → HasTakenTask it share after
one_taken share after ticket result it is some taken = record {
  calls = ap (λ (s : Share). s.calls) is;
  tasks = ap (λ (s : Share). s.tasks) is
      ∙ subst (λ (o : Option Task). IfSome o (λ item. ticket ≡ with_taken share.tasks item)) some
      taken;
  kept = ap (λ (s : Share). s.kept.items) is;
  ended = ap (λ (s : Share). s.ended.items) is;
}

pub one_sound : (result : Option Task) (it : Task) → result ≡ Some it
    → IfSome result (IsSound HasDialTone) → IsSound HasDialTone it
one_sound result it some sound =
    subst (λ (o : Option Task). IfSome o (IsSound HasDialTone)) some sound
