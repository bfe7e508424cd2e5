use Rattle.std.proofs.Common.{[], ◌∷◌, ◌++◌, ap, sym, ◌∙◌, append_assoc}
use Rattle.{std.proofs.lemmas.List.Elements.All-tail, fair_queue.{specs.Tickets.{IsTicketOf, TicketView, ticket_of_both}, proofs.Joining.joined_again}}
use Rattle.fair_queue.proofs.ticket.Ticket.join_all.Goals as goal

pub loop-other-preserved : goal.loop-other-preserved
loop-other-preserved g c =
    let inv = c.loop-other.invariant in
    let given = c.in-Some.ensures.steps.0 in
    let other = c.in-Some.other in
    let seen = c.loop-other.yielded in
    let rest = c.next.new.self.rest.items in
    record {
      whole =
          append_assoc seen (other ∷ []) rest
          ∙ (ap (λ l. seen ++ l) (sym given) ∙ inv.whole);
      left = All-tail (λ t. IsTicketOf t c.args.inlet.now) other rest (rw given at inv.left);
      joined =
          c.join.ensures
          ∙ (ap (λ (t : TicketView _). ticket_of_both t other) inv.joined
          ∙ joined_again c.args.self.now other seen);
    }
