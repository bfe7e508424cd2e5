-- Tickets that are cut off, and tickets that come back one after another.
use Rattle.std.proofs.Common.{◌≡◌, ℕ, zero, suc, ◌<◌, ◌≤◌, List, [], ◌∷◌, ◌++◌, refl, sym, ap, ◌∙◌, subst, arith, sum_by, flat_map, length, All, replicate}
use Rattle.std.proofs.Common.{append_assoc, append-nil}
use Rattle.std.proofs.lemmas.{List.{Folds.sum_by-replicate, Sums.{sum_by-cons, sum_by_push}, Elements.{All-head, All-tail}}, Grind.flat_map-append}
use Rattle.fair_queue.specs.Tickets.{IsWhole, QueueName, TicketView, new_ticket, with_fewer_parts, ticket_of_all, ticket_of_both}

module _ {X : Type 0} where
  -- tickets that differ in nothing are one
  same_ticket : (one other : TicketView X) → one.queue ≡ other.queue → one.parts ≡ other.parts
      → one.put ≡ other.put → one.taken ≡ other.taken → one ≡ other
  same_ticket one other queue parts put taken =
      λ i. record { queue = queue i; parts = parts i; put = put i; taken = taken i }

  -- a ticket is the same inside, and has as many parts
  pub parts_inside : {n : ℕ} {inside outside : TicketView X} → inside ≡ outside
      → n < outside.parts → n < inside.parts
  parts_inside {n} same some_parts =
      subst (λ (t : TicketView X). n < t.parts) (sym same) some_parts

  -- new tickets have put and taken nothing
  nothing_put : (count : ℕ) (queue : QueueName X)
      → flat_map (λ (t : TicketView X). t.put) (replicate count (new_ticket queue)) ≡ []
  nothing_put zero queue = refl
  nothing_put (suc count) queue = nothing_put count queue

  nothing_taken : (count : ℕ) (queue : QueueName X)
      → flat_map (λ (t : TicketView X). t.taken) (replicate count (new_ticket queue)) ≡ []
  nothing_taken zero queue = refl
  nothing_taken (suc count) queue = nothing_taken count queue

  pub joined_again : (ticket other : TicketView X) (others : List (TicketView X))
      → ticket_of_both (ticket_of_all ticket others) other
      ≡ ticket_of_all ticket (others ++ other ∷ [])
  joined_again ticket other others =
      let parts = λ (t : TicketView X). t.parts in
      let put = λ (t : TicketView X). t.put in
      let taken = λ (t : TicketView X). t.taken in
      let more : (f : TicketView X → List X) (xs : List X)
      → (xs ++ flat_map f others) ++ f other ≡ xs ++ flat_map f (others ++ other ∷ []) =
      λ f xs. append_assoc xs (flat_map f others) (f other)
      ∙ ap (λ (l : List X). xs ++ l)
      (sym (flat_map-append f others (other ∷ [])
      ∙ ap (λ (l : List X). flat_map f others ++ l) (append-nil (f other)))) in
      same_ticket _ _ refl (omega (arith, sum_by_push parts others other)) (more put ticket.put)
      (more taken ticket.taken)

  pub back_unused : (ticket : TicketView X) (count : ℕ) → count ≤ ticket.parts
      → ticket_of_all (with_fewer_parts ticket count) (replicate count (new_ticket ticket.queue))
      ≡ ticket
  back_unused ticket count within =
      same_ticket _ _ refl
      (omega (arith, sum_by-replicate (λ (t : TicketView X). t.parts) count (new_ticket ticket.queue)))
      (ap (λ (l : List X). ticket.put ++ l) (nothing_put count ticket.queue)
      ∙ append-nil ticket.put)
      (ap (λ (l : List X). ticket.taken ++ l) (nothing_taken count ticket.queue)
      ∙ append-nil ticket.taken)

  single_parts : (others : List (TicketView X)) → All (λ (t : TicketView X). t.parts ≡ 1) others
      → sum_by (λ (t : TicketView X). t.parts) others ≡ length others
  single_parts [] each = refl
  single_parts (t ∷ ts) each =
      let IsSingle = λ (u : TicketView X). u.parts ≡ 1 in
      let one = All-head IsSingle t ts each in
      let rest = single_parts ts (All-tail IsSingle t ts each) in
      omega (arith, sum_by-cons (λ (u : TicketView X). u.parts) t ts)

  pub whole_again : (ticket : TicketView X) (others : List (TicketView X)) → IsWhole ticket
      → All (λ (t : TicketView X). t.parts ≡ 1) others → length others ≤ ticket.parts
      → IsWhole (ticket_of_all (with_fewer_parts ticket (length others)) others)
  whole_again ticket others whole each within =
      let parts = single_parts others each in omega arith
