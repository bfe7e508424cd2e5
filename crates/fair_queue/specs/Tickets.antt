-- Queues and tickets as their callers see them.
use Rattle.std.specs.Prelude.{◌≡◌, ℕ, ◌+◌, ◌-◌, ◌<◌, List, [], ◌∷◌, ◌++◌, flat_map, sum_by}
use Rattle.atomic_table.specs.Seated.{TableId}
use Rattle.atomic_table.specs.declared.badge.Badge.{Badge}
use Rattle.crossbeam_channel.specs.declared.flavors.array.Key.{Key}
use Rattle.fair_queue.specs.Parts.{all_parts}

-- the name of a queue: no two queues have the same
pub record QueueName (X : Type 0) : Type 0 where
  pub table : TableId
  pub badge : Badge (Key X)

-- a queue, at either end: its name, and the number of items that it holds at most
pub record QueueView (X : Type 0) : Type 0 where
  pub name : QueueName X
  pub capacity : ℕ

-- a ticket: of which queue it is, its parts of the right to know the whole, what was put with it
-- and what was taken, in their order
pub record TicketView (X : Type 0) : Type 0 where
  pub queue : QueueName X
  pub parts : ℕ
  pub put : List X
  pub taken : List X

module _ {X : Type 0} where
  -- a ticket of this queue
  abbrev pub IsTicketOf : TicketView X → QueueView X → Type 0
  IsTicketOf ticket queue = ticket.queue ≡ queue.name

  -- what putting and taking ask of a ticket: it is of this queue, and has a part
  abbrev pub IsUsable : TicketView X → QueueView X → Type 0
  IsUsable ticket queue = IsTicketOf ticket queue × (0 < ticket.parts)

  -- a ticket with every part
  abbrev pub IsWhole : TicketView X → Type 0
  IsWhole ticket = ticket.parts ≡ all_parts

  -- the ticket with every part, of a queue that has just opened
  abbrev pub first_ticket : QueueName X → TicketView X
  first_ticket queue = record { queue = queue; parts = all_parts; put = []; taken = [] }

  -- a ticket of one part, with which nothing was put or taken yet
  abbrev pub new_ticket : QueueName X → TicketView X
  new_ticket queue = record { queue = queue; parts = 1; put = []; taken = [] }

  -- the ticket after one more item was put
  abbrev pub with_put : TicketView X → X → TicketView X
  with_put ticket item = record ticket { put = ticket.put ++ item ∷ [] }

  -- the ticket after one more item was taken
  abbrev pub with_taken : TicketView X → X → TicketView X
  with_taken ticket item = record ticket { taken = ticket.taken ++ item ∷ [] }

  -- the ticket after `count` parts were cut off
  abbrev pub with_fewer_parts : TicketView X → ℕ → TicketView X
  with_fewer_parts ticket count = record ticket { parts = ticket.parts - count }

  -- the ticket that two become: the parts of both, and what was put and taken with both
  abbrev pub ticket_of_both : TicketView X → TicketView X → TicketView X
  ticket_of_both one other =
      record one {
        parts = one.parts + other.parts;
        put = one.put ++ other.put;
        taken = one.taken ++ other.taken;
      }

  -- the ticket that one and others become
  abbrev pub ticket_of_all : TicketView X → List (TicketView X) → TicketView X
  ticket_of_all one others =
      record one {
        parts = one.parts + sum_by (λ (t : TicketView X). t.parts) others;
        put = one.put ++ flat_map (λ (t : TicketView X). t.put) others;
        taken = one.taken ++ flat_map (λ (t : TicketView X). t.taken) others;
      }
