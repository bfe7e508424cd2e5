-- the words of a bank that was shut have the sum that its logs make
use Rattle.std.proofs.Common.{◌≡◌, ℕ, ◌+◌, ◌*◌, List, length, slice_index, refl, sym, subst, arith, Result, Ok, Err, IfOk}
use Rattle.{turns.specs.{World.{Record, after}, Law.IsLegal}, desks.specs.Met.{DeskOf, IsEnded}}
use Rattle.bank.specs.{Bank.all_have, Sums.{brought, deposited, taken, total, withdrawn}, System.{Shows, accounts, bank}, declared.job.{Job.Job, Reply.Reply}}
use Rattle.{bank.specs.declared.opening.Opening.Opening, workers.specs.Workers.HaveShut, bank_desks.{specs.Ended.HasEnded, proofs.LogSums.in_order}}

-- words that show the balances after a legal order have its sum
abbrev pub HaveSum : Opening → Type 0
HaveSum opening =
    (words : List ℕ) (order : List (Record Job Reply)) → IsLegal (bank opening) 0 (all_have opening.balance) order
    → Shows opening words (after (bank opening) (all_have opening.balance) order)
    → total (slice_index words) (accounts opening) + withdrawn order ≡ accounts opening * opening.balance + deposited order

pub has_ended : {Setting : Type 0} (opening : Opening) (desks : List (DeskOf (bank opening) Setting)) (logs : List (List (Record Job Reply))) (words : List ℕ)
    → HaveSum opening → length logs ≡ length desks → HaveShut (bank opening) desks logs words → HasEnded opening logs words
has_ended opening desks logs words sums count shut =
    let closed = shut.closed in
    record {
      order = closed.order;
      ended = subst (λ (n : ℕ). IsEnded (bank opening) n words closed.order) (sym count) closed.ended;
      made_up = shut.made_up;
      sum =
          omega (
            arith,
            sums words closed.order closed.ended.legal closed.ended.shows,
            in_order withdrawn (λ r. taken r.job r.reply) refl (λ r order. refl) opening logs closed.order shut.made_up,
            in_order deposited (λ r. brought r.job r.reply) refl (λ r order. refl) opening logs closed.order shut.made_up,
          );
    }

pub if_ok : {A E : Type 0} (P Q : A → Type 0) (result : Result A E) → ((found : A) → P found → Q found) → IfOk result P → IfOk result Q
if_ok P Q (Ok found) leads holds = leads found holds
if_ok P Q (Err error) leads holds = tt
