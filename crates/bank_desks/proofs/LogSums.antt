-- the amounts of logs are those of the order that they make up
use Rattle.std.proofs.Common.{◌≡◌, ℕ, zero, suc, ◌+◌, ◌<◌, Bool, true, false, List, [], ◌∷◌, length, inl, inr, refl, sym, ◌∙◌, ap, arith, ◌==◌, if◌then◌else◌}
use Rattle.std.proofs.Common.{Option, Some, None, IfSome, slice_get, eqb-true, eq-eqb, ne_eqb}
use Rattle.{std.proofs.lemmas.Bool.eqb-false, turns.specs.{Among.IsIn, World.Record}, desks.specs.{Parts.own, Reports.MakeUp}}
use Rattle.bank.specs.{Bank.{Balances, with_balance}, Sums.total, System.bank, declared.{job.{Job.Job, Reply.Reply}, opening.Opening.Opening}}
use Rattle.{bank.proofs.BankSums.{total_same, total_with}, bank_desks.specs.Ended.in_logs}

total_first : (has : Balances) (count : ℕ) → total has (suc count) ≡ has 0 + total (λ a. has (suc a)) count
unfolding total
total_first has zero = omega arith
total_first has (suc count) = let e = total_first has count in omega arith

total_none : (count : ℕ) → total (λ a. 0) count ≡ 0
unfolding total
total_none zero = refl
total_none (suc count) = let e = total_none count in omega arith

module _ (amount : List (Record Job Reply) → ℕ) (of_one : Record Job Reply → ℕ)
    (none : amount [] ≡ 0) (more : (r : Record Job Reply) (order : List (Record Job Reply)) → amount (r ∷ order) ≡ of_one r + amount order) where
  -- an order's amount is the sum of its actors' amounts
  by_actors : (order : List (Record Job Reply)) (count : ℕ) → ((r : Record Job Reply) → IsIn r order → r.actor < count)
      → total (λ k. amount (own k order)) count ≡ amount order
  by_actors [] count theirs = total_same (λ k. amount []) (λ k. 0) count (λ k below. none) ∙ total_none count ∙ sym none
  by_actors (r ∷ order) count theirs =
      let has : Balances = λ k. amount (own k order) in
      let before = by_actors order count (λ s within. theirs s (inr within)) in
      let same = total_same (λ k. amount (own k (r ∷ order))) (with_balance has r.actor (of_one r + has r.actor)) count (λ k below. at k (r.actor == k) refl) in
      omega (arith, same, before, more r order, total_with has r.actor (of_one r + has r.actor) count (theirs r (inl refl))) where
        at : (k : ℕ) (t : Bool) → (r.actor == k) ≡ t
            → amount (if t then r ∷ own k order else own k order) ≡ (if k == r.actor then of_one r + amount (own r.actor order) else amount (own k order))
        at k true e =
            let same : r.actor ≡ k = eqb-true r.actor k e in
            let other : (k == r.actor) ≡ true = eq-eqb k r.actor (sym same) in
            more r (own k order) ∙ ap (λ (n : ℕ). of_one r + amount (own n order)) (sym same)
            ∙ sym (ap (λ (t : Bool). if t then of_one r + amount (own r.actor order) else amount (own k order)) other)
        at k false e =
            let other : (k == r.actor) ≡ false = ne_eqb k r.actor (λ same. eqb-false r.actor k e (sym same)) in
            sym (ap (λ (t : Bool). if t then of_one r + amount (own r.actor order) else amount (own k order)) other)

  -- logs have the sum of what each has
  of_logs : (logs : List (List (Record Job Reply))) (has : Balances) → ((i : ℕ) → IfSome (slice_get logs i) (λ log. has i ≡ amount log))
      → in_logs amount logs ≡ total has (length logs)
  unfolding total
  of_logs [] has each = refl
  of_logs (log ∷ logs) has each =
      let e : has 0 ≡ amount log = each 0 in
      omega (arith, of_logs logs (λ i. has (suc i)) (λ i. each (suc i)), total_first has (length logs), e)

  pub in_order : (opening : Opening) (logs : List (List (Record Job Reply))) (order : List (Record Job Reply)) → MakeUp (bank opening) logs order
      → in_logs amount logs ≡ amount order
  in_order opening logs order made =
      of_logs logs (λ i. amount (own i order)) (λ i. at i (slice_get logs i) (made.each i)) ∙ by_actors order (length logs) made.theirs where
        at : (i : ℕ) (o : Option (List (Record Job Reply))) → IfSome o (λ log. own i order ≡ log) → IfSome o (λ log. amount (own i order) ≡ amount log)
        at i None same = tt
        at i (Some log) same = ap amount same
