-- the sum of the balances
use Rattle.std.proofs.Common.{◌≡◌, ℕ, ◌+◌, ◌*◌, ◌-◌, ◌<◌, zero, suc, Bool, true, false, List, [], ◌∷◌, slice_index, refl, sym, ◌∙◌, ap, subst, arith, ◌==◌}
use Rattle.std.proofs.Common.{nat_le, if◌then◌else◌, eqb-true, ne_eqb, leb-true}
use Rattle.{std.proofs.lemmas.Bool.{eqb-false, and_parts}, turns.specs.{Law.IsLegal, World.{Record, after}}}
use Rattle.bank.specs.Bank.{Balances, all_have, with_balance, credited, debited, fits, may_move, done_if, whole}
use Rattle.bank.specs.{Sums.{total, brought, taken, deposited, withdrawn}, System.{IsJob, Shows, accounts, bank}, declared.job.Job.Job}
use Rattle.bank.specs.declared.{job.{Job.TheVariants.{Deposit, Withdraw, Transfer, Balance}, Reply.Reply}, opening.Opening.Opening}

pub total_same : (has other : Balances) (count : ℕ) → ((a : ℕ) → a < count → has a ≡ other a) → total has count ≡ total other count
unfolding total
total_same has other zero same = refl
total_same has other (suc count) same = let e = total_same has other count (λ a below. same a (omega arith)) in omega (arith, same count (omega arith))

-- with one balance set, the sum changes by the difference
pub total_with : (has : Balances) (account balance count : ℕ) → account < count
    → total (with_balance has account balance) count + has account ≡ total has count + balance
unfolding total
total_with has account balance zero below = absurd (omega arith)
total_with has account balance (suc count) below = at (count == account) refl (total_with has account balance count) where
  at : (t : Bool) → (count == account) ≡ t → (account < count → total (with_balance has account balance) count + has account ≡ total has count + balance)
      → (total (with_balance has account balance) count + (if t then balance else has count)) + has account ≡ (total has count + has count) + balance
  at true e before =
      let here : count ≡ account = eqb-true count account e in
      let same =
      total_same (with_balance has account balance) has count (λ a low. ap (λ (t : Bool). if t then balance else has a) (ne_eqb a account (omega arith))) in
      omega (arith, ap has here)
  at false e before = let other = eqb-false count account e in omega (arith, before (omega arith))

total_opening : (balance count : ℕ) → total (all_have balance) count ≡ count * balance
unfolding total
total_opening balance zero = omega arith
total_opening balance (suc count) = let e = total_opening balance count in grind arith

module _ (opening : Opening) where
  -- a job done whole changes the sum by what it brings in and takes out
  adds : (has : Balances) (job : Job) → IsJob opening job
      → total (whole has job).state (accounts opening) + taken job (whole has job).reply ≡ total has (accounts opening) + brought job (whole has job).reply
  adds has (Deposit a x) low = at (fits (has a + x)) where
    at : (t : Bool)
        → total (done_if t has (credited has a x)).state (accounts opening) + taken (Deposit a x) (done_if t has (credited has a x)).reply
        ≡ total has (accounts opening) + brought (Deposit a x) (done_if t has (credited has a x)).reply
    at true = omega (arith, total_with has a (has a + x) (accounts opening) low)
    at false = refl
  adds has (Withdraw a x) low = at (nat_le x (has a)) refl where
    at : (t : Bool) → nat_le x (has a) ≡ t
        → total (done_if t has (debited has a x)).state (accounts opening) + taken (Withdraw a x) (done_if t has (debited has a x)).reply
        ≡ total has (accounts opening) + brought (Withdraw a x) (done_if t has (debited has a x)).reply
    at true e = omega (arith, total_with has a (has a - x) (accounts opening) low, leb-true x (has a) e)
    at false e = refl
  adds has (Transfer a b x) low = at (may_move (has a) (has b) x) refl where
    at : (t : Bool) → may_move (has a) (has b) x ≡ t
        → total (done_if t has (credited (debited has a x) b x)).state (accounts opening) + 0 ≡ total has (accounts opening) + 0
    at true e =
        omega (
          arith,
          total_with has a (has a - x) (accounts opening) low.0,
          total_with (debited has a x) b (debited has a x b + x) (accounts opening) low.1,
          leb-true x (has a) (and_parts (nat_le x (has a)) (fits (has b + x)) e).0,
        )
    at false e = refl
  adds has (Balance a) low = refl

  sums : (i : ℕ) (has : Balances) (order : List (Record Job Reply)) → IsLegal (bank opening) i has order
      → total (after (bank opening) has order) (accounts opening) + withdrawn order ≡ total has (accounts opening) + deposited order
  sums i has [] legal = refl
  sums i has (r ∷ order) legal =
      let one =
      subst (λ (reply : Reply). total (whole has r.job).state (accounts opening) + taken r.job reply ≡ total has (accounts opening) + brought r.job reply)
      (sym legal.2) (adds has r.job legal.0) in
      omega (arith, sums (suc i) (whole has r.job).state order legal.3)

  pub sums_from_opening : (order : List (Record Job Reply)) → IsLegal (bank opening) 0 (all_have opening.balance) order
      → total (after (bank opening) (all_have opening.balance) order) (accounts opening) + withdrawn order ≡ accounts opening * opening.balance
      + deposited order
  sums_from_opening order legal =
      sums 0 (all_have opening.balance) order legal ∙ ap (λ (n : ℕ). n + deposited order) (total_opening opening.balance (accounts opening))

  -- so does the sum of words that show the balances
  pub shown_sums : (words : List ℕ) (order : List (Record Job Reply)) → IsLegal (bank opening) 0 (all_have opening.balance) order
      → Shows opening words (after (bank opening) (all_have opening.balance) order)
      → total (slice_index words) (accounts opening) + withdrawn order ≡ accounts opening * opening.balance + deposited order
  shown_sums words order legal shows =
      ap (λ (n : ℕ). n
      + withdrawn order) (sym (total_same (after (bank opening) (all_have opening.balance) order) (slice_index words) (accounts opening) shows.each))
      ∙ sums_from_opening order legal
