-- the bank is a system of jobs
use Rattle.std.proofs.Common.{◌≡◌, ℕ, ◌+◌, ◌-◌, ◌/◌, ◌^◌, ◌<◌, ◌≤◌, zero, suc, Bool, true, false, List, [], ◌∷◌, ◌++◌, length, length-set, slice_index}
use Rattle.std.proofs.Common.{slice_set, inl, inr, refl, sym, ◌∙◌, ap, subst, arith, ◌==◌, nat_le, if◌then◌else◌, Err, replicate, eqb-true, ltb-true, leb-true}
use Rattle.std.proofs.Common.{length-append}
use Rattle.{std.proofs.lemmas.{Bool.{eqb-false, and_parts}, List.length-replicate}, turns.specs.{Among.IsIn, Bounds.{AreBounded, AllEndsHave}}}
use Rattle.turns.specs.{Operations.{FitsWord, applied}, Script.{◌>>=◌, AsksAtMost, run, first_wanted}, Sharing.{IsSharing, IsUnused}, Sharings.sharing_of}
use Rattle.turns.specs.System.{AreWords, DecidesAs, DecidesUnder, IsSystem, IsUnder, KeepsTo, MayMake, perform, perform_all}
use Rattle.turns.specs.declared.{operation.Operation.{Operation, TheVariants.{Add, Sub}}, wanted.Wanted.TheVariants.Seize, lock_sharing.LockSharing.LockSharing}
use Rattle.turns.{specs.declared.lock_sharing.LockSharing.TheVariants.{Preferring, Plain}, proofs.OwnSystem.{added_is, decides_if, either_has, index_other}}
use Rattle.turns.proofs.{OwnSystem.{index_same, makes_more, makes_none, same_number, subtracted_is, under_its_lock, zero_at, zeros_below}, Plain.plain_is}
use Rattle.{turns.proofs.Preferring.{preferring_is, zero_unused}, bank.specs.Bank.{Balances, with_balance, credited, debited, fits, may_move, done_if, whole}}
use Rattle.bank.specs.System.{Effect, Shows, effects_of, or_refuse, balance_of, script, first_account, IsJob, accounts, opening_words, bank}
use Rattle.bank.specs.declared.{decision.Decision.{Decision, TheVariants.{Replies, Changes, Moves}}, job.Job.{Job, TheVariants.{Deposit, Withdraw, Transfer}}}
use Rattle.bank.specs.declared.{job.{Job.TheVariants.Balance, Reply.TheVariants.{Done, Refused, Has}}, opening.{Opening.Opening, TheConstants.SHARD_SIZE}}

-- each way to share a lock is a sharing, in which nobody holds or requests a lock whose word is 0
sharing_is : (sharing : LockSharing) → IsSharing (sharing_of sharing)
sharing_is Preferring = preferring_is
sharing_is Plain = plain_is

zero_is_unused : (sharing : LockSharing) → IsUnused (sharing_of sharing) 0
zero_is_unused Preferring = zero_unused
zero_is_unused Plain = record { is_word = omega arith; free = refl; unasked = λ j few. refl }

-- the balances in the opening words
opening_at : (count value n : ℕ) (rest : List ℕ) → n < count → value ≡ slice_index (replicate count value ++ rest) n
opening_at zero value n rest below = absurd (omega arith)
opening_at (suc count) value zero rest below = refl
opening_at (suc count) value (suc n) rest below = opening_at count value n rest (omega arith)

past_opening : (count value n k : ℕ) (rest : List ℕ) → n ≡ count + k → slice_index (replicate count value ++ rest) n ≡ slice_index rest k
past_opening zero value n k rest e = ap (slice_index rest) (omega (arith, e))
past_opening (suc count) value zero k rest e = absurd (omega (arith, e))
past_opening (suc count) value (suc n) k rest e = past_opening count value n k rest (omega (arith, e))

opening_below : (count value : ℕ) (rest : List ℕ) → value < 2 ^ 64 → AreWords rest → AreWords (replicate count value ++ rest)
opening_below zero value rest small are n = are n
opening_below (suc count) value rest small are zero = small
opening_below (suc count) value rest small are (suc n) = opening_below count value rest small are n

module _ (opening : Opening) where
  -- effects that may be made with these locks held
  word_under : (held : List ℕ) (account : ℕ) → account < accounts opening → IsIn (account / SHARD_SIZE) held → IsUnder (bank opening) held account
  word_under held account below own = under_its_lock (bank opening) held (account / SHARD_SIZE) account (refl, below) own

  may_change : (held : List ℕ) (account : ℕ) (operation : Operation) (more : List Effect) → account < accounts opening → IsIn (account / SHARD_SIZE) held
      → FitsWord operation → MayMake (bank opening) held more → MayMake (bank opening) held ((account, operation) ∷ more)
  may_change held account operation more below own fits may =
      makes_more (bank opening) held (account, operation) more (word_under held account below own) fits may

  may_if : (held : List ℕ) (t : Bool) (decision : Decision) → MayMake (bank opening) held (effects_of decision)
      → MayMake (bank opening) held (effects_of (or_refuse t decision))
  may_if held t decision may =
      either_has (λ d. MayMake (bank opening) held (effects_of d)) t decision (Replies Refused) (λ is. may) (λ is. makes_none (bank opening) held)

  keeps : (job : Job) → IsJob opening job → KeepsTo (bank opening) (DecidesUnder (bank opening)) [] (script job)
  unfolding KeepsTo balance_of ◌>>=◌
  keeps (Deposit a x) low = let held : List ℕ = a / SHARD_SIZE ∷ [] in (
    omega arith,
    (
      word_under held a low (inl refl),
      λ has below. may_if held (fits (has + x)) (Changes a (Add x)) (may_change held a (Add x) [] low (inl refl) tt (makes_none (bank opening) held)),
    ),
  )
  keeps (Withdraw a x) low = let held : List ℕ = a / SHARD_SIZE ∷ [] in (
    omega arith,
    (
      word_under held a low (inl refl),
      λ has below. may_if held (nat_le x has) (Changes a (Sub x)) (may_change held a (Sub x) [] low (inl refl) tt (makes_none (bank opening) held)),
    ),
  )
  keeps (Transfer a b x) low =
      let one : List ℕ = a / SHARD_SIZE ∷ [] in
      let held : List ℕ = a / SHARD_SIZE ∷ b / SHARD_SIZE ∷ [] in
      let put = may_change held b (Add x) [] low.1 (inr (inl refl)) tt (makes_none (bank opening) held) in
      let both = may_change held a (Sub x) ((b, Add x) ∷ []) low.0 (inl refl) tt put in (
        omega (arith, low.0),
        (
          word_under one a low.0 (inl refl),
          λ left below. (omega (arith, low.1), (word_under held b low.1 (inr (inl refl)), λ has below. may_if held (may_move left has x) (Moves a b x) both)),
        ),
      )
  keeps (Balance a) low = let held : List ℕ = a / SHARD_SIZE ∷ [] in
      (omega arith, (word_under held a low (inl refl), λ has below. makes_none (bank opening) held))

  firsts : (job : Job) → first_wanted (script job) ≡ Err (Seize (first_account job / SHARD_SIZE))
  unfolding first_wanted balance_of ◌>>=◌
  firsts (Deposit a x) = refl
  firsts (Withdraw a x) = refl
  firsts (Transfer a b x) = refl
  firsts (Balance a) = refl

  module _ (words : List ℕ) (has : Balances) (long : length words ≡ accounts opening + (opening.shards + 1)) (shows : Shows opening words has) where
    -- a balance is set in its word
    shows_set : (account balance : ℕ) → account < accounts opening → Shows opening (slice_set words account balance) (with_balance has account balance)
    shows_set account balance low = record { each = λ a below. at a below (a == account) refl } where
      at : (a : ℕ) → a < accounts opening → (t : Bool) → (a == account) ≡ t → (if t then balance else has a) ≡ slice_index (slice_set words account balance) a
      at a below true e = sym (ap (slice_index (slice_set words account balance)) (eqb-true a account e) ∙ index_same words account balance (omega arith))
      at a below false e = shows.each a below ∙ sym (index_other words account a balance (eqb-false a account e))

    shows_changed : (account balance : ℕ) (operation : Operation) → account < accounts opening → applied operation (has account) ≡ balance
        → Shows opening (perform (bank opening) words (account, operation)) (with_balance has account balance)
    shows_changed account balance operation low is =
        subst (λ (v : ℕ). Shows opening (slice_set words account (applied operation v)) (with_balance has account balance)) (shows.each account low)
        (subst (λ (v : ℕ). Shows opening (slice_set words account v) (with_balance has account balance)) (sym is) (shows_set account balance low))

    -- a job is refused, or done as it is whole
    done_or_refused : (t : Bool) (after : Balances) (decision : Decision)
        → (t ≡ true → DecidesAs (bank opening) words (record { state = after; reply = Done }) decision)
        → DecidesAs (bank opening) words (done_if t has after) (or_refuse t decision)
    unfolding perform_all
    done_or_refused t after decision doing =
        decides_if (bank opening) words t (record { state = after; reply = Done }) (record { state = has; reply = Refused }) decision (Replies Refused) doing
        (λ is. record { reply = refl; shows = shows; due = tt })

  module _ (words : List ℕ) (has : Balances) (long : length words ≡ accounts opening + (opening.shards + 1)) (are : AreWords words)
      (shows : Shows opening words has) where
    -- balances fit words
    small : (a : ℕ) → a < accounts opening → has a < 2 ^ 64
    small a low = omega (arith, shows.each a low, are a)

    debits_as : (a x : ℕ) → a < accounts opening → x ≤ has a → Shows opening (perform (bank opening) words (a, Sub x)) (debited has a x)
    debits_as a x low enough = shows_changed words has long shows a (has a - x) (Sub x) low (subtracted_is (has a) x (small a low) enough)

    moves_as : (a b x : ℕ) → a < accounts opening → b < accounts opening → x ≤ has a → has b + x < 2 ^ 64
        → DecidesAs (bank opening) words (record { state = credited (debited has a x) b x; reply = Done }) (Moves a b x)
    unfolding perform_all
    moves_as a b x low high enough room =
        record {
          reply = refl;
          shows =
              shows_changed after (debited has a x) (length-set words a now ∙ long) (debits_as a x low enough) b (debited has a x b + x) (Add x) high
              (added_is (debited has a x b) x more);
          due = (tt, (tt, tt));
        } where
          now : ℕ
          now = applied (Sub x) (slice_index words a)

          after : List ℕ
          after = slice_set words a now

          more : debited has a x b + x < 2 ^ 64
          more = at (b == a) refl where
            at : (t : Bool) → (b == a) ≡ t → (if t then has a - x else has b) + x < 2 ^ 64
            at true e = let same : has b ≡ has a = ap has (eqb-true b a e) in omega arith
            at false e = room

    decides : (job : Job) → IsJob opening job → DecidesAs (bank opening) words (whole has job) (run words (script job))
    unfolding run perform_all balance_of ◌>>=◌
    decides (Deposit a x) low =
        subst (λ (n : ℕ). DecidesAs (bank opening) words (whole has (Deposit a x)) (or_refuse (fits (n + x)) (Changes a (Add x)))) (shows.each a low)
        (done_or_refused words has long shows (fits (has a + x)) (credited has a x) (Changes a (Add x)) (λ t.
        record {
          reply = refl;
          shows = shows_changed words has long shows a (has a + x) (Add x) low (added_is (has a) x (ltb-true (has a + x) (2 ^ 64) t));
          due = (tt, tt);
        }))
    decides (Withdraw a x) low =
        subst (λ (n : ℕ). DecidesAs (bank opening) words (whole has (Withdraw a x)) (or_refuse (nat_le x n) (Changes a (Sub x)))) (shows.each a low)
        (done_or_refused words has long shows (nat_le x (has a)) (debited has a x) (Changes a (Sub x)) (λ t.
        record { reply = refl; shows = debits_as a x low (leb-true x (has a) t); due = (tt, tt) }))
    decides (Transfer a b x) low =
        subst (λ (n : ℕ). DecidesAs (bank opening) words (whole has (Transfer a b x)) (or_refuse (may_move n (slice_index words b) x) (Moves a b x)))
        (shows.each a low.0)
        (subst (λ (n : ℕ). DecidesAs (bank opening) words (whole has (Transfer a b x)) (or_refuse (may_move (has a) n x) (Moves a b x))) (shows.each b low.1)
        (done_or_refused words has long shows (may_move (has a) (has b) x) (credited (debited has a x) b x) (Moves a b x) (λ t.
        let both = and_parts (nat_le x (has a)) (fits (has b + x)) t in
        moves_as a b x low.0 low.1 (leb-true x (has a) both.0) (ltb-true (has b + x) (2 ^ 64) both.1))))
    decides (Balance a) low = record { reply = ap Has (sym (shows.each a low)); shows = shows; due = tt }

  opens_long : length (opening_words opening) ≡ accounts opening + (opening.shards + 1)
  opens_long =
      let balances : List ℕ = replicate (accounts opening) opening.balance in
      let zeros : List ℕ = replicate (opening.shards + 1) 0 in
      omega (arith, length-append balances zeros, length-replicate (accounts opening) opening.balance, length-replicate {A = ℕ} (opening.shards + 1) 0)

  opens_zero : (n : ℕ) → slice_index (opening_words opening) (accounts opening + n) ≡ 0
  opens_zero n =
      past_opening (accounts opening) opening.balance (accounts opening + n) n (replicate (opening.shards + 1) 0) refl ∙ zero_at (opening.shards + 1) n

  opens_unused : (shard : ℕ) → IsUnused (sharing_of opening.sharing) (slice_index (opening_words opening) (accounts opening + shard))
  opens_unused shard = subst (IsUnused (sharing_of opening.sharing)) (sym (opens_zero shard)) (zero_is_unused opening.sharing)

  pub bank_system : opening.balance < 2 ^ 64 → IsSystem (bank opening)
  bank_system small = record {
    sharing = sharing_is opening.sharing;
    same = same_number;
    words = record {
      one_lock_word = λ a b isa isb e. omega arith;
      lock_word_there = λ a isa. omega arith;
      lock_word_bare = λ a lock isa p. omega arith;
      turn_there = omega arith;
      turn_bare = λ lock p. omega arith;
      turn_apart = λ a isa e. omega arith;
      word_there = λ n lock p. omega arith;
      lock_there = λ n lock p. omega arith;
      one_protector = λ n a b p q. sym p.0 ∙ q.0;
    };
    first = λ job right. firsts job;
    keeps = keeps;
    decides = λ job words has right long are shows. decides words has long are shows job right;
    looks = λ words other has alike shows. record { each = λ a below. shows.each a below ∙ alike.under a (a / SHARD_SIZE) (refl, below) };
    opens = record {
      initial_length = opens_long;
      are_words = opening_below (accounts opening) opening.balance (replicate (opening.shards + 1) 0) small (zeros_below (opening.shards + 1));
      shows = record { each = λ a below. opening_at (accounts opening) opening.balance a (replicate (opening.shards + 1) 0) below };
      unused = λ shard isa. opens_unused shard;
      no_turn = opens_zero opening.shards;
    };
  }

  -- a job tests at most two words, seizes at most two locks and has at most two effects
  asks : (job : Job) → AsksAtMost 2 2 (script job)
  unfolding AsksAtMost balance_of ◌>>=◌
  asks (Deposit a x) = λ has below. tt
  asks (Withdraw a x) = λ has below. tt
  asks (Transfer a b x) = λ left below has low. tt
  asks (Balance a) = λ has below. tt

  few_if : (t : Bool) (decision : Decision) → length (effects_of decision) ≤ 2 → length (effects_of (or_refuse t decision)) ≤ 2
  few_if t decision few = either_has (λ d. length (effects_of d) ≤ 2) t decision (Replies Refused) (λ is. few) (λ is. omega arith)

  ends : (job : Job) → AllEndsHave (λ decision. length (effects_of decision) ≤ 2) (script job)
  unfolding AllEndsHave balance_of ◌>>=◌
  ends (Deposit a x) = λ has below. few_if (fits (has + x)) (Changes a (Add x)) (omega arith)
  ends (Withdraw a x) = λ has below. few_if (nat_le x has) (Changes a (Sub x)) (omega arith)
  ends (Transfer a b x) = λ left below has low. few_if (may_move left has x) (Moves a b x) (omega arith)
  ends (Balance a) = λ has below. omega arith

  pub bank_bounded : AreBounded (bank opening) 2 2 2
  bank_bounded = record { asks = λ job right. asks job; effects = λ job right. ends job }
