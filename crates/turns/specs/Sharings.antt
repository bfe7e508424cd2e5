use Rattle.std.specs.Prelude.{◌≡◌, ℕ, false, zero, suc, ◌+◌, ◌-◌, ◌<◌, ◌≤◌, ◌^◌, ◌%◌, ◌==◌, ◌⊎◌, true, Option, Some, None, if◌then◌else◌, bit_and, bit_or}
use Rattle.std.specs.Int.{bit_at}
use Rattle.turns.specs.Sharing.{Sharing}
use Rattle.turns.specs.declared.operation.Operation.TheVariants.{Load, Or, And, Store, CompareExchange}
use Rattle.turns.specs.declared.lock_sharing.LockSharing.{LockSharing}
use Rattle.turns.specs.declared.lock_sharing.LockSharing.TheVariants.{Preferring, Plain}
use Rattle.turns.specs.declared.judgement.Judgement.{Judgement}
use Rattle.turns.specs.declared.judgement.Judgement.TheVariants.{Free, Held, Preferred}

-- the bit of an actor's request, above the lowest eight
abbrev pub request_bit : ℕ → ℕ
request_bit k = 2 ^ (8 + k)

-- the first of `count` actors, from j on, that has a request in the word
abbrev pub first_request : ℕ → ℕ → ℕ → Option ℕ
first_request word j zero = None
first_request word j (suc count) =
    if bit_at word (8 + j) == 1 then Some j else first_request word (suc j) count

-- the lowest actor below this one that has a request in the word
unfoldable pub lower_request : ℕ → ℕ → Option ℕ
lower_request k word = first_request word 0 k

-- the judgement if nobody holds the lock: a lower actor that requests it is preferred
abbrev pub by_request : Option ℕ → Judgement
by_request None = Free
by_request (Some other) = Preferred other

-- the judgement by the holder, which is 0, or one more than the number of the actor that holds the
-- lock
abbrev pub by_holder : ℕ → Option ℕ → Judgement
by_holder zero lower = by_request lower
by_holder (suc holder) lower = Held holder

-- the judgement of a lock's word for an actor that requests the lock; the lowest six bits are the
-- holder
unfoldable pub judged : ℕ → ℕ → Judgement
judged k word = by_holder (word % 64) (lower_request k word)

-- the word once actor k has seized the lock: its request is cleared, and it is the holder
abbrev pub seized_by : ℕ → ℕ → ℕ
seized_by k word = bit_or (bit_and word (2 ^ 64 - 1 - request_bit k)) (1 + k)

-- a lock's word: the lowest six bits name a holder of 48, each of the bits 8 to 55 is a request,
-- and no other bit is set
pub record IsLockWord (word : ℕ) : Type 0 where
  pub holder : word % 64 ≤ 48
  pub bits : (i : ℕ) → bit_at word i ≡ 1 → (i < 6) ⊎ ((8 ≤ i) × (i < 56))
  pub below : word < 2 ^ 64

-- up to 48 actors; of those that request a lock that nobody holds, the lowest is preferred
abbrev pub preferring : Sharing
preferring = record {
  most = 48;
  IsWord = IsLockWord;
  holder = λ word. word % 64;
  requests = λ k word. bit_at word (8 + k) == 1;
  asks = true;
  request = λ k. Or (request_bit k);
  withdrawal = λ k. And (2 ^ 64 - 1 - request_bit k);
  taken = seized_by;
  freeing = And (2 ^ 64 - 1 - 63);
  judged = judged;
}

-- up to 2^32 - 1 actors: a lock's word is 0, or one more than the number of the actor that holds
-- the lock. A request seizes the lock at once by one compare-and-exchange, or changes nothing.
abbrev pub plain : Sharing
plain = record {
  most = 2 ^ 32 - 1;
  IsWord = λ word. word < 2 ^ 32;
  holder = λ word. word % 2 ^ 32;
  requests = λ k word. false;
  asks = false;
  request = λ k. CompareExchange 0 (1 + k);
  withdrawal = λ k. Load;
  taken = λ k word. 1 + k;
  freeing = Store 0;
  judged = λ k word. by_holder (word % 2 ^ 32) None;
}

abbrev pub sharing_of : LockSharing → Sharing
sharing_of Preferring = preferring
sharing_of Plain = plain
