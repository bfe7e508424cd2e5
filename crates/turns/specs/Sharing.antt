use Rattle.std.specs.Prelude.{◌≡◌, ◌≢◌, ℕ, zero, suc, ◌<◌, ◌⊎◌, Bool, true, false, ◌^◌, Option, Some, None}
use Rattle.turns.specs.Operations.{applied}
use Rattle.turns.specs.declared.operation.Operation.{Operation}
use Rattle.turns.specs.declared.judgement.Judgement.{Judgement}
use Rattle.turns.specs.declared.judgement.Judgement.TheVariants.{Free, Held, Preferred}

-- a way in which actors share a lock's word
pub record Sharing : Type 1 where
  -- how many actors may share it
  pub most : ℕ
  -- the numbers that a lock's word may be
  pub IsWord : ℕ → Type 0
  -- 0, or one more than the number of the actor that holds the lock
  pub holder : ℕ → ℕ
  -- whether the word has actor k's request
  pub requests : ℕ → ℕ → Bool
  -- whether actors ask first: a request is then a step of its own, before the one that seizes the
  -- lock. Otherwise a request seizes the lock at once if it may, and changes nothing if not.
  pub asks : Bool
  -- the operations by which actor k requests the lock, and withdraws its request
  pub request : ℕ → Operation
  pub withdrawal : ℕ → Operation
  -- the word once actor k has seized the lock by this one
  pub taken : ℕ → ℕ → ℕ
  -- the operation by which its holder frees the lock
  pub freeing : Operation
  -- whether actor k, which requests the lock, may seize it by this word
  pub judged : ℕ → ℕ → Judgement

-- the actor of a holder's number, which is 0, or one more than the actor's
abbrev pub actor_of_holder : ℕ → Option ℕ
actor_of_holder zero = None
actor_of_holder (suc k) = Some k

-- the actor that holds a lock, by the lock's word
abbrev pub held_by : Sharing → ℕ → Option ℕ
held_by S word = actor_of_holder (S.holder word)

-- the word with actor k's request
abbrev pub with_request : Sharing → ℕ → ℕ → ℕ
with_request S k word = applied (S.request k) word

-- the word without actor k's request
abbrev pub without_request : Sharing → ℕ → ℕ → ℕ
without_request S k word = applied (S.withdrawal k) word

-- the word once its holder has freed the lock
abbrev pub without_holder : Sharing → ℕ → ℕ
without_holder S word = applied S.freeing word

-- a judgement is true by the word
abbrev pub IsTrueOf : Sharing → ℕ → ℕ → Judgement → Type 0
IsTrueOf S k word Free = S.holder word ≡ 0
IsTrueOf S k word (Held other) = S.holder word ≡ suc other
IsTrueOf S k word (Preferred other) =
    (other < k) × (S.holder word ≡ 0) × (S.requests other word ≡ true)

-- the word of a lock that nobody holds or requests
pub record IsUnused (S : Sharing) (word : ℕ) : Type 0 where
  pub is_word : S.IsWord word
  pub free : S.holder word ≡ 0
  pub unasked : (j : ℕ) → j < S.most → S.requests j word ≡ false

-- no request is new in the word after a step, except actor k's
abbrev pub AddsOnly : Sharing → ℕ → ℕ → ℕ → Type 0
AddsOnly S k word after =
    (j : ℕ) → j < S.most → S.requests j after ≡ true → (j ≡ k) ⊎ (S.requests j word ≡ true)

-- actor k's request is gone, and none is new
abbrev pub Clears : Sharing → ℕ → ℕ → ℕ → Type 0
Clears S k word after =
    (j : ℕ) → j < S.most → S.requests j after ≡ true → (j ≢ k) × (S.requests j word ≡ true)

-- no request is new
abbrev pub AddsNone : Sharing → ℕ → ℕ → Type 0
AddsNone S word after =
    (j : ℕ) → j < S.most → S.requests j after ≡ true → S.requests j word ≡ true

-- each request but actor k's stays
abbrev pub KeepsOthers : Sharing → ℕ → ℕ → ℕ → Type 0
KeepsOthers S k word after =
    (j : ℕ) → j < S.most → j ≢ k → S.requests j word ≡ true → S.requests j after ≡ true

-- the rules that a sharing has to keep
pub record IsSharing (S : Sharing) : Type 0 where
  -- a request that is a step of its own keeps the holder
  pub asked_is : (k word : ℕ) → S.asks ≡ true → k < S.most → S.IsWord word
      → S.IsWord (with_request S k word)
  pub asked_holder : (k word : ℕ) → S.asks ≡ true → k < S.most → S.IsWord word
      → S.holder (with_request S k word) ≡ S.holder word
  pub asked_requests : (k word : ℕ) → S.asks ≡ true → k < S.most → S.IsWord word
      → AddsOnly S k word (with_request S k word)
  -- a request that seizes at once does so exactly if the actor may, and otherwise changes nothing
  pub seized_at_once : (k word : ℕ) → S.asks ≡ false → k < S.most → S.IsWord word
      → S.judged k word ≡ Free → with_request S k word ≡ S.taken k word
  pub left_at_once : (k word : ℕ) → S.asks ≡ false → k < S.most → S.IsWord word
      → S.judged k word ≢ Free → with_request S k word ≡ word
  -- a withdrawal keeps the holder
  pub withdrawn_is : (k word : ℕ) → k < S.most → S.IsWord word → S.IsWord (without_request S k word)
  pub withdrawn_holder : (k word : ℕ) → k < S.most → S.IsWord word
      → S.holder (without_request S k word) ≡ S.holder word
  pub withdrawn_requests : (k word : ℕ) → k < S.most → S.IsWord word
      → Clears S k word (without_request S k word)
  -- a lock that nobody holds, once seized, names its holder, whose request is gone
  pub taken_is : (k word : ℕ) → k < S.most → S.IsWord word → S.holder word ≡ 0
      → S.IsWord (S.taken k word)
  pub taken_holder : (k word : ℕ) → k < S.most → S.IsWord word → S.holder word ≡ 0
      → S.holder (S.taken k word) ≡ suc k
  pub taken_requests : (k word : ℕ) → k < S.most → S.IsWord word → S.holder word ≡ 0
      → Clears S k word (S.taken k word)
  -- a lock that was freed has no holder
  pub freed_is : (word : ℕ) → S.IsWord word → S.IsWord (without_holder S word)
  pub freed_holder : (word : ℕ) → S.IsWord word → S.holder (without_holder S word) ≡ 0
  pub freed_requests : (word : ℕ) → S.IsWord word → AddsNone S word (without_holder S word)
  -- judgements are true, and an actor may go on if it alone requests a lock that nobody holds
  pub judged_true : (k word : ℕ) → k < S.most → S.IsWord word → IsTrueOf S k word (S.judged k word)
  pub alone_free : (k word : ℕ) → k < S.most → S.IsWord word → S.holder word ≡ 0
      → ((j : ℕ) → j < S.most → S.requests j word ≡ true → j ≡ k) → S.judged k word ≡ Free
  -- a lock's word has 64 bits
  pub word_below : (word : ℕ) → S.IsWord word → word < 2 ^ 64

-- a sharing shows requests: each is in the word from the step that makes it to the one that
-- withdraws it or seizes the lock
pub record ShowsRequests (S : Sharing) : Type 0 where
  pub asked_own : (k word : ℕ) → k < S.most → S.IsWord word
      → S.requests k (with_request S k word) ≡ true
  pub asked_others : (k word : ℕ) → k < S.most → S.IsWord word →
      KeepsOthers S k word (with_request S k word)
  pub withdrawn_others : (k word : ℕ) → k < S.most → S.IsWord word →
      KeepsOthers S k word (without_request S k word)
  pub taken_others : (k word : ℕ) → k < S.most → S.IsWord word → S.holder word ≡ 0 →
      KeepsOthers S k word (S.taken k word)
  -- no request goes when the lock is freed
  pub freed_others : (word : ℕ) → S.IsWord word → (j : ℕ) → j < S.most →
      S.requests j word ≡ true → S.requests j (without_holder S word) ≡ true
