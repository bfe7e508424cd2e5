-- a connector's word tells which marker holds it, and which markers have requested it
use Rattle.std.proofs.Common.{◌≡◌, ℕ, zero, suc, ◌+◌, ◌<◌, ◌≤◌, ◌%◌, ◌⊎◌, slice_index, inl, inr, refl, arith, eq-eqb, eqb-true}
use Rattle.{std.{specs.Int.bit_at, proofs.lemmas.Nat.Bits.bit_at-lt}, turns.proofs.Preferring.preferring_shows}
use Rattle.{xbar_equip.specs.{Conn.IsConn, Word.{ConnWord, word_number}, declared.conn.Conn.Conn}, xbar_plan.specs.Tables.Tables, xbar_jobs.specs.Office.office}
use Rattle.xbar_moves.{specs.{Exchange.{Exchange, IsLawfulExchange, world}, Holding.{Holds, HasRequested, TellsTruth}}, proofs.Actors.{actor_at, marker_at}}
use Rattle.turns.specs.Law as law

zero_or_more : (n : ℕ) → (n ≡ 0) ⊎ ((k : ℕ) × (n ≡ suc k))
zero_or_more zero = inl refl
zero_or_more (suc k) = inr (k, refl)

-- the word of a connector
abbrev pub conn_word : Exchange → Conn → ℕ
conn_word e conn = slice_index e.words (word_number (ConnWord conn))

module _ (plan : Tables) (e : Exchange) (lawful : IsLawfulExchange plan e) (conn : Conn) where
  -- a marker that holds a connector is named by its word
  named : (k : ℕ) → Holds e k conn → conn_word e conn % 64 ≡ suc k
  named k holds = ((lawful.sound k holds.number holds.attempt (actor_at e k holds.number holds.attempt holds.at)).held conn holds.held).names

  module _ (range : IsConn conn) where
    shared : law.IsShared (office plan) (world plan e) conn
    shared = lawful.shared conn range

    -- and a marker that is named holds it
    holds_named : (k : ℕ) → conn_word e conn % 64 ≡ suc k → Holds e k conn
    holds_named k names = let holds = shared.named k names in
        record { number = holds.number; attempt = holds.attempt; at = marker_at e k holds.number holds.attempt holds.does; held = holds.held }

    -- the word of a connector that nobody holds names nobody
    pub free_word : ((k : ℕ) → ¬ Holds e k conn) → conn_word e conn % 64 ≡ 0
    free_word free = elim (zero_or_more (conn_word e conn % 64)) [ inl none ↦ none | inr more ↦ absurd (free more.0 (holds_named more.0 more.1)) ]

    -- a request is in the word if it was made
    asks_set : (k : ℕ) → k < 48 → bit_at (conn_word e conn) (8 + k) ≡ 1 → HasRequested e k conn
    asks_set k few set =
        let asks = (shared.requested k few).made (eq-eqb (bit_at (conn_word e conn) (8 + k)) 1 set) in
        record { number = asks.number; attempt = asks.attempt; at = marker_at e k asks.number asks.attempt asks.does; request = asks.requests }

    set_asked : (k : ℕ) → k < 48 → HasRequested e k conn → bit_at (conn_word e conn) (8 + k) ≡ 1
    set_asked k few asks =
        let does = actor_at e k asks.number asks.attempt asks.at in
        eqb-true (bit_at (conn_word e conn) (8 + k)) 1 ((shared.requested k few).shown preferring_shows
        (record { number = asks.number; attempt = asks.attempt; does = does; requests = asks.request }))

    -- no other bit is set
    other_bits : (bit : ℕ) → ((6 ≤ bit) × (bit < 8)) ⊎ (56 ≤ bit) → bit_at (conn_word e conn) bit ≡ 0
    other_bits bit other = elim (zero_or_more (bit_at (conn_word e conn) bit)) [
      | inl none ↦ none
      | inr more ↦ absurd (apart (shared.is_word.bits bit (let below = bit_at-lt (conn_word e conn) bit in let is = more.1 in omega (arith, below, is))) other)
    ] where
      apart : (bit < 6) ⊎ ((8 ≤ bit) × (bit < 56)) → ((6 ≤ bit) × (bit < 8)) ⊎ (56 ≤ bit) → ⊥
      apart (inl low) (inl (from, to)) = omega arith
      apart (inl low) (inr above) = omega arith
      apart (inr (from, to)) (inl (low, high)) = omega arith
      apart (inr (from, to)) (inr above) = omega arith

    -- a connector's word tells the truth
    pub tells_truth : TellsTruth e conn (conn_word e conn)
    tells_truth = record {
      holder = λ k. ((λ names. holds_named k (omega (arith, names))), (λ holds. let names = named k holds in omega (arith, names)));
      free = free_word;
      requests = λ k few. (asks_set k few, set_asked k few);
      others = other_bits;
    }
