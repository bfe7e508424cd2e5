-- the shards of a bank as groups of words
use Rattle.std.proofs.Common.{◌≡◌, ℕ, suc, ◌+◌, ◌*◌, arith}
use Rattle.bank.specs.System.{bank_over}
use Rattle.bank.specs.declared.opening.Opening.{Opening}
use Rattle.bank.specs.declared.opening.TheConstants.{SHARD_SIZE}
use Rattle.turns.specs.Places.{ArePlaces}
use Rattle.desk_attempts.specs.GroupPlaces.{places_of_size}
use Rattle.desk_attempts.specs.Groups.{places_of}
use Rattle.desk_attempts.specs.declared.on_groups.Groups.{Groups}

-- each shard is a group
abbrev pub shards_of : Opening → Groups
shards_of opening = record { count = opening.shards; each = SHARD_SIZE }

-- each word of the bank has a place of its own
pub shards_have_places : (opening : Opening)
    → ArePlaces (places_of (shards_of opening)) (bank_over opening).size
shards_have_places opening = places_of_size (shards_of opening) (same opening.shards) where
  same : (shards : ℕ) → SHARD_SIZE * shards + (shards + 1) ≡ suc (shards * SHARD_SIZE + shards)
  same shards = omega arith
