use Rattle.std.proofs.Common.{◌≡◌, ℕ, ◌<◌, Bool, true, false, List, ap, Some, None, option_map}
use Rattle.xbar_equip.specs.{Len.Line, Ten.TrunkPlace, Path.path_by, Paths.{has_idle_links, channel_in_turn, channel_test}, declared.path.Path.Path}
use Rattle.xbar_equip.proofs.FirstNumber.{first_below-found, first_below-none}

module _ (paths : List Path) (line : Line) (place : TrunkPlace) (start : ℕ) where
  idle_in_turn : ℕ → Bool
  idle_in_turn k = has_idle_links paths (path_by line place (channel_in_turn start k))

  -- the test finds a channel with idle links if no earlier one has them
  pub channel_test-found : (k : ℕ) → k < 10 → has_idle_links paths (path_by line place (channel_in_turn start k)) ≡ true
      → ((j : ℕ) → j < k → has_idle_links paths (path_by line place (channel_in_turn start j)) ≡ false)
      → channel_test paths line place start ≡ Some (channel_in_turn start k)
  unfolding idle_in_turn
  channel_test-found k below here earlier = ap (option_map (channel_in_turn start)) (first_below-found (idle_in_turn) 10 k below here earlier)

  -- and nothing if no channel has them
  pub channel_test-none : ((j : ℕ) → j < 10 → has_idle_links paths (path_by line place (channel_in_turn start j)) ≡ false)
      → channel_test paths line place start ≡ None
  unfolding idle_in_turn
  channel_test-none none = ap (option_map (channel_in_turn start)) (first_below-none (idle_in_turn) 10 none)
