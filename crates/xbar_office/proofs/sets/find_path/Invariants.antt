use Rattle.std.proofs.Common.{◌≡◌, ℕ, ◌<◌, false}
use Rattle.{xbar_equip.specs.{Path.path_by, Paths.{has_idle_links, channel_in_turn}}, xbar_office.specs.Chosen.with_chosen}
use Rattle.xbar_office.proofs.sets.find_path.Given as goal

abbrev pub invariant-loop-turn : goal.invariant-loop-turn
invariant-loop-turn l =
    (k : ℕ) → k < l.turn → has_idle_links (with_chosen l.paths l.chosen) (path_by l.line l.place (channel_in_turn l.start k)) ≡ false
