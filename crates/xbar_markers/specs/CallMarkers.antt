use Rattle.std.specs.Prelude.{ℕ, ◌+◌, ◌<◌, ◌≤◌}

-- live calls need a marker that dials and one that completes calls, and at most 48 in all
abbrev pub AreCallMarkers : ℕ → ℕ → Type 0
AreCallMarkers dialling completing = (0 < dialling) × (0 < completing) × (dialling + completing ≤ 48)
