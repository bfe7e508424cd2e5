use Rattle.std.proofs.lemmas.{Grind.flat_map-append, List.Folds.flat_map-map}

-- laws of texts that are joined from items
pub ruleset joined = (flat_map-append, flat_map-map)
