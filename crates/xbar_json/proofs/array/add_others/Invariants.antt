use Rattle.std.proofs.Common.{◌≡◌, ◌++◌, map, take, codes, flat_map, string_bytes}
use Rattle.xbar_json.proofs.array.add_others.Given as goal

abbrev pub invariant-loop-item : goal.invariant-loop-item
invariant-loop-item g l =
    string_bytes l.text ≡ string_bytes l.initial.text ++ flat_map (λ other. codes "," ++ other) (map g.T.Json.json (take l.item-index l.items))
