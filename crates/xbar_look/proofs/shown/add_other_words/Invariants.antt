use Rattle.std.proofs.Common.{◌≡◌, ◌++◌, map, take, codes, decimal, flat_map, string_bytes}
use Rattle.xbar_json.specs.Json.{quoted}
use Rattle.xbar_look.proofs.shown.add_other_words.Given as goal

abbrev pub invariant-loop-word : goal.invariant-loop-word
invariant-loop-word l =
    string_bytes l.text ≡ string_bytes l.initial.text
    ++ flat_map (λ other. codes "," ++ other) (map (λ word. quoted (decimal word)) (take l.word-index l.words))
