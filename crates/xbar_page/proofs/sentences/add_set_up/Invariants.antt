use Rattle.std.proofs.Common.{◌≡◌, ◌++◌, map, take, flat_map, string_bytes}
use Rattle.xbar_page.specs.{Section.item_text, Words.set_up_words}
use Rattle.xbar_page.proofs.sentences.add_set_up.Given as goal

abbrev pub invariant-loop-path : goal.invariant-loop-path
invariant-loop-path l = string_bytes l.text ≡ string_bytes l.initial.text ++ flat_map item_text (map set_up_words (take l.path-index l.paths))
