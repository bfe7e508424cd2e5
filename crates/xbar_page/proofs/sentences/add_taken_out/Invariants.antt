use Rattle.std.proofs.Common.{◌≡◌, ◌++◌, map, take, flat_map, string_bytes}
use Rattle.xbar_page.specs.{Section.item_text, Words.taken_out_words}
use Rattle.xbar_page.proofs.sentences.add_taken_out.Given as goal

abbrev pub invariant-loop-path : goal.invariant-loop-path
invariant-loop-path l = string_bytes l.text ≡ string_bytes l.initial.text ++ flat_map item_text (map taken_out_words (take l.path-index l.paths))
