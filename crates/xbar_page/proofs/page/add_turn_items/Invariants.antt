use Rattle.std.proofs.Common.{◌≡◌, ◌++◌, take, flat_map, string_bytes}
use Rattle.xbar_page.specs.Page.{turn_item}
use Rattle.xbar_page.proofs.page.add_turn_items.Given as goal

abbrev pub invariant-loop-owner : goal.invariant-loop-owner
invariant-loop-owner l = string_bytes l.text ≡ string_bytes l.initial.text ++ flat_map turn_item (take l.owner-index l.records)
