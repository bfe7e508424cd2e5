use Rattle.std.proofs.Common.{◌≡◌, ◌++◌, map, take, flat_map, string_bytes}
use Rattle.xbar_report.specs.Text.{trouble_line, trouble_of}
use Rattle.xbar_report.proofs.report_text.add_cards_of.Given as goal

abbrev pub invariant-loop-card : goal.invariant-loop-card
invariant-loop-card l =
    string_bytes l.text ≡ string_bytes l.initial.text ++ flat_map trouble_line (map (trouble_of l.owner) (take l.card-index l.owner.reply.cards))
