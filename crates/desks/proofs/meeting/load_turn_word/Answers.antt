use Rattle.std.proofs.Common.{◌≡◌, ℕ, sym, subst}
use Rattle.{atomic_table.specs.Table.Allows, desks.{specs.{Met.HasSeenAllTurns, Rule.RuleOfWords}, proofs.Looking.allows_look}, turns.specs.System.system_of}
use Rattle.desks.proofs.meeting.load_turn_word.Goals as goal

pub load-requires-clause-allowed : goal.load-requires-clause-allowed
load-requires-clause-allowed g c =
    let O = system_of (g.F.Jobs.system c.args.setting.now) in
    let shared = c.args.shared.now in
    let seat = c.args.seat.now in
    subst (λ (word : ℕ). Allows (RuleOfWords O shared.key.count) shared.table_id.slots seat.id seat.me word (λ n. n)
    (λ n me. (me.1 ≡ seat.me.1) × HasSeenAllTurns O seat.me.0 n me.0)) (sym c.turn_word.ensures)
    (allows_look O shared.key.count shared.table_id.slots seat.id seat.me)
