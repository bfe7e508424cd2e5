use Rattle.std.proofs.Common.{◌≡◌, ◌<◌, ℕ, sym, subst}
use Rattle.{atomic_table.specs.Table.Allows, desks.{specs.Rule.Rule, proofs.{Placing.allows_placed, Seating.allows_at}}, turns.specs.System.system_of}
use Rattle.desks.proofs.steps.load.Goals as goal

pub perform-requires-clause-place : goal.perform-requires-clause-place
perform-requires-clause-place g c =
    let are = g.met.F.Jobs.are_places c.args.setting.now c.requires.setting in
    subst (λ (n : ℕ). n < c.args.shared.now.table_id.words) (sym c.place.ensures)
    (subst (λ (count : ℕ). (g.F.Jobs.places c.args.setting.now).place c.args.word < count) (sym c.requires.words) (are.within c.args.word c.requires.word))

pub perform-requires-clause-allowed : goal.perform-requires-clause-allowed
perform-requires-clause-allowed g c =
    let setting = c.args.setting.now in
    let O = system_of (g.F.Jobs.system setting) in
    let P = g.F.Jobs.places setting in
    let are = g.met.F.Jobs.are_places setting c.requires.setting in
    allows_at _ (λ s. Rule (system_of (g.F.Jobs.system s)) (g.F.Jobs.places s) c.args.shared.now.key.count) _ _ _ _ _ _ (λ n. n)
    (λ n me. (me.1 ≡ c.args.seat.now.me.1) × g.T.StepFact.then c.args.seat.now.me.0 n me.0) c.requires.key
    (subst (λ (place : ℕ). Allows (Rule O P c.args.shared.now.key.count) c.args.shared.now.table_id.slots c.args.seat.now.id c.args.seat.now.me place (λ n. n)
    (λ n me. (me.1 ≡ c.args.seat.now.me.1) × g.T.StepFact.then c.args.seat.now.me.0 n me.0)) (sym c.place.ensures)
    (allows_placed O P are c.args.shared.now.key.count c.args.shared.now.table_id.slots c.args.seat.now.id c.args.seat.now.me c.args.word (λ n. n)
    (λ n me. (me.1 ≡ c.args.seat.now.me.1) × g.T.StepFact.then c.args.seat.now.me.0 n me.0) c.requires.word c.requires.allowed))
