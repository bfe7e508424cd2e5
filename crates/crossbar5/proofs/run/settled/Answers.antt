use Rattle.std.proofs.Common.{ℕ, ◌<◌, ◌^◌, ◌∙◌, length, sym, ap, subst}
use Rattle.{xbar_moves.specs.Exchange.OfPlan, crossbar5.{specs.Run.IsOneHistory, proofs.SettledHistory.settled_history}}
use Rattle.crossbar5.proofs.run.settled.Goals as goal

pub returns-clause-history : goal.returns-clause-history
returns-clause-history c =
    let now = c.settle.new.office in
    let lawful = c.words.ensures.lawful in
    let laws = c.jobs_act_at_their_turns.ensures in
    let settle = c.in_ok-settle.ensures in
    let few : length now.exchange.records < 2 ^ 64 = subst (λ (n : ℕ). n < 2 ^ 64) (ap length c.records.ensures.records) c.records.ensures.few in
    subst (λ (o : OfPlan). IsOneHistory o.plan o.exchange) settle.settled
    (settled_history now.plan now.exchange (ap length (sym c.words.ensures.words) ∙ c.words.ensures.count) few settle.idle
    (laws.legal now.plan now.exchange lawful) (laws.counted now.plan now.exchange lawful)
    (laws.idle now.plan now.exchange lawful settle.idle))
