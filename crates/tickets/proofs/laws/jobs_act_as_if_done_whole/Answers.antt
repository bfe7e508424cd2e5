use Rattle.{tickets.{specs.System.tickets, proofs.IsSystem.tickets_system}, turns.specs.Runs.run_of}
use Rattle.tickets.proofs.laws.jobs_act_as_if_done_whole.Goals as goal

pub returns : goal.returns
returns c = λ count moves few are.
    let w = run_of tickets count moves in
    let law = c.every_run_is_lawful.ensures tt count moves tickets_system few are in
    let at_turns = c.jobs_act_at_their_turns.ensures in
    (at_turns.legal tt w law, λ unheld. at_turns.free tt w tickets_system law unheld)
