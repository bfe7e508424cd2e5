use Rattle.bank.proofs.laws.replies_are_those_of_jobs_done_whole.Goals as goal

pub returns : goal.returns
returns c = λ opening w law. c.jobs_act_at_their_turns.ensures.legal opening w law
