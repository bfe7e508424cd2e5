use Rattle.std.proofs.Common.{[]}
use Rattle.xbar_moves.proofs.{HeldWords.free_shows, IdleMarkers.idle_show, MadeEffects.made_show}
use Rattle.xbar_moves.proofs.Records.{completed_shows, counts, jobs_legal, records_legal, replies_legal}
use Rattle.xbar_moves.proofs.laws.jobs_act_at_their_turns.Goals as goal

pub returns-clause-jobs : goal.returns-clause-jobs
returns-clause-jobs c = λ plan e lawful. jobs_legal plan 0 [] e.records lawful.legal

pub returns-clause-replies : goal.returns-clause-replies
returns-clause-replies c = λ plan e lawful. replies_legal plan 0 [] e.records lawful.legal

pub returns-clause-legal : goal.returns-clause-legal
returns-clause-legal c = records_legal

pub returns-clause-counted : goal.returns-clause-counted
returns-clause-counted c = counts

pub returns-clause-shows : goal.returns-clause-shows
returns-clause-shows c = completed_shows

pub returns-clause-made : goal.returns-clause-made
returns-clause-made c = λ plan e lawful none. made_show plan e lawful none

pub returns-clause-free : goal.returns-clause-free
returns-clause-free c = λ plan e lawful free. free_shows plan e lawful free

pub returns-clause-idle : goal.returns-clause-idle
returns-clause-idle c = λ plan e lawful idle. idle_show plan e lawful idle
