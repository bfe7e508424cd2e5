use Rattle.turns.proofs.{CompleteWords.{made_shows, idle_shows}, Consequences.{held_word, free_shows}}
use Rattle.turns.proofs.laws.jobs_act_at_their_turns.Goals as goal

pub returns-clause-free : goal.returns-clause-free
returns-clause-free g c = λ setting w system law free. free_shows (g.F.Family.system setting) system w law free

pub returns-clause-held : goal.returns-clause-held
returns-clause-held g c = λ setting w k number a n system law there under. held_word (g.F.Family.system setting) system w law k number a n there under

pub returns-clause-made : goal.returns-clause-made
returns-clause-made g c = λ setting w law none. made_shows (g.F.Family.system setting) w law none

pub returns-clause-idle : goal.returns-clause-idle
returns-clause-idle g c = λ setting w law free. idle_shows (g.F.Family.system setting) w law free
