use Rattle.turns.proofs.LostActors.{order_grows, run_alone, run_changes, run_holds, run_requests, run_spares, run_stays}
use Rattle.turns.proofs.laws.lost_actors_keep_their_locks.Goals as goal

pub returns-clause-stay : goal.returns-clause-stay
returns-clause-stay g c = λ setting lost w moves k others is. run_stays (g.F.Family.system setting) lost w moves k others is

pub returns-clause-hold : goal.returns-clause-hold
returns-clause-hold g c =
    λ setting lost w moves k lock system law are others is holds. run_holds (g.F.Family.system setting) system lost w moves k lock law are others is holds

pub returns-clause-alone : goal.returns-clause-alone
returns-clause-alone g c =
    λ setting lost w moves k j lock system law are others is holds other. run_alone (g.F.Family.system setting) system lost w moves k j lock law are others is
    holds other

pub returns-clause-requests : goal.returns-clause-requests
returns-clause-requests g c =
    λ setting lost w moves k lock system law are others is right asked. run_requests (g.F.Family.system setting) system lost w moves k lock law are others is
    right asked

pub returns-clause-words : goal.returns-clause-words
returns-clause-words g c =
    λ setting lost w moves k lock n system law are others is holds protects. run_spares (g.F.Family.system setting) system lost w moves k lock n law are others
    is holds protects

pub returns-clause-changed : goal.returns-clause-changed
returns-clause-changed g c =
    λ setting lost w moves k lock n system law are others changed protects holds. run_changes (g.F.Family.system setting) system lost w moves k lock n law are
    others changed protects holds

pub returns-clause-order : goal.returns-clause-order
returns-clause-order g c = λ setting lost w moves others. order_grows (g.F.Family.system setting) lost w moves others
