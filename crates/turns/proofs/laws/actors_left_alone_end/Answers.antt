use Rattle.turns.proofs.AloneEnds.{alone_ends}
use Rattle.turns.proofs.laws.actors_left_alone_end.Goals as goal

pub returns : goal.returns
returns g c = λ setting tests seizings effects w k number a count is bounded law there aside fits.
    let O = g.F.Family.system setting in
    alone_ends O is tests seizings effects bounded (λ x j n b now at. c.every_move_keeps_the_law.ensures.moves setting x j n b is now at) k number w a count law
    there aside fits
