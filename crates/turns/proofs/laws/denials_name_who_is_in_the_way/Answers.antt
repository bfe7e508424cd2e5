use Rattle.turns.{specs.Attempt.act, proofs.Denied.{put_off_held, put_off_preferred}}
use Rattle.turns.proofs.laws.denials_name_who_is_in_the_way.Goals as goal

pub returns-clause-held : goal.returns-clause-held
returns-clause-held g c = λ setting k a found holder told.
    put_off_held (g.F.Family.system setting) k found holder (act a) told

pub returns-clause-preferred : goal.returns-clause-preferred
returns-clause-preferred g c = λ setting k a found other told.
    put_off_preferred (g.F.Family.system setting) k found other (act a) told
