use Rattle.xbar_plan.proofs.OtherPlaces.{other-paired, others}
use Rattle.xbar_plan.proofs.laws.places_of_a_pair_see_each_other.Goals as goal

pub returns-clause-paired : goal.returns-clause-paired
returns-clause-paired c = other-paired

pub returns-clause-stands : goal.returns-clause-stands
returns-clause-stands c = λ plan lawful number index member place other here stands seen.
    (others plan lawful number index member place other here stands seen).stands

pub returns-clause-apart : goal.returns-clause-apart
returns-clause-apart c = λ plan lawful number index member place other here stands seen.
    (others plan lawful number index member place other here stands seen).apart

pub returns-clause-frame : goal.returns-clause-frame
returns-clause-frame c = λ plan lawful number index member place other here stands seen.
    (others plan lawful number index member place other here stands seen).frame

pub returns-clause-back : goal.returns-clause-back
returns-clause-back c = λ plan lawful number index member place other here stands seen.
    (others plan lawful number index member place other here stands seen).back
