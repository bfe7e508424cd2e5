use Rattle.xbar_plan.proofs.LawfulPlans.{place_at-range, stands_at-has}
use Rattle.xbar_plan.proofs.laws.places_are_in_range.Goals as goal

pub returns : goal.returns
returns c = λ plan lawful group index member here place stands.
    place_at-range plan lawful group index member place here (stands_at-has member place stands)
