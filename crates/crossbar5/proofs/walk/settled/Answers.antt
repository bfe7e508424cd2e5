use Rattle.std.proofs.Common.{ℕ, Vec, Global, refl, ◌∙◌, ap}
use Rattle.{xbar_moves.specs.Exchange.OfPlan, xbar_walk.specs.Walks.{Walk, walk_of_settling}}
use Rattle.crossbar5.proofs.walk.settled.Goals as goal

pub returns : goal.returns
returns c = λ w agrees.
    let all : Walk = walk_of_settling w in
    let ends = c.in_ok-settle.ensures.observed w agrees in
    record {
      same = ap (λ (o : OfPlan). o.exchange) (ends.office_is ∙ c.in_ok-settle.ensures.settled);
      text_is = ap (λ (v : Vec ℕ Global). v.items) c.into_bytes.ensures.value ∙ c.in_ok-text.ensures all.detail all.number all.items ends.described;
      status_is = refl;
    }
