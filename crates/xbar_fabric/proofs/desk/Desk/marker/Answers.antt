use Rattle.std.proofs.Common.{subst}
use Rattle.xbar_fabric.{specs.Histories.IsHistory, proofs.Offices.is_history}
use Rattle.xbar_fabric.proofs.desk.Desk.marker.Goals as goal

pub returns-clause-history : goal.returns-clause-history
returns-clause-history c =
    subst (λ d. IsHistory d.plan d.seen) c.self.view_is (is_history c.self.inside.desk.setting c.self.inside.desk.seen c.number.ensures.legal)
