use Rattle.std.proofs.Common.{◌≡◌, List, sym, ◌∙◌, ap, subst, arith, take_all}
use Rattle.{xbar_equip.specs.declared.crosspoint.Crosspoint.Crosspoint, xbar_office.{specs.Closed.{closed, NamesFieldsOnce}, proofs.Once.once_closed}}
use Rattle.xbar_office.proofs.office.Office.crosspoints.Goals as goal

pub returns-clause-once : goal.returns-clause-once
returns-clause-once c =
    let paths = c.self.inside.paths.items in
    let all : c.loop-path.all.items ≡ closed paths =
    c.loop-path.invariant ∙ ap closed (take_all _ _ (omega arith) ∙ c.deref-path-items.ensures.value) in
    subst (λ (x : List Crosspoint). NamesFieldsOnce x) (sym all)
    (once_closed paths c.self.invariant.orderly.set c.self.invariant.orderly.apart c.self.invariant.orderly.ranges)
