use Rattle.std.proofs.Common.{◌≡◌, rules, None, sym, subst, Option, IfSome}
use Rattle.{xbar_equip.specs.{Path.IsPath, declared.path.Path.Path}, xbar_jobs.proofs.EffectRanges.leave_range}
use Rattle.xbar_jobs.proofs.decision.Leave.add_effects.Goals.{in-Some, in_default}
use Rattle.xbar_jobs.proofs.decision.Leave.add_effects.Goals as goal

pub returns-clause-range : goal.returns-clause-range
returns-clause-range c =
    let other : IfSome c.args.self.now.other IsPath = elim c.match-self.branch [
      | in-Some w ↦ subst (λ (o : Option Path). IfSome o IsPath) (sym w.in-Some.is) w.open_path-in-Some.ensures.range
      | in_default w ↦ let none : c.args.self.now.other ≡ None = search rules in subst (λ (o : Option Path). IfSome o IsPath) (sym none) tt
    ] in
    leave_range c.args.self.now c.open_path.ensures.range other
