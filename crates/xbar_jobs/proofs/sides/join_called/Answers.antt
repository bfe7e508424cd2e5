use Rattle.std.proofs.Common.{◌≡◌, rules, subst, sym}
use Rattle.xbar_jobs.{specs.{Closing.path_closes, Keeping.AreEffects}, proofs.EffectRanges.closes_range}
use Rattle.xbar_jobs.proofs.sides.join_called.Goals as goal

pub after-requires : goal.after-requires
after-requires c =
    let closes : c.as_slice-closes.result.now ≡ path_closes c.args.calling.now = search rules in
    subst AreEffects (sym closes) (closes_range c.args.calling.now c.close_path.ensures.range)

pub after-requires-2 : goal.after-requires-2
after-requires-2 c =
    let closes : c.as_slice-closes.result.now ≡ path_closes c.args.calling.now = search rules in
    subst AreEffects (sym closes) (closes_range c.args.calling.now c.close_path.ensures.range)
