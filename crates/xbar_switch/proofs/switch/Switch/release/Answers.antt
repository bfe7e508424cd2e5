use Rattle.std.proofs.Common.{◌^◌, ◌<◌, refl, rules}
use Rattle.xbar_switch.proofs.Fields.{ChangesField-open}
use Rattle.xbar_switch.proofs.switch.Switch.release.Goals as goal

pub returns-clause-ok : goal.returns-clause-ok
returns-clause-ok c =
    let in_word : c.self.inside.word < 2 ^ 64 = search rules in
    rw (← c.self.view_is, c.open_mask.ensures) (record {
      switch = refl;
      field = ChangesField-open c.self.inside.shape c.self.inside.word c.args.v in_word c.requires;
    })
