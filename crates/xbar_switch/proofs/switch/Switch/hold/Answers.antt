use Rattle.std.proofs.Common.{◌≡◌, ◌<◌, refl, sym, ◌∙◌}
use Rattle.xbar_switch.{specs.{Shape.places, Field.field_of}, proofs.Fields.ChangesField-close}
use Rattle.xbar_switch.proofs.switch.Switch.hold.Goals as goal

pub returns-clause-ok : goal.returns-clause-ok
returns-clause-ok c =
    let in_range : c.in-Some.h < places c.self.inside.shape = c.self.invariant c.in-Some.h c.in-Some.is in
    let is_open : field_of c.self.inside.shape c.self.inside.word c.args.v ≡ 0 = sym c.field.ensures.value ∙ c.if-field-ne0.false in
    rw (← c.self.view_is, c.close_bits.ensures, c.in-Some.is) (record {
      switch = refl;
      field = ChangesField-close c.self.inside.shape c.self.inside.word c.args.v c.in-Some.h c.requires in_range is_open;
    })
