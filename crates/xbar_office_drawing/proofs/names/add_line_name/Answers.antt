use Rattle.std.proofs.Common.{◌≡◌, true, None, nat_lt, sym, ◌∙◌, append-nil, lt-ltb}
use Rattle.xbar_office_drawing.specs.Names.{first_number, line_name}
use Rattle.xbar_office_drawing.proofs.names.add_line_name.Goals as goal

pub returns-in_ok-add_shape-in-None : goal.returns-in_ok-add_shape-in-None
unfolding line_name
returns-in_ok-add_shape-in-None c =
    let small : nat_lt c.args.column 4 ≡ true = lt-ltb c.args.column 4 c.if-column-ge4.false in
    let none : first_number c.args.plan.now c.args.path.now.line ≡ None = sym c.first_number.ensures ∙ c.in-None.is in
    rw (
      c.in_ok-add_shape-in-None.ensures,
      c.as_str-in-None.ensures.value,
      c.in_ok-name-in-None.ensures.ok,
      c.name_level-height.ensures,
      c.frame.ensures.value,
      c.switch.ensures.value,
      small,
      none,
    )
    (simp append-nil)
