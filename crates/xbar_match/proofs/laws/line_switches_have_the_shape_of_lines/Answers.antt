use Rattle.xbar_match.proofs.SwitchShapes.{shape_at-line_switch, shape_at-line_junctor, shape_at-trunk_switch, shape_at-trunk_junctor}
use Rattle.xbar_match.proofs.laws.line_switches_have_the_shape_of_lines.Goals as goal

pub returns-clause-line_switch : goal.returns-clause-line_switch
returns-clause-line_switch c = shape_at-line_switch

pub returns-clause-line_junctor : goal.returns-clause-line_junctor
returns-clause-line_junctor c = shape_at-line_junctor

pub returns-clause-trunk_switch : goal.returns-clause-trunk_switch
returns-clause-trunk_switch c = shape_at-trunk_switch

pub returns-clause-trunk_junctor : goal.returns-clause-trunk_junctor
returns-clause-trunk_junctor c = shape_at-trunk_junctor
