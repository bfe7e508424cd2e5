use Rattle.std.proofs.Common.{◌≡◌, ℕ, ◌+◌, ◌*◌, ◌%◌, ◌<◌, ◌≤◌, Bool, nat_lt, if◌then◌else◌, ap, arith, lt-ltb, le-ltb}
use Rattle.{std.proofs.lemmas.Bool.{and_left, and_right}, xbar_equip.proofs.Logic.both_hold}
use Rattle.{xbar_switch.specs.declared.shape.Shape.{Shape, TheVariants.{Line, Other}}, xbar_match.specs.Switches.shape_at}

abbrev by_test : Bool → Shape
by_test first = if first then Line else Other

-- the shape of each kind of switch
pub shape_at-line_switch : (frame switch : ℕ) → frame < 10 → switch < 10 → shape_at (20 * frame + switch) ≡ Line
unfolding shape_at
shape_at-line_switch frame switch in_frame in_switch =
    ap by_test (both_hold (nat_lt (20 * frame + switch) 200) (nat_lt ((20 * frame + switch) % 20) 10) (lt-ltb _ _ (omega arith)) (lt-ltb _ _ (omega arith)))

pub shape_at-line_junctor : (frame channel : ℕ) → frame < 10 → channel < 10 → shape_at (20 * frame + 10 + channel) ≡ Other
unfolding shape_at
shape_at-line_junctor frame channel in_frame in_channel =
    ap by_test (and_right (nat_lt (20 * frame + 10 + channel) 200) (nat_lt ((20 * frame + 10 + channel) % 20) 10) (le-ltb _ _ (omega arith)))

pub shape_at-trunk_side : (n : ℕ) → 200 ≤ n → shape_at n ≡ Other
unfolding shape_at
shape_at-trunk_side n from = ap by_test (and_left (nat_lt n 200) (nat_lt (n % 20) 10) (le-ltb _ _ from))

pub shape_at-trunk_switch : (frame switch : ℕ) → shape_at (200 + 20 * frame + switch) ≡ Other
shape_at-trunk_switch frame switch = shape_at-trunk_side (200 + 20 * frame + switch) (omega arith)

pub shape_at-trunk_junctor : (frame channel : ℕ) → shape_at (200 + 20 * frame + 10 + channel) ≡ Other
shape_at-trunk_junctor frame channel = shape_at-trunk_side (200 + 20 * frame + 10 + channel) (omega arith)

pub ruleset switch_shapes = (shape_at-line_switch, shape_at-line_junctor, shape_at-trunk_switch, shape_at-trunk_junctor)
