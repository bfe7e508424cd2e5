use Rattle.std.proofs.Common.{◌-◌, ◌/◌, ◌%◌, arith}
use Rattle.xbar_jobs.proofs.sides.next_junctor.Goals as goal

pub returns-then-place-lt19 : goal.returns-then-place-lt19
returns-then-place-lt19 c = record {
  frame = c.args.word / 20;
  channel = c.args.word % 20 - 10;
  frame_range = omega arith;
  channel_range = omega arith;
  this = omega arith;
  that = omega arith;
}
