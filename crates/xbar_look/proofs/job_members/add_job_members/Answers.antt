use Rattle.std.proofs.Common.{append_assoc}
use Rattle.xbar_look.specs.Markers.{job_members}
use Rattle.xbar_look.proofs.job_members.add_job_members.Goals as goal

pub returns : goal.returns
unfolding job_members
returns c =
    rw (
      c.in_ok-add_parts.ensures,
      c.in_ok-push_str-4.ensures.bytes,
      c.in_ok-add_effects.ensures,
      c.in_ok-push_str-3.ensures.bytes,
      c.in_ok-add_conn_value.ensures,
      c.in_ok-push_str-2.ensures.bytes,
      c.in_ok-add_array.ensures,
      c.in_ok-push_str.ensures.bytes,
      c.in_ok-add_step_to_make.ensures,
      c.in_ok-write.ensures.bytes,
      c.paths_of.ensures,
      c.decided.ensures,
      c.effects_left.ensures.effects,
      c.requested.ensures,
      c.held.ensures,
      c.next.ensures.step,
      c.turn.ensures,
      c.job.ensures,
      c.job_no.ensures,
      c.program-program.ensures,
    )
    (simp append_assoc)
