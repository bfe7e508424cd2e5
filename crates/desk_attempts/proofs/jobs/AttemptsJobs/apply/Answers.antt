use Rattle.desk_attempts.proofs.jobs.AttemptsJobs.apply.Goals as goal

pub apply_found-requires : goal.apply_found-requires
apply_found-requires g c = (
  search,
  (
    c.requires.actor,
    record {
      setting = c.requires.valid.0;
      scripts = g.met.S.InRoom.are_scripts c.args.setting.now c.requires.valid.0;
      valid = c.requires.valid.1;
    },
  ),
)
