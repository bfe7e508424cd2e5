use Rattle.desk_attempts.proofs.jobs.AttemptsJobs.begin_next.Goals as goal

pub returns-clause-begins : goal.returns-clause-begins
returns-clause-begins g c = c.begin_next_now.ensures.begins (g.S.InRoom.kept c.args._setting.now)

pub returns-clause-valid : goal.returns-clause-valid
returns-clause-valid g c = (
  c.requires.setting,
  c.begin_next_now.ensures.valid (g.S.InRoom.kept c.args._setting.now) (g.met.S.InRoom.are_scripts (g.S.InRoom.kept c.args._setting.now) c.requires.setting)
      c.requires.job,
)
