use Rattle.desk_attempts.proofs.jobs.AttemptsJobs.restart.Goals as goal

pub returns-clause-restarts : goal.returns-clause-restarts
returns-clause-restarts g c = c.restart_now.ensures.restarts c.args.setting.now

pub returns-clause-valid : goal.returns-clause-valid
returns-clause-valid g c =
    (c.requires.0, c.restart_now.ensures.valid c.args.setting.now (g.met.S.InRoom.are_scripts c.args.setting.now c.requires.0) c.requires.1)
