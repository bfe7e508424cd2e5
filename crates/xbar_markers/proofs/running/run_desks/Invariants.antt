use Rattle.xbar_markers.proofs.running.run_desks.Given as goal

abbrev pub ghosts-run_on : goal.ghosts-run_on
ghosts-run_on g a = record { table = a.fabric.now.table }
