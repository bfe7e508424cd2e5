use Rattle.{desks.specs.Met.HasSeenAllTurns, turns.specs.System.system_of}
use Rattle.desks.proofs.meeting.load_turn_word.Given as goal

abbrev pub ghosts-load : goal.ghosts-load
ghosts-load g a = record { then = λ before found after. HasSeenAllTurns (system_of (g.F.Jobs.system a.setting.now)) before found after }
