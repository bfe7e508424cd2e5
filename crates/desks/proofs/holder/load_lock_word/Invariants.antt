use Rattle.{desks.specs.Holders.HasLoaded, turns.specs.System.system_of}
use Rattle.desks.proofs.holder.load_lock_word.Given as goal

abbrev pub ghosts-load : goal.ghosts-load
ghosts-load g a = record { then = λ before found after. HasLoaded (system_of (g.F.Jobs.system a.setting.now)) a.shared.now.key.count a.word before found after }
