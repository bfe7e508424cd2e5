use Rattle.benches.proofs.bank_threads.with_work.ScriptsWithWorkScripts22.first.Goals as goal

pub returns : goal.returns
returns c = λ bank. c.first.ensures bank.opening
