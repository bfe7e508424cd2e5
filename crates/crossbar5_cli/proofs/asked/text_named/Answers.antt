use Rattle.std.proofs.Common.{Err, Global, Ok, Vec, ℕ}
use Rattle.crossbar5_cli.proofs.Answering.{fault_in, text_in}
use Rattle.crossbar5_cli.proofs.asked.text_named.Goals as goal

pub returns-in-Ok-clause-named : goal.returns-in-Ok-clause-named
returns-in-Ok-clause-named g c =
    text_in (λ text. text.items) (g.S.System.Opens c.args.system.now) (λ it. g.S.File.Read.remaining it) (λ it. g.S.File.Source.failure_count it)
    (λ it. g.S.File.Source.read_count it)
    c.args.file c.in-Some.name c.in-Some.is c.open.result (Ok c.in-Ok.text)
    c.open.ensures c.in-Ok.ensures.text c.in-Ok.ensures.refused

pub returns-in-Err-clause-refused : goal.returns-in-Err-clause-refused
returns-in-Err-clause-refused g c =
    fault_in {Text = Vec ℕ Global} (λ text. text.items) (g.S.System.Opens c.args.system.now) (λ it. g.S.File.Read.remaining it)
    (λ it. g.S.File.Source.failure_count it) (λ it. g.S.File.Source.read_count it)
    c.args.file c.in-Some.name c.in-Some.is c.open.result (Err c.in-Err.fault)
    c.open.ensures c.in-Err.ensures.refused c.in-Err.ensures.failed
