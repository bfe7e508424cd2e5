use Rattle.std.proofs.Common.{Ok, Err, sym, ap, ◌∙◌, ℕ, Result}
use Rattle.xbar_jobs.{specs.Script.Wanted, proofs.{WalksOnWords.comes, SeenTests.value_seen}}
use Rattle.xbar_jobs.proofs.seen.value_of.Goals as goal

pub returns-in-Ok : goal.returns-in-Ok
returns-in-Ok c =
    ap (λ (value : ℕ). comes (Ok value) c.read.new.seen c.args.words.now) c.made.ensures
    ∙ value_seen c.args.made.now c.args.word c.args.seen.now c.read.new.seen c.args.words.now c.args.words.now (Ok c.in-Ok.value)
    (ap (λ (r : Result ℕ Wanted). comes r c.read.new.seen c.args.words.now) (sym c.in-Ok.is) ∙ c.read.ensures)

pub returns-in-Err : goal.returns-in-Err
returns-in-Err c =
    value_seen c.args.made.now c.args.word c.args.seen.now c.read.new.seen c.args.words.now c.args.words.now (Err c.in-Err.wanted)
    (ap (λ (r : Result ℕ Wanted). comes r c.read.new.seen c.args.words.now) (sym c.in-Err.is) ∙ c.read.ensures)
