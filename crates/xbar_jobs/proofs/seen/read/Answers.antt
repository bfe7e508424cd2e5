use Rattle.std.proofs.Common.{◌≡◌, ℕ, [], rules, ap, ◌∙◌}
use Rattle.{turns.specs.Script.{TestThen, Ends}, xbar_jobs.specs.Script.{conn_word, walk_on_words}}
use Rattle.xbar_jobs.proofs.seen.read.Goals as goal

pub returns : goal.returns
returns c =
    let number : c.from.result ≡ c.args.word = search rules in
    c.test.ensures conn_word
    ∙ ap (λ (n : ℕ). walk_on_words [] (TestThen n Ends) c.args.seen.now c.args.words.now) number
