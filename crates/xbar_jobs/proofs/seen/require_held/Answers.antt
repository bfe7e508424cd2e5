use Rattle.std.proofs.Common.{◌≡◌, rules}
use Rattle.xbar_jobs.specs.{Closing.value_after, Script.conn_word}
use Rattle.xbar_jobs.proofs.seen.require_held.Goals as goal

pub returns : goal.returns
returns c = λ made.
    let number : conn_word c.args.conn ≡ c.from.result = search rules in
    c.seize.ensures conn_word (value_after made) number
