use Rattle.std.proofs.Common.{ℕ}
use Rattle.xbar_equip.{specs.{Path.path_by, Paths.{has_idle_links, channel_in_turn}, First.first_below}, proofs.FirstNumber.{first_below-law, in_turn-law}}
use Rattle.xbar_equip.proofs.laws.channel_test_finds_the_first_idle_channel.Goals as goal

pub returns : goal.returns
returns c = λ paths line place start.
    let test = λ (k : ℕ). has_idle_links paths (path_by line place (channel_in_turn start k)) in
    in_turn-law test (channel_in_turn start) (first_below test 10) (first_below-law test 10)
