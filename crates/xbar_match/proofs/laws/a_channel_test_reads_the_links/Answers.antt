use Rattle.xbar_match.proofs.OpenChannels.{shows_links-shown}
use Rattle.xbar_match.proofs.laws.a_channel_test_reads_the_links.Goals as goal

pub returns : goal.returns
returns c = shows_links-shown
