use lib.Utf8.{encode}
use Rattle.crossbar5.proofs.LastEvents.{no_comma}
use Rattle.crossbar5.proofs.looks.without_first_comma.Goals as goal

pub returns-in-None : goal.returns-in-None
unfolding encode
returns-in-None c = no_comma c.args.list.now c.requires c.in-None.ensures.cases
