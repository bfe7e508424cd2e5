use Rattle.std.proofs.Common.{Ok, option_map}
use Rattle.crossbar5_cli.proofs.Answering.{done_ask}
use Rattle.crossbar5_cli.proofs.asked.run_words.Goals as goal

pub returns-in-Ok : goal.returns-in-Ok
returns-in-Ok g c = record {
  asked = Ok c.in-Ok.ask;
  read = record {
    named = c.in-Ok.ensures.asked;
    found = c.in-Ok.ensures.matches;
    taken = c.in-Ok.ensures.passes;
    faults = c.in-Ok.ensures.faults;
  };
  does = done_ask c.in-Ok.ask _ _ _ c.finish.result.ending c.do_as_asked-ended.result.ending c.finish.result.is_printed
      (option_map (λ lines. lines.items) c.do_as_asked-ended.result.reasons) c.do_as_asked-ended.result.sentence
      c.finish.ensures.ending c.do_as_asked-ended.ensures.ends c.do_as_asked-ended.ensures.may
      c.do_as_asked-ended.ensures.no_failure c.do_as_asked-ended.ensures.unread
      c.finish.ensures.printed c.finish.ensures.unprinted;
}
