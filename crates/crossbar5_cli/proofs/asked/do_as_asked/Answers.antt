use Rattle.std.proofs.Common.{inl, inr, refl, rules}
use Rattle.crossbar5_cli.proofs.asked.do_as_asked.Goals as goal

pub returns-in-Some-clause-ends : goal.returns-in-Some-clause-ends
returns-in-Some-clause-ends g c = inr (record {
  work = c.in-Some.work;
  checked = c.in-Some.ensures.checked;
  file = c.file_of.result;
  file_is = c.file_of.ensures;
  ends = c.perform.ensures.ends;
})

pub returns-in-None-clause-ends : goal.returns-in-None-clause-ends
returns-in-None-clause-ends g c = inl (record {
  refused = c.new.ensures.refused.0 c.in-None.is;
  ending_is = c.of_refused_markers.ensures.ending;
  reasons_are = search rules;
  sentence_is = c.of_refused_markers.ensures.sentence;
  unread = refl;
  unwritten = refl;
})
