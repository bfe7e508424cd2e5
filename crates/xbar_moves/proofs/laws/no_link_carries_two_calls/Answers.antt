use Rattle.xbar_moves.proofs.OneCall.{belongs, one_call}
use Rattle.xbar_moves.proofs.laws.no_link_carries_two_calls.Goals as goal

pub returns-clause-belongs : goal.returns-clause-belongs
returns-clause-belongs c = λ plan e c' laws lawful closed. belongs plan laws e lawful c' closed

pub returns-clause-one : goal.returns-clause-one
returns-clause-one c = λ plan e link c' laws lawful closed at. one_call plan laws e lawful link c' closed at
