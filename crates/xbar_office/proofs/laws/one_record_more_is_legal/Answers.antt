use Rattle.xbar_office.proofs.LegalRecords.{legal-empty, legal-one_more, after-one_more}
use Rattle.xbar_office.proofs.laws.one_record_more_is_legal.Goals as goal

pub returns-clause-empty : goal.returns-clause-empty
returns-clause-empty c = λ plan. legal-empty plan

pub returns-clause-legal : goal.returns-clause-legal
returns-clause-legal c = λ plan records last legal is_job turn reply. legal-one_more plan records last legal is_job turn reply

pub returns-clause-after : goal.returns-clause-after
returns-clause-after c = λ plan records last. after-one_more plan records last
