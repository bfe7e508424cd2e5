use Rattle.xbar_office.proofs.AuditedRecords.{no-fault}
use Rattle.xbar_office.proofs.laws.legal_records_have_no_fault.Goals as goal

pub returns : goal.returns
returns c = λ plan records fault legal is. no-fault plan records fault legal is
