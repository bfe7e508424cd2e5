use Rattle.xbar_office.proofs.LegalRecords.{lawful-after_records}
use Rattle.xbar_office.proofs.laws.legal_records_leave_a_lawful_set.Goals as goal

pub returns : goal.returns
returns c = λ plan records laws legal. lawful-after_records plan records laws legal
