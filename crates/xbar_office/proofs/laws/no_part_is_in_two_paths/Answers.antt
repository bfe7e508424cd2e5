use Rattle.std.proofs.Common.{[]}
use Rattle.xbar_office.proofs.{LawfulJobs.{lawful-empty, lawful-after}, LegalRecords.lawful-after_records}
use Rattle.xbar_office.proofs.laws.no_part_is_in_two_paths.Goals as goal

pub returns-clause-set : goal.returns-clause-set
returns-clause-set c = λ plan paths lawful. lawful.orderly.apart

pub returns-clause-jobs : goal.returns-clause-jobs
returns-clause-jobs c = λ plan jobs laws in_range. (lawful-after plan laws jobs [] (lawful-empty plan) in_range).orderly.apart

pub returns-clause-records : goal.returns-clause-records
returns-clause-records c = λ plan records laws legal. (lawful-after_records plan records laws legal).orderly.apart
