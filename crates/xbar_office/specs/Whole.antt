use Rattle.std.specs.Prelude.{List}
use Rattle.xbar_equip.specs.declared.path.Path.{Path}
use Rattle.xbar_plan.specs.Tables.{Tables}
use Rattle.xbar_office.specs.Complete.{complete}
use Rattle.xbar_office.specs.Dial.{dial}
use Rattle.xbar_office.specs.Done.{Done}
use Rattle.xbar_office.specs.Release.{release}
use Rattle.xbar_office.specs.declared.job.Job.{Job}
use Rattle.xbar_office.specs.declared.job.Job.TheVariants.{Dial, Complete, Release}

-- a job done whole by the one-marker office
abbrev pub whole : Tables → List Path → Job → Done
whole plan paths (Dial line) = dial plan paths line
whole plan paths (Complete line dialled) = complete plan paths line dialled
whole plan paths (Release line) = release plan paths line
