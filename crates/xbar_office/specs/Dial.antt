use Rattle.std.specs.Prelude.{ℕ, Option, Some, None, List, if◌then◌else◌}
use Rattle.xbar_equip.specs.Len.{Line}
use Rattle.xbar_equip.specs.Paths.{has_line, is_idle}
use Rattle.xbar_equip.specs.declared.path.Path.{Path}
use Rattle.xbar_plan.specs.Tables.{Tables, register_group}
use Rattle.xbar_plan.specs.declared.group.Member.{Member}
use Rattle.xbar_office.specs.Done.{Done, refused, tried}
use Rattle.xbar_office.specs.Members.{members_of, first_idle}
use Rattle.xbar_office.specs.TwoTrials.{two_trials}
use Rattle.xbar_office.specs.declared.aim.Aim.TheVariants as aim
use Rattle.xbar_office.specs.declared.reply.End.TheVariants.{LineBusy, RegistersBusy}

-- two trials on the registers, the first on the first idle one
abbrev pub dial_register : Tables → List Path → Line → List Member → Option ℕ → Done
dial_register plan paths line registers None = refused paths RegistersBusy
dial_register plan paths line registers (Some first) =
    tried aim.DialTone paths
    (two_trials plan paths (record { calling = line; called = None }) registers first)

-- a dial tone job: a line that has no path gets an idle register, and a path to it
abbrev pub dial : Tables → List Path → Line → Done
dial plan paths line =
    let registers = members_of plan (register_group plan) in
    if is_idle (has_line line) paths
    then dial_register plan paths line registers (first_idle paths registers)
    else refused paths LineBusy
