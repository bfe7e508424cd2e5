use Rattle.std.specs.Prelude.{ℕ, Option, Some, None, List, if◌then◌else◌}
use Rattle.xbar_equip.specs.Dialled.{code_of, number_of}
use Rattle.xbar_equip.specs.Len.{Line}
use Rattle.xbar_equip.specs.Paths.{without_path}
use Rattle.xbar_equip.specs.declared.path.Path.{Path}
use Rattle.xbar_plan.specs.Tables.{Tables, lines_of, route_of}
use Rattle.xbar_office.specs.Done.{Done, refused, tried}
use Rattle.xbar_office.specs.Members.{members_of}
use Rattle.xbar_office.specs.Standing.{register_path}
use Rattle.xbar_office.specs.Trunks.{leads_inside, called_line, idle_trunk}
use Rattle.xbar_office.specs.TwoTrials.{two_trials}
use Rattle.xbar_office.specs.declared.aim.Aim.TheVariants as aim
use Rattle.xbar_office.specs.declared.reply.End.TheVariants.{CalledBusy, TrunksBusy, VacantCode, VacantNumber, NoRegister}
use Rattle.xbar_office.specs.declared.route.IdleTrunk.{IdleTrunk}
use Rattle.xbar_office.specs.declared.trial.Parties.{Parties}

-- two trials on the group of the idle trunk, the first on that member
abbrev pub try_trunk : Tables → List Path → Parties → Option IdleTrunk → Done
try_trunk plan paths parties None = refused paths TrunksBusy
try_trunk plan paths parties (Some trunk) =
    tried aim.Connected paths
    (two_trials plan paths parties (members_of plan trunk.group) trunk.first)

-- the parties are joined by a trunk of the first of these groups that has an idle one
abbrev pub connect : Tables → List Path → Parties → List ℕ → Done
connect plan paths parties groups = try_trunk plan paths parties (idle_trunk plan paths groups)

-- a call to a line of the office, if hunting found one
abbrev pub call_line : Tables → List Path → Line → List ℕ → Option Line → Done
call_line plan paths calling groups None = refused paths CalledBusy
call_line plan paths calling groups (Some called) =
    connect plan paths (record { calling = calling; called = Some called }) groups

-- a call to a directory number of the office, by the number's lines
abbrev pub call_number : Tables → List Path → Line → List ℕ → Option (List Line) → Done
call_number plan paths calling groups None = refused paths VacantNumber
call_number plan paths calling groups (Some lines) =
    call_line plan paths calling groups (called_line paths calling lines)

-- a call, by the groups that its code leads to: the directory number counts only if they are intra
-- groups
abbrev pub call : Tables → List Path → Line → ℕ → Option (List ℕ) → Done
call plan paths calling dialled None = refused paths VacantCode
call plan paths calling dialled (Some groups) =
    if leads_inside plan groups
    then call_number plan paths calling groups (lines_of plan (number_of dialled))
    else connect plan paths (record { calling = calling; called = None }) groups

-- a line that has a register frees it first, and its call is decided on the set without the
-- register's path
abbrev pub complete_from : Tables → List Path → Line → ℕ → Option Path → Done
complete_from plan paths line dialled None = refused paths NoRegister
complete_from plan paths line dialled (Some own) =
    call plan (without_path paths own) line dialled (route_of plan (code_of dialled))

-- a completing job: a line that has a register is connected to what it dialled
abbrev pub complete : Tables → List Path → Line → ℕ → Done
complete plan paths line dialled =
    complete_from plan paths line dialled (register_path plan paths line)
