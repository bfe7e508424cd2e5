use Rattle.std.specs.Prelude.{ℕ, List, [], ◌∷◌, codes, decimal}
use Rattle.xbar_equip.specs.Dialled.{dialled_text}
use Rattle.xbar_equip.specs.Len.{line_text}
use Rattle.xbar_equip.specs.Path.{path_text}
use Rattle.xbar_office.specs.declared.job.Job.{Job}
use Rattle.xbar_office.specs.declared.job.Job.TheVariants.{Dial, Complete, Release}
use Rattle.xbar_office.specs.declared.reply.End.{End}
use Rattle.xbar_office.specs.declared.reply.End.TheVariants.{DialTone, Connected, Released, CalledBusy, LineBusy, RegistersBusy, TrunksBusy, NoPath, Trouble, VacantCode, VacantNumber, NoRegister, NoCall}
use Rattle.xbar_report.specs.Text.{nothing, path_field}

-- the first field of a job: its kind
abbrev pub job_kind : Job → List ℕ
job_kind (Dial line) = codes "D"
job_kind (Complete line dialled) = codes "C"
job_kind (Release line) = codes "R"

-- the second field of a job: its line
abbrev pub job_line : Job → List ℕ
job_line (Dial line) = line_text line
job_line (Complete line dialled) = line_text line
job_line (Release line) = line_text line

-- the third field of a job: what was dialled
abbrev pub job_dialled : Job → List ℕ
job_dialled (Dial line) = nothing
job_dialled (Complete line dialled) = dialled_text dialled
job_dialled (Release line) = nothing

-- the first field of an end: its name
abbrev pub end_name : End → List ℕ
end_name (DialTone path trial) = codes "DIALTONE"
end_name (Connected calling called trial) = codes "CONNECTED"
end_name (Released own other) = codes "RELEASED"
end_name CalledBusy = codes "CALLEDBUSY"
end_name LineBusy = codes "LINEBUSY"
end_name RegistersBusy = codes "REGISTERSBUSY"
end_name TrunksBusy = codes "TRUNKSBUSY"
end_name NoPath = codes "NOPATH"
end_name Trouble = codes "TROUBLE"
end_name VacantCode = codes "VACANTCODE"
end_name VacantNumber = codes "VACANTNUMBER"
end_name NoRegister = codes "NOREGISTER"
end_name NoCall = codes "NOCALL"

-- the second field of an end: its trial
abbrev pub end_trial : End → List ℕ
end_trial (DialTone path trial) = decimal trial
end_trial (Connected calling called trial) = decimal trial
end_trial _ = nothing

-- the third field of an end: its first path
abbrev pub end_first : End → List ℕ
end_first (DialTone path trial) = path_text path
end_first (Connected calling called trial) = path_text calling
end_first (Released own other) = path_text own
end_first _ = nothing

-- the fourth field of an end: its second path
abbrev pub end_second : End → List ℕ
end_second (Connected calling called trial) = path_field called
end_second (Released own other) = path_field other
end_second _ = nothing

-- the ends that have neither a trial nor a path
abbrev pub plain_ends : List End
plain_ends =
    CalledBusy ∷ LineBusy ∷ RegistersBusy ∷ TrunksBusy ∷ NoPath ∷ Trouble ∷ VacantCode
    ∷ VacantNumber ∷ NoRegister ∷ NoCall ∷ []
