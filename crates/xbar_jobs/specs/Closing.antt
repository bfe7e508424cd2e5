use Rattle.std.specs.Prelude.{◌≡◌, ℕ, ◌-◌, ◌^◌, Option, Some, None, List, [], ◌∷◌, ◌++◌, map, option_map}
use Rattle.std.specs.Option.{option_map_or}
use Rattle.std.specs.Int.{bit_at}
use Rattle.xbar_equip.specs.Crosspoint.{crosspoints}
use Rattle.xbar_equip.specs.Word.{GroupWord, word_number}
use Rattle.xbar_equip.specs.declared.path.Path.{Path}
use Rattle.xbar_switch.specs.Field.{close_bits_of, field_of, open_mask_of}
use Rattle.xbar_match.specs.Switches.{shape_at}
use Rattle.xbar_plan.specs.declared.group.MemberPlace.{MemberPlace}
use Rattle.xbar_office.specs.Replies.{plain_reply, trials_reply}
use Rattle.xbar_office.specs.declared.aim.Aim.{Aim}
use Rattle.xbar_office.specs.declared.reply.End.{End}
use Rattle.xbar_office.specs.declared.reply.End.TheVariants.{Released}
use Rattle.xbar_office.specs.declared.trial.Choice.{Choice}
use Rattle.xbar_office.specs.declared.trial.Trials.{Trials}
use Rattle.turns.specs.Operations.{applied}
use Rattle.turns.specs.System.{fold_effects}
use Rattle.turns.specs.declared.operation.Operation.{Operation}
use Rattle.turns.specs.declared.operation.Operation.TheVariants.{Or, And}
use Rattle.xbar_jobs.specs.declared.decision.Decision.{Decision}
use Rattle.xbar_jobs.specs.declared.decision.Leave.{Leave}
use Rattle.xbar_jobs.specs.declared.decision.Take.{Take}
use Rattle.xbar_jobs.specs.declared.effect.Effect.{Effect}
use Rattle.xbar_jobs.specs.declared.effect.Effect.TheVariants.{Close, Open, SetBit, ClearBit}

-- the decision to let nothing go and take nothing
abbrev pub refused : End → Decision
refused end = record { reply = plain_reply end; leave = None; take = None }

-- the member of a group that a trial chose, with its paths
abbrev pub take_of : ℕ → Choice → Take
take_of number choice = record { group = number; index = choice.index; paths = choice.paths }

-- the decision after two trials: to take the member and the paths that they chose, if they chose
-- any
abbrev pub tried : Aim → ℕ → Trials → Decision
tried aim number trials = record {
  reply = trials_reply aim trials;
  leave = None;
  take = option_map (take_of number) trials.choice;
}

-- a member of the plan to let go, with the path that ends there and the other party's
abbrev pub leave_of : Path → Option Path → MemberPlace → Leave
leave_of own other found = record {
  group = found.group;
  index = found.index;
  own = own;
  other = other;
}

-- the decision to let a call go and take nothing
abbrev pub released : Leave → Decision
released leave = record {
  reply = plain_reply (Released leave.own leave.other);
  leave = Some leave;
  take = None;
}

-- the same decision, with a register to let go first
abbrev pub leaving : Leave → Decision → Decision
leaving leave decision = record decision { leave = Some leave }

-- the closes of a path's four crosspoints, in their order
abbrev pub path_closes : Path → List Effect
path_closes path = map Close (crosspoints path)

-- the closes of the called path, if there is one
abbrev pub called_closes : Option Path → List Effect
called_closes None = []
called_closes (Some path) = path_closes path

-- the effects of taking: the calling path is closed, the called path, and then the member's bit is
-- set
abbrev pub take_effects : Take → List Effect
take_effects take =
    path_closes take.paths.calling ++ called_closes take.paths.called
    ++ SetBit take.group take.index ∷ []

-- the opens of a path's four crosspoints, in their order
abbrev pub path_opens : Path → List Effect
path_opens path = map Open (crosspoints path)

-- the opens of the other party's path, if there is one
abbrev pub other_opens : Option Path → List Effect
other_opens None = []
other_opens (Some path) = path_opens path

-- the effects of letting go: the own path is opened, the other party's, and then the member's bit
-- is cleared
abbrev pub leave_effects : Leave → List Effect
leave_effects leave =
    path_opens leave.own ++ other_opens leave.other ++ ClearBit leave.group leave.index ∷ []

-- the effects of a decision, in their order: what is let go comes before what is taken
abbrev pub effects : Decision → List Effect
effects decision =
    option_map_or leave_effects decision.leave [] ++ option_map_or take_effects decision.take []

-- the word that an effect changes
abbrev pub effect_word : Effect → ℕ
effect_word (Close c) = c.word
effect_word (Open c) = c.word
effect_word (SetBit number index) = word_number (GroupWord number)
effect_word (ClearBit number index) = word_number (GroupWord number)

-- the operation that makes an effect on its word
abbrev pub operation_of : Effect → Operation
operation_of (Close c) = Or (close_bits_of (shape_at c.word) c.field (c.value - 1))
operation_of (Open c) = And (open_mask_of (shape_at c.word) c.field)
operation_of (SetBit number index) = Or (2 ^ index)
operation_of (ClearBit number index) = And (2 ^ 64 - 1 - 2 ^ index)

-- the value that an effect leaves in its word, by the value that it finds there
abbrev pub effect_on : Effect → ℕ → ℕ
effect_on effect word = applied (operation_of effect) word

-- the value of a word after effects are made one after another
abbrev pub value_after : List Effect → ℕ → ℕ → ℕ
value_after effects word value = fold_effects effect_word effect_on effects word value

-- an effect is due on its word: the field that it closes is open and the one that it opens is
-- closed, the bit that it sets is 0 and the one that it clears is 1
abbrev pub IsDue : Effect → ℕ → Type 0
IsDue (Close c) word = field_of (shape_at c.word) word c.field ≡ 0
IsDue (Open c) word = field_of (shape_at c.word) word c.field ≡ c.value
IsDue (SetBit number index) word = bit_at word index ≡ 0
IsDue (ClearBit number index) word = bit_at word index ≡ 1
