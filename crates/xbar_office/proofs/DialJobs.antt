-- what a dial tone job adds to a set
use Rattle.std.proofs.Common.{◌≡◌, ℕ, Bool, true, false, List, length, refl, ◌∙◌, Option, Some, None, is_some, if◌then◌else◌}
use Rattle.xbar_equip.{specs.{First.IsFirstBelow, Len.{Line, IsLine}, Paths.{has_line, is_idle}, declared.path.Path.Path}, proofs.FirstNumber.first_below-law}
use Rattle.xbar_plan.specs.{Group.kind_eq, Tables.{Tables, member_at, register_group}, Lawful.IsLawful, declared.group.GroupKind.GroupKind}
use Rattle.xbar_plan.{specs.declared.group.{GroupKind.TheVariants.{Register, Intra, Outgoing}, Member.Member}, proofs.LawfulPlans.member-paired}
use Rattle.{xbar_plan.proofs.LawfulLookups.register_group-is, xbar_office.specs.{Dial.{dial, dial_register}, Done.refused, Members.{members_of, is_idle_at}}}
use Rattle.xbar_office.specs.{Members.first_idle, TwoTrials.two_trials, declared.{reply.End.TheVariants.{LineBusy, RegistersBusy}, trial.Parties.Parties}}
use Rattle.xbar_office.proofs.{GoodTrials.{AreParties, GoodChoice, good_trials}, AddedByEnd.{AddsPaths, refused-adds, dial_tone-adds}}

not_intra : (kind : GroupKind) → kind_eq kind Register ≡ true → kind_eq kind Intra ≡ false
not_intra Register e = refl
not_intra Intra e = cc
not_intra Outgoing e = refl

-- a register has one place
pub single_register : (plan : Tables) → IsLawful plan → (i : ℕ) (member : Member) → member_at plan (register_group plan) i ≡ Some member
    → is_some member.second ≡ false
single_register plan laws i member listed =
    let group = register_group-is plan laws in
    member-paired plan laws (register_group plan) i group.0 member group.1 listed ∙ not_intra group.0.kind group.2

module _ (plan : Tables) (paths : List Path) (line : Line) (laws : IsLawful plan) (in_range : IsLine line)
    (line_idle : is_idle (has_line line) paths ≡ true) where
  -- the line without a called line
  abbrev pub alone : Parties
  alone = record { calling = line; called = None }

  abbrev pub registers : List Member
  registers = members_of plan (register_group plan)

  -- it fits the registers
  pub are_parties : AreParties plan paths (register_group plan) alone
  are_parties = record {
    calling = in_range;
    calling_idle = line_idle;
    called = λ other is. cc;
    called_idle = λ other is. cc;
    apart = λ other is. cc;
    paired = single_register plan laws;
  }

  -- what its trials choose can be added to the set
  pub good_registers : (first : ℕ) → is_idle_at paths registers first ≡ true
      → GoodChoice plan paths (register_group plan) (two_trials plan paths alone registers first).choice
  good_registers first idle = good_trials plan paths (register_group plan) alone laws are_parties first idle

  register_adds : (found : Option ℕ) → IsFirstBelow (is_idle_at paths registers) (length registers) found
      → AddsPaths plan paths (dial_register plan paths line registers found)
  register_adds None none = refused-adds plan paths RegistersBusy refl
  register_adds (Some first) is =
      dial_tone-adds plan paths (register_group plan) (two_trials plan paths alone registers first) laws (good_registers first is.1) (single_register plan laws)

-- a dial tone job adds the path of its end
pub dial-adds : (plan : Tables) (paths : List Path) (line : Line) → IsLawful plan → IsLine line → AddsPaths plan paths (dial plan paths line)
dial-adds plan paths line laws in_range = of (is_idle (has_line line) paths) refl where
  of : (b : Bool) → is_idle (has_line line) paths ≡ b
      → AddsPaths plan paths (if b then dial_register plan paths line (members_of plan (register_group plan))
      (first_idle paths (members_of plan (register_group plan))) else refused paths LineBusy)
  of false e = refused-adds plan paths LineBusy refl
  of true e =
      let registers = members_of plan (register_group plan) in
      register_adds plan paths line laws in_range e (first_idle paths registers) (first_below-law (is_idle_at paths registers) (length registers))
