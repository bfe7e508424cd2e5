-- What is answered to words that clap accepts.
use Rattle.std.proofs.Common.{◌≡◌, ◌∙◌, ◌≤◌, ◌<◌, ap, arith, refl, sym, subst, cond, Bool, true, false, List, [], ◌∷◌, ℕ, Result, Ok, Err, IfErr, IfOk}
use Rattle.std.proofs.Common.{IsErrAnd, MatchResult, nat_lt, length, le-ltb, lt-ltb}
use Rattle.clap.specs.{Kinds.or_else, Words.{Kinds, Text, fault_of, subcommand_of}, declared.error.kind.ErrorKind.TheVariants.ArgumentConflict}
use Rattle.crossbar5_command.specs.{Ask.{IsAnswerTo, IsAskOf, IsAskWith, IsUnnamedAsk, name_of}, Fault.{IsFaultAmong, conflict_of, faults_of, form_count}}
use Rattle.crossbar5_command.specs.{Program.{program, replay, subcommands}, Subcommand.{AskFor, GivenOption, NamesOnly, Subcommand, value_of}}
use Rattle.crossbar5_command.specs.declared.{command_line.Ask.Ask, command_fault.CommandFault.{CommandFault, TheVariants.Memory}}
use Rattle.crossbar5_command.proofs.{FaultKinds.among_none, OtherWords.{names_only, no_subcommand}, SubcommandWords.{words_conflict, words_read}}

-- an answer with the ask, or with a fault among these kinds
abbrev Answers : (Ask → Type 0) → Kinds → Result Ask CommandFault → Type 0
Answers IsAsked kinds answer = MatchResult answer (λ ask. IsAsked ask × (kinds ≡ [])) (IsFaultAmong kinds)

-- without a kind of fault, only memory can run out
no_kinds : (IsAsked : Ask → Type 0) (kinds : Kinds) (answer : Result Ask CommandFault) → Answers IsAsked kinds answer → kinds ≡ []
    → MatchResult answer IsAsked (λ fault. fault ≡ Memory)
no_kinds IsAsked kinds (Ok ask) is none = is.0
no_kinds IsAsked kinds (Err fault) is none = among_none fault (subst (λ ks. IsFaultAmong ks fault) none is)

if_err : (P : Ask → Type 0) (Q : CommandFault → Type 0) (answer : Result Ask CommandFault) → MatchResult answer P Q → IfErr answer Q
if_err P Q (Ok ask) is = tt
if_err P Q (Err fault) is = is

-- with one, it is refused
some_kinds : (IsAsked : Ask → Type 0) (kinds : Kinds) (answer : Result Ask CommandFault) → Answers IsAsked kinds answer → (kinds ≡ [] → ⊥)
    → IsErrAnd answer (IsFaultAmong kinds)
some_kinds IsAsked kinds (Ok ask) is some = some is.1
some_kinds IsAsked kinds (Err fault) is some = is

module _ (words : List Text) (none : fault_of program words ≡ []) (answer : Result Ask CommandFault)
    (is : IsAnswerTo (subcommand_of program words) answer) where
  pub answer_asked : IfOk answer (IsAskOf (subcommand_of program words))
  answer_asked = go answer is
    where
      go : (answer : Result Ask CommandFault) → IsAnswerTo (subcommand_of program words) answer → IfOk answer (IsAskOf (subcommand_of program words))
      go (Ok ask) is = is.0
      go (Err fault) is = tt

  -- what holds of each ask for what clap found holds of the answer
  with_asked : (P : Ask → Type 0) → ((ask : Ask) → IsAskOf (subcommand_of program words) ask → P ask) → IfOk answer P
  with_asked P holds = go answer answer_asked
    where
      go : (answer : Result Ask CommandFault) → IfOk answer (IsAskOf (subcommand_of program words)) → IfOk answer P
      go (Ok ask) asked = holds ask asked
      go (Err fault) asked = tt

  pub answer_read : (s : Subcommand) (given : List GivenOption) → AskFor subcommands words s given
      → IfOk answer (IsAskWith s.name (value_of s.options given))
  answer_read s given asks = with_asked _ (λ ask. words_read words s given ask asks none)

  pub answer_named : IfOk answer (λ ask. NamesOnly replay.name (name_of ask) words)
  answer_named = with_asked _ (λ ask. names_only words ask none)

  pub answer_passes : conflict_of (subcommand_of program words) ≡ [] → IfErr answer (λ fault. fault ≡ Memory)
  answer_passes no_conflict = if_err _ _ answer (no_kinds _ _ answer is no_conflict)

  pub answer_unnamed : length words ≤ 1 → MatchResult answer IsUnnamedAsk (λ fault. fault ≡ Memory)
  answer_unnamed few =
      no_kinds IsUnnamedAsk [] answer (subst (λ met. IsAnswerTo met answer) (no_subcommand words few).1 is) refl

  pub answer_among : MatchResult answer (λ _. faults_of words ≡ []) (IsFaultAmong (faults_of words))
  answer_among = go answer is
    where
      same : faults_of words ≡ conflict_of (subcommand_of program words)
      same = ap (λ first. or_else first (conflict_of (subcommand_of program words))) none

      go : (answer : Result Ask CommandFault) → IsAnswerTo (subcommand_of program words) answer
          → MatchResult answer (λ _. faults_of words ≡ []) (IsFaultAmong (faults_of words))
      go (Ok ask) is = same ∙ is.1
      go (Err fault) is = subst (λ kinds. IsFaultAmong kinds fault) (sym same) is

  -- ---- one form, or two
  module _ (s : Subcommand) (given : List GivenOption) (asks : AskFor subcommands words s given) where
    abbrev count : ℕ
    count = form_count s.options (value_of s.options given)

    conflict : (many : Bool) → nat_lt 1 count ≡ many → conflict_of (subcommand_of program words) ≡ cond many (ArgumentConflict ∷ []) []
    conflict many is = words_conflict words s given asks none ∙ ap (λ b. cond b (ArgumentConflict ∷ []) []) is

    pub answer_one_form : count ≤ 1 → IfErr answer (λ fault. fault ≡ Memory)
    answer_one_form few = answer_passes (conflict false (le-ltb 1 count few))

    pub answer_two_forms : 1 < count → IsErrAnd answer (IsFaultAmong (ArgumentConflict ∷ []))
    answer_two_forms many =
        let both = conflict true (lt-ltb 1 count many) in
        subst (λ kinds. IsErrAnd answer (IsFaultAmong kinds)) both
        (some_kinds _ _ answer is (λ no_conflict. let bad : 1 ≡ 0 = ap length (sym both ∙ no_conflict) in absurd (omega arith)))
