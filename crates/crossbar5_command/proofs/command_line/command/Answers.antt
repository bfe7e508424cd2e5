use Rattle.std.proofs.Common.{◌≡◌, ◌∙◌, ap, sym, subst, true, List, [], ◌∷◌, MatchResult, IfSome, IsSome}
use Rattle.{std.proofs.lemmas.List.length-map, clap.specs.{Kinds.HasKind, Walk.texts, Words.{App, Text, fault_of, is_simple, is_simple_and_free}}}
use Rattle.clap.specs.{Words.{subcommand_of, takes}, declared.error.kind.ErrorKind.TheVariants.ArgumentConflict}
use Rattle.crossbar5_command.specs.{Ask.IsAnswerTo, Fault.{conflict_of, faults_of}, Program.{program, subcommands}, Subcommand.subcommand_named}
use Rattle.crossbar5_command.specs.declared.{command_line.Ask.Ask, command_fault.CommandFault.TheVariants.Memory}
use Rattle.crossbar5_command.proofs.Answered.{answer_among, answer_asked, answer_named, answer_one_form, answer_passes, answer_read, answer_two_forms}
use Rattle.crossbar5_command.proofs.{Answered.answer_unnamed, FaultKinds.{fault_for-among, fault_for-memory, has_first, of_any_kind, told}}
use Rattle.crossbar5_command.proofs.{OtherWords.{no_subcommand, subcommand_known}, SubcommandWords.{program_is_free, program_is_simple, words_taken}}
use Rattle.crossbar5_command.proofs.command_line.command.Goals as goal

-- ---- clap answered with an error

-- for words that the program takes, memory ran out
memory : (c : goal.After-from_residual-in_err-matches) (P : Ask → Type 0) → takes program (texts c.args.words.now) ≡ true
    → MatchResult c.from_residual-in_err-matches.result P (λ fault. fault ≡ Memory)
memory c P taken =
    let taken_here = ap (λ (a : App). takes a (texts c.args.words.now)) c.in_ok-program.ensures ∙ taken in
    told c.from_residual-in_err-matches.result _ _ _ c.from_residual-in_err-matches.ensures.1
    (fault_for-memory c.in_err-matches.field-0.0 (c.in_err-matches.ensures.passes taken_here))

pub returns-in_err-matches-clause-passes : goal.returns-in_err-matches-clause-passes
returns-in_err-matches-clause-passes c = λ taken no_conflict. memory c _ taken

pub returns-in_err-matches-clause-taken : goal.returns-in_err-matches-clause-taken
returns-in_err-matches-clause-taken c = λ s given asks values one_form. memory c _ (words_taken (texts c.args.words.now) s given asks values)

pub returns-in_err-matches-clause-apart : goal.returns-in_err-matches-clause-apart
returns-in_err-matches-clause-apart c = λ s given asks values two_forms.
    of_any_kind c.from_residual-in_err-matches.result (ArgumentConflict ∷ []) (memory c (λ _. ⊥) (words_taken (texts c.args.words.now) s given asks values))

pub returns-in_err-matches-clause-unnamed : goal.returns-in_err-matches-clause-unnamed
returns-in_err-matches-clause-unnamed c = λ few. memory c _ (no_subcommand (texts c.args.words.now) (rw length-map few)).0

pub returns-in_err-matches-clause-faults : goal.returns-in_err-matches-clause-faults
returns-in_err-matches-clause-faults c =
    let error = c.in_err-matches.field-0.0 in
    let words = texts c.args.words.now in
    let free = ap is_simple_and_free c.in_ok-program.ensures ∙ program_is_free in
    let has = subst (λ (a : App). HasKind (fault_of a words) error) c.in_ok-program.ensures (c.in_err-matches.ensures.kinds free) in
    let among = has_first (fault_of program words) (conflict_of (subcommand_of program words)) error has in
    told c.from_residual-in_err-matches.result _ _ _ c.from_residual-in_err-matches.ensures.1 (fault_for-among (faults_of words) error among)

-- ---- clap found matches

abbrev words_in : goal.Joined-matches → List Text
words_in c = texts c.args.words.now

no_fault : (c : goal.Joined-matches) → fault_of program (words_in c) ≡ []
no_fault c =
    let free = ap is_simple_and_free c.in_ok-program.ensures ∙ program_is_free in
    ap (λ (a : App). fault_of a (words_in c)) (sym c.in_ok-program.ensures) ∙ c.in_ok-matches.ensures.kinds free

answered : (c : goal.Joined-matches) → IsAnswerTo (subcommand_of program (words_in c)) c.ask_of.result
answered c =
    let words = words_in c in
    let met = (c.in_ok-matches.ensures.matches (ap is_simple c.in_ok-program.ensures ∙ program_is_simple)).1
    ∙ ap (λ (a : App). subcommand_of a words) c.in_ok-program.ensures in
    let known = subst (λ met. IfSome met (λ p. IsSome (subcommand_named subcommands p.0))) (sym met) (subcommand_known words (no_fault c)) in
    subst (λ met. IsAnswerTo met c.ask_of.result) met (c.ask_of.ensures known)

pub returns-clause-faults : goal.returns-clause-faults
returns-clause-faults c = answer_among (words_in c) (no_fault c) c.ask_of.result (answered c)

pub returns-clause-matches : goal.returns-clause-matches
returns-clause-matches c = answer_asked (words_in c) (no_fault c) c.ask_of.result (answered c)

pub returns-clause-asked : goal.returns-clause-asked
returns-clause-asked c = answer_read (words_in c) (no_fault c) c.ask_of.result (answered c)

pub returns-clause-only : goal.returns-clause-only
returns-clause-only c = answer_named (words_in c) (no_fault c) c.ask_of.result (answered c)

pub returns-clause-passes : goal.returns-clause-passes
returns-clause-passes c = λ taken. answer_passes (words_in c) (no_fault c) c.ask_of.result (answered c)

pub returns-clause-taken : goal.returns-clause-taken
returns-clause-taken c = λ s given asks values. answer_one_form (words_in c) (no_fault c) c.ask_of.result (answered c) s given asks

pub returns-clause-apart : goal.returns-clause-apart
returns-clause-apart c = λ s given asks values. answer_two_forms (words_in c) (no_fault c) c.ask_of.result (answered c) s given asks

pub returns-clause-unnamed : goal.returns-clause-unnamed
returns-clause-unnamed c = λ few. answer_unnamed (words_in c) (no_fault c) c.ask_of.result (answered c) (rw length-map few)
