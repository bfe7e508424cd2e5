-- What is asked by the matches of a subcommand.
use Rattle.std.proofs.Common.{◌≡◌, ◌∙◌, ap, refl, sym, subst, cond, Bool, true, false, true≢false, List, [], ◌∷◌, Option, Some, None, Result, MatchResult, Box}
use Rattle.std.proofs.Common.{IfSome, IsSome, is_some, option_and_then, option_map, unwrap_or, Bor, box_value, bytes_eq}
use Rattle.{std.{specs.Option.option_map_or, proofs.lemmas.Slice.Eq.bytes_eq-Decides}, clap.specs.Matches.{first_value, found_of, subcommand_name_of}}
use Rattle.clap.specs.{Simple.subcommand_rows, Walk.{Row, Text, first_of, rows_of}, Words.subcommand_rows_of, declared.parser.matches.ArgMatches.ArgMatches}
use Rattle.clap.specs.declared.parser.matches.{ArgMatches.TheViews.{out-ArgMatches, out-SubCommand}, SubCommand.SubCommand}
use Rattle.clap.proofs.WalkLemmas.{first_value-rows}
use Rattle.crossbar5_command.specs.{Ask.{IsAnswerTo, IsAnswerWith, IsAskWith}, Fault.{IsFaultAmong, conflict_in, conflict_of}, Program.{replay, subcommands}}
use Rattle.crossbar5_command.specs.{Subcommand.{Subcommand, subcommand_named}, declared.{command_line.Ask.Ask, command_fault.CommandFault.CommandFault}}

-- the name that was met is that of the rows
name_of_rows : {Z : Type 0} (met : Option (Box SubCommand Z))
    → option_map (λ b. (out-SubCommand (box_value b)).name.now) met ≡ option_map (λ p. p.0) (subcommand_rows met)
name_of_rows None = refl
name_of_rows (Some met) = refl

by_parts : (name : Text) (rows : List Row) (met : Option (Text × List Row)) → option_map (λ p. p.0) met ≡ Some name
    → option_map (λ p. p.1) met ≡ Some rows → met ≡ Some (name, rows)
by_parts name rows None name_is rows_is = absurd (true≢false (sym (ap is_some name_is)))
by_parts name rows (Some p) name_is rows_is =
    ap (λ n. Some (n, p.1)) (ap (λ o. unwrap_or o name) name_is) ∙ ap (λ rs. Some (name, rs)) (ap (λ o. unwrap_or o rows) rows_is)

-- the values of what the matches hold
abbrev pub values_in : Option (Bor ArgMatches) → Text → Option Text
values_in options id = option_and_then (λ q. first_value (found_of q.now) id) options

-- the subcommand was met, with these options
pub met_answered : (s : Subcommand) → subcommand_named subcommands s.name ≡ Some s → (m : ArgMatches) (options : Bor ArgMatches)
    (answer : Result Ask CommandFault) → subcommand_name_of m ≡ Some s.name
    → option_map (λ p. p.1) (subcommand_rows_of m) ≡ Some (rows_of (found_of options.now))
    → IsAnswerWith s (first_value (found_of options.now)) answer → IsAnswerTo (subcommand_rows_of m) answer
met_answered s named m options answer name_is rows_is answers =
    let rows = rows_of (found_of options.now) in
    let values : Text → Option Text = λ id. first_of id rows in
    let met = by_parts s.name rows (subcommand_rows_of m) (sym (name_of_rows (out-ArgMatches m).subcommand) ∙ name_is) rows_is in
    let conflict : conflict_of (Some (s.name, rows)) ≡ conflict_in s.options values =
    ap (λ found. option_map_or (λ s. conflict_in s.options values) found []) named in
    let at_values : IsAnswerWith s values answer = subst (λ vs. IsAnswerWith s vs answer) (λ i id. first_value-rows (found_of options.now) id i) answers in
    subst (λ met. IsAnswerTo met answer) (sym met)
    (subst (λ kinds. MatchResult answer (λ ask. IsAskWith s.name values ask × (kinds ≡ [])) (IsFaultAmong kinds)) (sym conflict) at_values)

-- none of the subcommands has the name: `subcommand_matches` gave nothing for each
abbrev pub AreOthers : List Subcommand → Option Text → Type 0
AreOthers [] name = Unit {0}
AreOthers (s ∷ rest) name = (name ≡ Some s.name → false ≡ true) × AreOthers rest name

none_met : (subs : List Subcommand) (met : Option (Text × List Row)) → IfSome met (λ p. IsSome (subcommand_named subs p.0))
    → AreOthers subs (option_map (λ p. p.0) met) → met ≡ None
none_met subs None known others = refl
none_met [] (Some p) known others = absurd (true≢false (sym known))
none_met (s ∷ rest) (Some p) known others = go (bytes_eq s.name p.0) refl known (λ later. none_met rest (Some p) later others.1)
  where
    go : (same : Bool) → bytes_eq s.name p.0 ≡ same → IsSome (cond same (Some s) (subcommand_named rest p.0))
        → (IsSome (subcommand_named rest p.0) → Some p ≡ None) → Some p ≡ None
    go true same known later = absurd (true≢false (sym (others.0 (ap Some (sym ((bytes_eq-Decides s.name p.0).0 same))))))
    go false differs known later = later known

-- if no other subcommand was met, a replay is asked for
pub replay_answered : (m : ArgMatches) (options : Option (Bor ArgMatches)) (answer : Result Ask CommandFault)
    → (IsSome options → subcommand_name_of m ≡ Some replay.name) × (subcommand_name_of m ≡ Some replay.name → IsSome options)
    → IfSome options (λ q. option_map (λ p. p.1) (subcommand_rows_of m) ≡ Some (rows_of (found_of q.now)))
    → IfSome (subcommand_rows_of m) (λ met. IsSome (subcommand_named subcommands met.0))
    → ((subcommand_name_of m ≡ Some replay.name → false ≡ true) → AreOthers subcommands (subcommand_name_of m))
    → IsAnswerWith replay (values_in options) answer → IsAnswerTo (subcommand_rows_of m) answer
replay_answered m (Some options) answer found rows known others answers = met_answered replay refl m options answer (found.0 refl) rows answers
replay_answered m None answer found rows known others answers =
    let none = none_met subcommands (subcommand_rows_of m) known
    (subst (AreOthers subcommands) (name_of_rows (out-ArgMatches m).subcommand) (others found.1)) in
    subst (λ met. IsAnswerTo met answer) (sym none) answers
