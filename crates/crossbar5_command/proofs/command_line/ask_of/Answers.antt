use Rattle.std.proofs.Common.{refl}
use Rattle.crossbar5_command.{specs.Program.{audit, draw, live, look, page, walk}, proofs.MetSubcommand.{met_answered, replay_answered}}
use Rattle.crossbar5_command.proofs.command_line.ask_of.Goals as goal

pub returns-in-Some : goal.returns-in-Some
returns-in-Some c = λ known.
    met_answered live refl c.args.matches.now c.in-Some.options c.live_of.result (c.in-Some.ensures.found.0 refl) c.in-Some.ensures.rows c.live_of.ensures

pub returns-in-Some-subcommand_matches : goal.returns-in-Some-subcommand_matches
returns-in-Some-subcommand_matches c = λ known.
    let met = c.in-Some-subcommand_matches in
    met_answered audit refl c.args.matches.now met.options c.audit_of.result (met.ensures.found.0 refl) met.ensures.rows c.audit_of.ensures

pub returns-in-Some-subcommand_matches-2 : goal.returns-in-Some-subcommand_matches-2
returns-in-Some-subcommand_matches-2 c = λ known.
    let met = c.in-Some-subcommand_matches-2 in
    met_answered draw refl c.args.matches.now met.options c.draw_of.result (met.ensures.found.0 refl) met.ensures.rows c.draw_of.ensures

pub returns-in-Some-subcommand_matches-3 : goal.returns-in-Some-subcommand_matches-3
returns-in-Some-subcommand_matches-3 c = λ known.
    let met = c.in-Some-subcommand_matches-3 in
    met_answered walk refl c.args.matches.now met.options c.walk_of.result (met.ensures.found.0 refl) met.ensures.rows c.walk_of.ensures

pub returns-in-Some-subcommand_matches-4 : goal.returns-in-Some-subcommand_matches-4
returns-in-Some-subcommand_matches-4 c = λ known.
    let met = c.in-Some-subcommand_matches-4 in
    met_answered page refl c.args.matches.now met.options c.page_of.result (met.ensures.found.0 refl) met.ensures.rows c.page_of.ensures

pub returns-in-Some-subcommand_matches-5 : goal.returns-in-Some-subcommand_matches-5
returns-in-Some-subcommand_matches-5 c = λ known.
    let met = c.in-Some-subcommand_matches-5 in
    met_answered look refl c.args.matches.now met.options c.look_of.result (met.ensures.found.0 refl) met.ensures.rows c.look_of.ensures

pub returns : goal.returns
returns c =
    let no_live = c.in_default.ensures.found.1 in
    let no_audit = c.in_default-subcommand_matches.ensures.found.1 in
    let no_draw = c.in_default-subcommand_matches-2.ensures.found.1 in
    let no_walk = c.in_default-subcommand_matches-3.ensures.found.1 in
    let no_page = c.in_default-subcommand_matches-4.ensures.found.1 in
    let no_look = c.in_default-subcommand_matches-5.ensures.found.1 in
    λ known. replay_answered c.args.matches.now c.subcommand_matches-7.result c.replay_of.result c.subcommand_matches-7.ensures.found
    c.subcommand_matches-7.ensures.rows known
    (λ no_replay. (no_replay, (no_walk, (no_look, (no_live, (no_audit, (no_draw, (no_page, tt)))))))) c.replay_of.ensures
