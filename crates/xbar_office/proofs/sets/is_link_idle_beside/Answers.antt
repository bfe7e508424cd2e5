use Rattle.std.proofs.Common.{sym, ◌∙◌, ap, Option, ◌&&◌, not}
use Rattle.{xbar_equip.specs.{Paths.{has_link, is_idle}, declared.path.Path.Path}, xbar_office.{specs.Chosen.with_chosen, proofs.AddedPaths.idle-with}}
use Rattle.xbar_office.proofs.sets.is_link_idle_beside.Goals as goal

pub returns-then-is_link_idle : goal.returns-then-is_link_idle
returns-then-is_link_idle c =
    let has = has_link c.args.link in
    let paths = c.args.paths.now in
    let path = c.in-Some.path in
    sym (
    ap (λ (o : Option Path). is_idle has (with_chosen paths o)) c.in-Some.is
    ∙ idle-with has paths path
    ∙ ap (λ b. b && not (has path)) (sym c.if-is_link_idle.ensures)
    ∙ ap not (sym c.has_link.ensures))

pub returns-else-is_link_idle : goal.returns-else-is_link_idle
returns-else-is_link_idle c =
    let has = has_link c.args.link in
    let paths = c.args.paths.now in
    let path = c.in-Some.path in
    c.is_link_idle-in-Some.ensures ∙ sym c.if-is_link_idle.ensures
    ∙ sym (
    ap (λ (o : Option Path). is_idle has (with_chosen paths o)) c.in-Some.is
    ∙ idle-with has paths path
    ∙ ap (λ b. b && not (has path)) (sym c.if-is_link_idle.ensures))
