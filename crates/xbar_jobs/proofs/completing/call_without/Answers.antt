use Rattle.std.proofs.Common.{◌≡◌, List, [], rules, Ok, Err, sym, ap, ◌∙◌, Result}
use Rattle.{turns.specs.Script.seize, xbar_equip.specs.{Dialled.code_of, declared.conn.Conn.TheVariants.Group}, xbar_plan.specs.Tables.route_of}
use Rattle.xbar_jobs.specs.{Closing.leave_effects, Completing.call, Script.{Wanted, walk_on_words}, Sides.party_after, declared.decision.Decision.Decision}
use Rattle.xbar_jobs.specs.declared.{effect.Effect.Effect, party.Party.Party}
use Rattle.xbar_jobs.proofs.{LeavingWalks.{call_decides, call_stops, later}, WalksOnWords.{came, comes}}
use Rattle.xbar_jobs.proofs.completing.call_without.Goals as goal

pub returns-in_err-decision : goal.returns-in_err-decision
returns-in_err-decision c =
    let wanted : c.from_residual-in_err-decision.result ≡ Err c.in_err-decision.field-0.0 = search rules in
    let effects : c.as_slice-effects.result.now ≡ leave_effects c.args.leave = search rules in
    let own =
    came [] (seize (Group c.args.leave.group)) c.args.seen.now c.require_held.new.seen c.args.words.now c.require_held.new.words c.require_held.result (Ok tt)
    (c.require_held.ensures []) c.in_ok-require_held.was in
    let calls = c.call.ensures
    ∙ ap (λ (party : Party). walk_on_words c.as_slice-effects.result.now
    (call c.args.plan.now party c.args.dialled (route_of c.args.plan.now (code_of c.args.dialled))) c.require_held.new.seen c.require_held.new.words)
    c.after.ensures
    ∙ ap (λ (made : List Effect). walk_on_words made
    (call c.args.plan.now (party_after made c.args.calling.now) c.args.dialled (route_of c.args.plan.now (code_of c.args.dialled))) c.require_held.new.seen
    c.require_held.new.words) effects in
    let wants =
    came (leave_effects c.args.leave) (later c.args.plan.now c.args.calling.now c.args.dialled c.args.leave) c.require_held.new.seen c.call.new.seen
    c.require_held.new.words c.call.new.words c.call.result (Err c.in_err-decision.field-0.0) calls c.in_err-decision.was in
    ap (λ (r : Result Decision Wanted). comes r c.call.new.seen c.call.new.words) wanted
    ∙ sym (call_stops c.args.plan.now c.args.calling.now c.args.dialled c.args.leave c.args.seen.now c.require_held.new.seen c.call.new.seen c.args.words.now
    c.require_held.new.words c.call.new.words tt own c.in_err-decision.field-0.0 wants)

pub returns : goal.returns
returns c =
    let effects : c.as_slice-effects.result.now ≡ leave_effects c.args.leave = search rules in
    let own =
    came [] (seize (Group c.args.leave.group)) c.args.seen.now c.require_held.new.seen c.args.words.now c.require_held.new.words c.require_held.result (Ok tt)
    (c.require_held.ensures []) c.in_ok-require_held.was in
    let calls = c.call.ensures
    ∙ ap (λ (party : Party). walk_on_words c.as_slice-effects.result.now
    (call c.args.plan.now party c.args.dialled (route_of c.args.plan.now (code_of c.args.dialled))) c.require_held.new.seen c.require_held.new.words)
    c.after.ensures
    ∙ ap (λ (made : List Effect). walk_on_words made
    (call c.args.plan.now (party_after made c.args.calling.now) c.args.dialled (route_of c.args.plan.now (code_of c.args.dialled))) c.require_held.new.seen
    c.require_held.new.words) effects in
    let decides =
    came (leave_effects c.args.leave) (later c.args.plan.now c.args.calling.now c.args.dialled c.args.leave) c.require_held.new.seen c.call.new.seen
    c.require_held.new.words c.call.new.words c.call.result (Ok c.in_ok-decision.decision) calls c.in_ok-decision.was in
    ap (λ (decision : Decision). comes (Ok decision) c.call.new.seen c.call.new.words) c.leaving.ensures
    ∙ sym (call_decides c.args.plan.now c.args.calling.now c.args.dialled c.args.leave c.args.seen.now c.require_held.new.seen c.call.new.seen c.args.words.now
    c.require_held.new.words c.call.new.words tt own c.in_ok-decision.decision decides)
