use Rattle.std.proofs.Common.{◌≡◌, rules, arith, true, false, Ok, Err, sym, ap, ◌∙◌, Option, Result, not, is_some}
use Rattle.{xbar_equip.specs.Len.line_eq, xbar_jobs.specs.{Script.Wanted, Tracing.{approach, channel_of}, declared.party.Party.Party}}
use Rattle.xbar_jobs.proofs.{HuntedLines.{busy_passed, hunt_stops, idle_found, none_hunted}, WalksOnWords.{came, comes}}
use Rattle.xbar_jobs.proofs.completing.hunt.Goals as goal

pub returns-in_err-party : goal.returns-in_err-party
returns-in_err-party c =
    let wanted : c.from_residual.result ≡ Err c.in_err-party.field-0.0 = search rules in
    let other : line_eq c.line-item.result c.args.calling ≡ false = grind arith in
    let stops =
    came c.args.made.now (approach c.line-item.result) c.loop-line.seen c.approach.new.seen c.loop-line.words c.approach.new.words c.approach.result
    (Err c.in_err-party.field-0.0) c.approach.ensures c.in_err-party.was in
    ap (λ (r : Result (Option Party) Wanted). comes r c.approach.new.seen c.approach.new.words) wanted
    ∙ sym (hunt_stops c.args.made.now c.args.calling c.args.lines.now c.loop-line.line-index c.line-item.result c.line-item.is c.loop-line-test.true
    c.loop-line.seen c.loop-line.words other _ c.approach.new.seen c.approach.new.words stops)
    ∙ c.loop-line.invariant

pub returns-then-is_none : goal.returns-then-is_none
returns-then-is_none c =
    let other : line_eq c.line-item.result c.args.calling ≡ false = grind arith in
    let come =
    came c.args.made.now (approach c.line-item.result) c.loop-line.seen c.approach.new.seen c.loop-line.words c.approach.new.words c.approach.result
    (Ok c.in_ok-party.party) c.approach.ensures c.in_ok-party.was in
    let none : is_some (channel_of c.in_ok-party.party) ≡ false = ap is_some (sym c.channel.ensures.channel) ∙ c.is_none.ensures ∙ ap not c.if-is_none.true in
    sym (idle_found c.args.made.now c.args.calling c.args.lines.now c.loop-line.line-index c.line-item.result c.line-item.is c.loop-line-test.true
    c.loop-line.seen c.loop-line.words other c.in_ok-party.party c.approach.new.seen c.approach.new.words come none)
    ∙ c.loop-line.invariant

pub loop-line-preserved : goal.loop-line-preserved
loop-line-preserved c =
    let other : line_eq c.line-item.result c.args.calling ≡ false = grind arith in
    let come =
    came c.args.made.now (approach c.line-item.result) c.loop-line.seen c.approach.new.seen c.loop-line.words c.approach.new.words c.approach.result
    (Ok c.in_ok-party.party) c.approach.ensures c.in_ok-party.was in
    let has : is_some (channel_of c.in_ok-party.party) ≡ true = ap is_some (sym c.channel.ensures.channel) ∙ c.is_none.ensures ∙ ap not c.if-is_none.false in
    sym (busy_passed c.args.made.now c.args.calling c.args.lines.now c.loop-line.line-index c.line-item.result c.line-item.is c.loop-line-test.true
    c.loop-line.seen c.loop-line.words other c.in_ok-party.party c.approach.new.seen c.approach.new.words come has)
    ∙ c.loop-line.invariant

pub returns : goal.returns
returns c =
    sym (none_hunted c.args.made.now c.args.calling c.args.lines.now c.loop-line.line-index c.loop-line.seen c.loop-line.words c.loop-line-test.false)
    ∙ c.loop-line.invariant
