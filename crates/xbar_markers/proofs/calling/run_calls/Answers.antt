use Rattle.std.proofs.Common.{◌≡◌, ◌<◌, ◌^◌, List, arith, length, subst}
use Rattle.{xbar_plan.specs.Tables.Tables, xbar_office.specs.{Legal.after, declared.reply.Record.Record}, xbar_fabric.specs.Meetings.FabricHasClosed}
use Rattle.xbar_markers.{specs.DesksByKind.kinds_of, proofs.{Gates.for_new, WholeOutcome.{legal, served, shows_after, taken, words_after}}}
use Rattle.xbar_markers.proofs.calling.run_calls.Goals as goal

pub run_desks-requires-clause-for_markers : goal.run_desks-requires-clause-for_markers
run_desks-requires-clause-for_markers g c κs within =
    for_new g.G.Gate.IsAt c.in_ok-fabric.fabric (kinds_of c.args.markers.now.dialling c.args.markers.now.completing) c.args.gates.items
    c.in_ok-fabric.desks.items c.in_ok-fabric.ensures.desks c.requires.for_markers

pub shut_all-requires : goal.shut_all-requires
shut_all-requires g c = c.in_ok-desks.ensures.idle c.in_ok-fabric.ensures.idle

pub returns : goal.returns
returns g c =
    let fabric = c.in_ok-fabric.fabric in
    let plan = c.args.plan.now in
    let kinds = kinds_of c.args.markers.now.dialling c.args.markers.now.completing in
    let befores = c.in_ok-fabric.desks.items in
    let desks = c.in_ok-desks.desks.items in
    let records = c.in_ok-desks.records.items in
    let words = c.in-Ok.words.items in
    let laws = c.same_items_are_as_many.ensures in
    let ran = c.in_ok-desks.ensures in
    let closed = subst (λ (p : Tables). FabricHasClosed p desks words) c.in_ok-fabric.ensures.fabric.0 c.in-Ok.ensures in
    let few : length records < 2 ^ 64 = omega (arith, c.in_ok-desks.records.ok.0, c.in_ok-desks.records.small) in record {
      legal = legal fabric plan kinds befores desks records words laws.contained laws.length c.in_ok-fabric.ensures.desks ran.desks ran.order few closed;
      served =
          served fabric plan kinds befores desks records words laws.contained laws.length c.in_ok-fabric.ensures.desks ran.desks ran.order few closed
          c.args.calls.now ran.served;
      taken = taken fabric plan kinds befores desks records words laws.contained laws.length c.in_ok-fabric.ensures.desks ran.desks ran.order few closed;
      office =
          subst (λ (l : List Record). c.in-Ok-audit.office ≡ record { plan = plan; paths = after plan l }) c.as_slice.ensures.value
          c.in-Ok-audit.ensures.legal.1;
      words = words_after fabric plan kinds befores desks records words laws.contained laws.length c.in_ok-fabric.ensures.desks ran.desks ran.order few closed;
      unused = closed.unused;
      shows = shows_after fabric plan kinds befores desks records words laws.contained laws.length c.in_ok-fabric.ensures.desks ran.desks ran.order few closed;
    }
