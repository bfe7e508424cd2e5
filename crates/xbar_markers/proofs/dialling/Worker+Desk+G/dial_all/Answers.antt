use Rattle.xbar_markers.proofs.{HeldTickets.{may_on, tickets_on, tickets_same}, Serving.{served_none, served_on}}
use Rattle.xbar_markers.proofs.dialling.Worker+Desk+G.dial_all.Goals as goal

pub loop-init : goal.loop-init
loop-init g c = record {
  may = c.requires.serve.may;
  ready = c.requires.serve.ready;
  kind = c.requires.serve.kind_is;
  tickets = tickets_same c.args.share.now;
  served = served_none c.args.self.now.desk c.args.share.now;
}

pub returns-then-not-branch-clause-served : goal.returns-then-not-branch-clause-served
returns-then-not-branch-clause-served g c =
    served_on c.args.self.now.desk c.loop.self.desk c.dial_next.new.self.desk c.args.share.now c.loop.share c.dial_next.new.share c.loop.invariant.served
    c.in_ok-dial_next.ensures.served

pub loop-preserved : goal.loop-preserved
loop-preserved g c =
    let inv = c.loop.invariant in
    let next = c.in_ok-dial_next.ensures in record {
      may = may_on next.tickets inv.may;
      ready = next.ready;
      kind = next.kind;
      tickets = tickets_on inv.tickets next.tickets;
      served =
          served_on c.args.self.now.desk c.loop.self.desk c.dial_next.new.self.desk c.args.share.now c.loop.share c.dial_next.new.share inv.served next.served;
    }
