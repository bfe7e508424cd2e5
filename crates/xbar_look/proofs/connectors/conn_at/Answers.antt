use Rattle.xbar_look.proofs.Conns.{group, line_frame, trunk_frame}
use Rattle.xbar_look.proofs.connectors.conn_at.Goals as goal

pub returns-then-place-lt10-clause-conn : goal.returns-then-place-lt10-clause-conn
returns-then-place-lt10-clause-conn c = line_frame c.args.place c.if-place-lt10.true

pub returns-then-place-lt20-clause-conn : goal.returns-then-place-lt20-clause-conn
returns-then-place-lt20-clause-conn c = trunk_frame c.args.place c.if-place-lt10.false c.if-place-lt20.true

pub returns-else-place-lt20-clause-conn : goal.returns-else-place-lt20-clause-conn
returns-else-place-lt20-clause-conn c = group c.args.place c.if-place-lt20.false c.requires
