use Rattle.std.proofs.Common.{◌∙◌, Some, None}
use Rattle.xbar_report.proofs.LineKinds.{trouble_alone, paths_alone, closed_alone}
use Rattle.xbar_report.proofs.line.Line.parse.Goals as goal

pub returns-in_err-trouble_of-in-84-clause-reads : goal.returns-in_err-trouble_of-in-84-clause-reads
returns-in_err-trouble_of-in-84-clause-reads c line range e =
    c.from_residual-in_err-trouble_of-in-84.ensures
    ∙ trouble_alone line range c.args.text.now c.in_ok-first._rest.now c.in_ok-first.first.now c.in_ok-first.ensures.cases.0 c.in-84.is e None
    c.in_err-trouble_of-in-84.ensures

pub returns-in_ok-trouble_of-in-84-clause-reads : goal.returns-in_ok-trouble_of-in-84-clause-reads
returns-in_ok-trouble_of-in-84-clause-reads c line range e =
    trouble_alone line range c.args.text.now c.in_ok-first._rest.now c.in_ok-first.first.now c.in_ok-first.ensures.cases.0 c.in-84.is e
    (Some c.in_ok-trouble_of-in-84.field-0) c.in_ok-trouble_of-in-84.ensures

pub returns-in_err-count_of-in-80-clause-reads : goal.returns-in_err-count_of-in-80-clause-reads
returns-in_err-count_of-in-80-clause-reads c line range e =
    c.from_residual-in_err-count_of-in-80.ensures
    ∙ paths_alone line range c.args.text.now c.in_ok-first._rest.now c.in_ok-first.first.now c.in_ok-first.ensures.cases.0 c.in-80.is e None
    c.in_err-count_of-in-80.ensures

pub returns-in_ok-count_of-in-80-clause-reads : goal.returns-in_ok-count_of-in-80-clause-reads
returns-in_ok-count_of-in-80-clause-reads c line range e =
    paths_alone line range c.args.text.now c.in_ok-first._rest.now c.in_ok-first.first.now c.in_ok-first.ensures.cases.0 c.in-80.is e
    (Some c.in_ok-count_of-in-80.field-0) c.in_ok-count_of-in-80.ensures

pub returns-in_err-count_of-in-67-clause-reads : goal.returns-in_err-count_of-in-67-clause-reads
returns-in_err-count_of-in-67-clause-reads c line range e =
    c.from_residual-in_err-count_of-in-67.ensures
    ∙ closed_alone line range c.args.text.now c.in_ok-first._rest.now c.in_ok-first.first.now c.in_ok-first.ensures.cases.0 c.in-67.is e None
    c.in_err-count_of-in-67.ensures

pub returns-in_ok-count_of-in-67-clause-reads : goal.returns-in_ok-count_of-in-67-clause-reads
returns-in_ok-count_of-in-67-clause-reads c line range e =
    closed_alone line range c.args.text.now c.in_ok-first._rest.now c.in_ok-first.first.now c.in_ok-first.ensures.cases.0 c.in-67.is e
    (Some c.in_ok-count_of-in-67.field-0) c.in_ok-count_of-in-67.ensures
