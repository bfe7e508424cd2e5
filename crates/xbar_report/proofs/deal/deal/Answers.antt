use Rattle.std.proofs.Common.{◌∙◌, ◌++◌, List, length, drop, sym, ap, arith, append-nil, take_all}
use Rattle.{std.proofs.lemmas.List.drop_all, xbar_office.specs.declared.reply.Record.Record, xbar_report.specs.Dealt.{dealt_records, left_of}}
use Rattle.xbar_report.proofs.Deals.{deal_step, dealt_none, left_all}
use Rattle.xbar_report.proofs.deal.deal.Goals as goal

pub loop-record-init : goal.loop-record-init
loop-record-init c =
    (ap (λ (front : List Record). front ++ c.args.records.now) (sym (dealt_none c.args.cards.now)), sym (left_all c.args.cards.now))

pub loop-record-preserved : goal.loop-record-preserved
loop-record-preserved c =
    deal_step c.args.records.now c.loop-record.records c.args.cards.now c.loop-record.rest.now c.split_at.result.0.now c.split_at.result.1.now
    c.cards_of-record.result
    c.loop-record.record-index c.own_count.result c.record-item.result (omega arith) c.loop-record.invariant.0 c.loop-record.invariant.1
    c.own_count.ensures.value c.split_at.ensures.front c.split_at.ensures.back c.cards_of-record.ensures

pub returns-clause-records : goal.returns-clause-records
returns-clause-records c =
    let all = c.loop-record-test.false in
    let rs = c.args.records.now in
    let i = c.loop-record.record-index in
    c.loop-record.invariant.0 ∙ ap (λ (front : List Record). dealt_records front c.args.cards.now ++ drop i rs) (take_all i rs all)
    ∙ ap (λ (back : List Record). dealt_records rs c.args.cards.now ++ back) (drop_all i rs all) ∙ append-nil (dealt_records rs c.args.cards.now)

pub returns-clause-left : goal.returns-clause-left
returns-clause-left c =
    ap length (c.loop-record.invariant.1
    ∙ ap (λ (rs : List Record). left_of rs c.args.cards.now) (take_all c.loop-record.record-index c.args.records.now c.loop-record-test.false))
