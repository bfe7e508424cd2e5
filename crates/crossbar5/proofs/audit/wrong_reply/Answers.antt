use Rattle.std.proofs.Common.{◌≡◌, ◌∙◌, ℕ, ◌+◌, ◌<◌, List, length, get_or, refl, ap, arith}
use Rattle.{std.proofs.lemmas.Option.slice_get_read, xbar_office.specs.{Legal.after, State.State, Whole.whole, declared.reply.{Record.Record, Reply.Reply}}}
use Rattle.crossbar5.proofs.Audits.{found_reply}
use Rattle.crossbar5.proofs.audit.wrong_reply.Goals as goal

pub returns : goal.returns
returns c =
    let plan = c.args.plan.now in
    let records = c.args.records.now in
    let turn = c.args.turn in
    let given = c.in-Some.given.now in
    let split = c.split_at.ensures in
    let item = c.in-Some.ensures.item in
    let below : turn < length records = omega (arith, split.back_len, item.3.0) in
    let behind : turn + 0 ≡ turn = omega arith in
    let here =
    slice_get_read records (length records) turn given refl below (item.1 ∙ split.by_index.2 0 given ∙ ap (λ (k : ℕ). get_or records k given) behind) in
    let reply =
    c.in_ok-reply.ensures.reply ∙ ap (λ (o : State). (whole o.plan o.paths given.job).reply) c.in_ok-office.ensures
    ∙ ap (λ (rs : List Record). (whole plan (after plan rs) given.job).reply) split.front in
    found_reply plan records turn given c.with_reply.result c.with_reply-2.result c.requires.turns c.requires.wrong here
    (c.with_reply.ensures ∙ ap (λ (r : Reply). record given { reply = r }) c.copy.ensures)
    (c.with_reply-2.ensures ∙ ap (λ (r : Reply). record given { reply = r }) reply)
