use Rattle.std.proofs.Common.{◌-◌, ℕ, length, drop, take, sym, ◌∙◌, ap, subst, string_bytes}
use Rattle.{std.proofs.lemmas.Result.IfOk-weaker, xbar_moves.specs.Exchange.fresh_exchange, xbar_traffic.specs.declared.row.Row.Row}
use Rattle.xbar_walk.specs.{Items.walk_text_of, declared.detail.Detail.TheVariants.JsonList}
use Rattle.crossbar5.specs.{Look.{BeginsWithComma, last_events}, Rows.after_rows, Walk.{begun_at, walk_after_rows}}
use Rattle.crossbar5.proofs.{LastEvents.{events_begin, events_text}, Outcomes.{left_look, refused_look}}
use Rattle.crossbar5.proofs.looks.look.Goals as goal

pub without_first_comma-requires : goal.without_first_comma-requires
without_first_comma-requires c =
    let plan = c.args.plan.now in
    let rows = c.in_ok-traffic.traffic.rows.items in
    let n = c.unobserved_count-unobserved.result in
    let e = after_rows plan (take n rows) (fresh_exchange c.args.kinds.now) in
    let reach = rw c.in-Ok.is at c.in_ok-office.ensures in
    let told =
    events_text plan e (drop n rows) c.in-Ok.office c.new-story.result _ (string_bytes c.in_ok-events-in-Ok.events) c.new-story.ensures reach.observed
    c.in_ok-events-in-Ok.ensures in
    subst BeginsWithComma (sym (c.deref-in-Ok.ensures ∙ told)) (events_begin plan e (drop n rows))

pub returns-in-Ok : goal.returns-in-Ok
returns-in-Ok c =
    let plan = c.args.plan.now in
    let traffic = c.in_ok-traffic.traffic in
    let rows = traffic.rows.items in
    let n = c.unobserved_count-unobserved.result in
    let begun = fresh_exchange c.args.kinds.now in
    let reach = rw c.in-Ok.is at c.in_ok-office.ensures in
    let told =
    events_text plan (after_rows plan (take n rows) begun) (drop n rows) c.in-Ok.office c.new-story.result _ (string_bytes c.in_ok-events-in-Ok.events)
    c.new-story.ensures reach.observed c.in_ok-events-in-Ok.ensures in
    IfOk-weaker c.shown.result _ _ (λ written is. record {
      rows = rows;
      fault = traffic.fault;
      read = c.in_ok-traffic.ensures.traffic;
      shown =
          left_look plan _ c.in-Ok.office reach.reached reach.plan written.text.items written.status c.args.form c.without_first_comma.result.now
          (last_events plan begun rows)
          (λ json.
          c.without_first_comma.ensures ∙ ap (drop 1) (c.deref-in-Ok.ensures ∙ told)
          ∙ ap (λ (k : ℕ). drop 1 (walk_text_of JsonList (walk_after_rows (drop k rows) (begun_at JsonList plan (after_rows plan (take k rows) begun))).items))
          (c.unobserved_count-unobserved.ensures.json json ∙ ap (λ all. length {A = Row} all - 1) c.deref.ensures.value))
          is;
    }) c.shown.ensures

pub returns : goal.returns
returns c =
    let traffic = c.in_ok-traffic.traffic in
    let reach = rw c.in-Err.is at c.in_ok-office.ensures in
    IfOk-weaker c.refused.result _ _ (λ written is. record {
      rows = traffic.rows.items;
      fault = traffic.fault;
      read = c.in_ok-traffic.ensures.traffic;
      shown = refused_look c.args.plan.now _ c.in-Err.fault reach.reached written.text.items written.status is c.args.form _;
    }) c.refused.ensures
