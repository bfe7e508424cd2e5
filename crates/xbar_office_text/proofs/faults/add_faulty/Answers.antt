use Rattle.std.proofs.Common.{◌≡◌, true, false, arith, sym, ap, ◌∙◌, append_assoc, append-nil}
use Rattle.{std.proofs.lemmas.List.FromFn.filter_of_map_range_with_len_more, xbar_plan.specs.Tables.is_faulty, xbar_office_text.specs.Faults.link_numbered}
use Rattle.xbar_office_text.proofs.faults.add_faulty.Goals.{then-faulty+in_ok-push, else-faulty}
use Rattle.xbar_office_text.proofs.faults.add_faulty.Goals as goal

pub loop-number-preserved : goal.loop-number-preserved
loop-number-preserved c =
    let number = c.loop-number.number in
    let more = filter_of_map_range_with_len_more (is_faulty c.args.plan.now) (link_numbered c.args.kind) 0 number number (omega arith) in
    let same : is_faulty c.args.plan.now (link_numbered c.args.kind number) ≡ is_faulty c.args.plan.now c.new-link.result =
    ap (is_faulty c.args.plan.now) (sym c.new-link.ensures) in
    elim c.if-faulty.branch [
      | then-faulty+in_ok-push w ↦
          let faulty : is_faulty c.args.plan.now (link_numbered c.args.kind number) ≡ true = same ∙ sym w.if-faulty.ensures.faulty in
          rw (w.links-is, w.in_ok-push.ensures.items, c.new-link.ensures, c.loop-number.invariant, append_assoc, more, faulty)
      | else-faulty w ↦
          let whole : is_faulty c.args.plan.now (link_numbered c.args.kind number) ≡ false = same ∙ sym w.if-faulty.ensures.faulty in
          rw (w.links-is, c.loop-number.invariant, more, whole) (simp append-nil)
    ]
