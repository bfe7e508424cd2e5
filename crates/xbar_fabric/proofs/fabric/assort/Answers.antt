use Rattle.std.proofs.Common.{◌+◌, sym, ap, subst, ◌∙◌, arith}
use Rattle.xbar_fabric.{specs.Views.HasJobNo, proofs.NewDesks.{AreFrom, built_more, first_new, later_new}}
use Rattle.xbar_fabric.proofs.fabric.assort.Goals as goal

pub invariant_of-push_reserved : goal.invariant_of-push_reserved
invariant_of-push_reserved c =
    let are = subst (AreFrom c.args.room.now c.loop-kind.kind-index) c.in-Some.ensures.items c.loop-kind.invariant.rest in
    subst HasJobNo (sym (ap (λ d. d.actor) (first_new c.args.room.now c.loop-kind.kind-index c.in-Some.desk _ are))) tt

pub loop-kind-preserved : goal.loop-kind-preserved
loop-kind-preserved c =
    let room = c.args.room.now in
    let at = c.loop-kind.kind-index in
    let are = subst (AreFrom c.args.room.now c.loop-kind.kind-index) c.in-Some.ensures.items c.loop-kind.invariant.rest in
    record {
      rest = later_new room at c.in-Some.desk _ are;
      left = omega (arith, c.in-Some.ensures.len);
      built =
          built_more room c.args.kinds.now at c.in-Some.desk c.loop-kind.all.items c.push_reserved.new.self.items c.loop-kind-test.true
          (first_new room at c.in-Some.desk _ are) c.push_reserved.ensures.items c.loop-kind.invariant.built;
      len = c.push_reserved.ensures.len ∙ ap (λ n. n + 1) c.loop-kind.invariant.len;
      room = rw c.push_reserved.ensures.capacity c.loop-kind.invariant.room;
    }
