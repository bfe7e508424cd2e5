use Rattle.std.proofs.Common.{◌≡◌, ◌++◌, ◌∷◌, [], List, sym, ap, subst, ◌∙◌, arith, append_assoc}
use Rattle.{xbar_moves.specs.declared.kinds.Kind.Kind, xbar_fabric.{specs.Views.{AreBelow, DeskView, RoomDesk, view_at}, proofs.AllDesks.below_more}}
use Rattle.xbar_fabric.proofs.shutting.take_apart.Goals as goal

pub loop-desk-preserved : goal.loop-desk-preserved
loop-desk-preserved c =
    let before = c.loop-desk.invariant.apart in
    let desk = c.in-Some.desk in
    let inside = c.desk.inside in
    let is : view_at c.in-Some.desk.kind c.desk.inside.desk ≡ c.in-Some.desk =
    ap (λ (k : Kind). view_at k inside.desk) (sym (ap (λ (x : DeskView). x.kind) c.desk.view_is)) ∙ c.desk.view_is in
    let below = below_more c.loop-desk.rest.items before.0 inside.desk desk before.2 is in
    record {
      apart = (
        before.0 ++ desk ∷ [],
        append_assoc before.0 (desk ∷ []) _ ∙ ap (λ (l : List DeskView). before.0 ++ l) (sym c.in-Some.ensures.items) ∙ before.1,
        subst (λ (l : List RoomDesk). AreBelow l (before.0 ++ desk ∷ [])) (sym c.push_reserved.ensures.items) below,
      );
      left = omega (arith, c.in-Some.ensures.len, c.push_reserved.ensures.len);
      room = rw c.push_reserved.ensures.capacity c.loop-desk.invariant.room;
    }
