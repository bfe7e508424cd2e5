use Rattle.std.proofs.Common.{[], ◌∷◌, ◌++◌, sym, ap, ◌∙◌, append_assoc}
use Rattle.{std.proofs.lemmas.List.map_push, xbar_fabric.specs.Views.DeskView, xbar_markers.specs.declared.worker.Worker.Worker}
use Rattle.xbar_markers.proofs.gathering.desks_of.Goals as goal

pub loop-worker-preserved : goal.loop-worker-preserved
loop-worker-preserved g c =
    let inv = c.loop-worker.invariant in
    let given = c.in-Some.ensures.steps.0 in
    let worker = c.in-Some.worker in
    let seen = c.loop-worker.yielded in
    let rest = c.next.new.self.rest.items in
    record {
      desks =
          c.in_ok-put_behind.ensures
          ∙ (ap (λ l. l ++ worker.desk ∷ []) inv.desks
          ∙ sym (map_push (λ (w : Worker DeskView g.row.G.Denot). w.desk) seen worker));
      rest = append_assoc seen (worker ∷ []) rest ∙ (ap (λ l. seen ++ l) (sym given) ∙ inv.rest);
    }
