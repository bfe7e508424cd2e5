use Rattle.std.proofs.Common.{refl, subst, IfSome, Option}
use Rattle.{std.proofs.lemmas.Option.slice_get_read, xbar_fabric.{specs.Views.{DeskView, IsDeskOf}, proofs.Sent.desk_send}}
use denote.Param.Send.{sendable}
use Rattle.benches.proofs.threads.work_at_desks.Goals as goal

pub map_vec-requires-send-J : goal.map_vec-requires-send-J
map_vec-requires-send-J g c κs within = search (sendable, desk_send)

pub map_vec-requires-after_bounds : goal.map_vec-requires-after_bounds
map_vec-requires-after_bounds g c κs within i desk below there =
    let opened = c.in-Ok in
    subst (λ (found : Option DeskView). IfSome found (λ one. IsDeskOf one opened.fabric))
    (slice_get_read opened.desks.items _ i desk refl below there) (opened.ensures.theirs i)
