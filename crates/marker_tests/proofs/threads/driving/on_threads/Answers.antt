use Rattle.std.proofs.Common.{refl, subst, IfSome, Option}
use Rattle.{std.proofs.lemmas.Option.slice_get_read, xbar_fabric.{specs.Views.{DeskView, IsDeskOf}, proofs.Sent.desk_send}}
use denote.Param.Send.{sendable}
use denote.Param.Send as send
use Rattle.xbar_fabric.specs.contracts.desk.Desk as desk
use Rattle.marker_tests.specs.contracts.threads.driving.AtWork as work
use Rattle.marker_tests.proofs.threads.driving.AtWork.TheSendSync as derived
use Rattle.marker_tests.proofs.threads.driving.on_threads.Goals as goal

-- a desk at work may go to any thread, with the records of its jobs
shift_send : send.IsSend (work.the_row desk.the_row)
shift_send = derived.the_send desk.the_row desk_send

pub map_vec-worked-requires-send-J : goal.map_vec-worked-requires-send-J
map_vec-worked-requires-send-J g c κs within = search (sendable, desk_send)

pub map_vec-worked-requires-send-X : goal.map_vec-worked-requires-send-X
map_vec-worked-requires-send-X g c κs within = search (sendable, shift_send)

pub map_vec-worked-requires-after_bounds : goal.map_vec-worked-requires-after_bounds
map_vec-worked-requires-after_bounds g c κs within i desk below there =
    let fabric = c.args.fabric.now in
    subst (λ (found : Option DeskView). IfSome found (λ one. IsDeskOf one fabric))
    (slice_get_read c.args.desks.items _ i desk refl below there) (c.requires i)
