use Rattle.std.proofs.Common.{List, length, sym, ◌∙◌, ap, arith}
use Rattle.{xbar_equip.specs.{Paths.with_path, declared.path.Path.Path}, xbar_office.specs.Done.with_added}
use Rattle.xbar_office.proofs.CompletedJobs.{calling, length-left, put_back, adds-by_told}
use Rattle.xbar_office.proofs.whole.complete.Goals as goal

pub insert-requires : goal.insert-requires
insert-requires c =
    let is =
    calling c.every_plan_is_lawful.ensures c.requires c.line_is_in_range.ensures c.deref.ensures.value c.register_path.ensures c.in-Some.is
    c.remove.ensures.paths c.deref-2.ensures.value c.call-reply.ensures in
    let shorter = length-left is in
    let before = ap length c.deref.ensures.value in
    let room = c.in-Err.ensures.room in
    omega (arith, shorter, before, room.0, room.1, c.remove.ensures.capacity, c.deref.ensures.len, c.deref-2.ensures.len)

pub returns-in-Err-clause-err : goal.returns-in-Err-clause-err
returns-in-Err-clause-err c =
    let is =
    calling c.every_plan_is_lawful.ensures c.requires c.line_is_in_range.ensures c.deref.ensures.value c.register_path.ensures c.in-Some.is
    c.remove.ensures.paths c.deref-2.ensures.value c.call-reply.ensures in
    c.insert.ensures.paths
    ∙ ap (λ (p : List Path). with_path p c.in-Some.own) (c.in-Err.ensures.err ∙ c.remove.ensures.paths)
    ∙ put_back is

pub returns-in-Err-clause-memory : goal.returns-in-Err-clause-memory
returns-in-Err-clause-memory c =
    let is =
    calling c.every_plan_is_lawful.ensures c.requires c.line_is_in_range.ensures c.deref.ensures.value c.register_path.ensures c.in-Some.is
    c.remove.ensures.paths c.deref-2.ensures.value c.call-reply.ensures in
    let shorter = length-left is in
    let before = ap length c.deref.ensures.value in
    let after = (adds-by_told is c.adds.result c.adds.ensures).1 in
    omega (arith, shorter, before, after, c.in-Err.ensures.full, c.remove.ensures.capacity, c.deref.ensures.len, c.deref-2.ensures.len)

pub returns-clause-ok : goal.returns-clause-ok
returns-clause-ok c =
    let is =
    calling c.every_plan_is_lawful.ensures c.requires c.line_is_in_range.ensures c.deref.ensures.value c.register_path.ensures c.in-Some.is
    c.remove.ensures.paths c.deref-2.ensures.value c.call-reply.ensures in
    c.in_default-add.ensures.ok
    ∙ ap (λ (p : List Path). with_added p c.adds.result) (sym c.deref-2.ensures.value)
    ∙ (adds-by_told is c.adds.result c.adds.ensures).0
