use Rattle.std.proofs.Common.{[], ◌∷◌, inl, inr, refl, subst, sym}
use Rattle.{slots.specs.Few.list_of, slot_desks.{specs.Driving.{AreSlots, LogsGiving}, proofs.OwnSlots.{gave_half, gave_on}}}
use Rattle.slot_desks.proofs.driving.give_each.Goals as goal

pub returns-in-One-clause-stuck : goal.returns-in-One-clause-stuck
returns-in-One-clause-stuck c = λ free are failed.
    let these = subst (λ taken. AreSlots (list_of taken)) c.in-One.is are in
    c.give.ensures.stuck free (these c.in-One.slot (inl refl)) failed

pub returns-then-give-clause-given : goal.returns-then-give-clause-given
returns-then-give-clause-given c =
    let old = c.args.shift.now.log.items in
    let between = c.give-in-Two.new.shift.log.items in
    let new = c.give-then-give.new.shift.log.items in
    let first = subst (λ all. LogsGiving old between c.args.number (c.in-Two.slot ∷ []) all) c.if-give.true c.give-in-Two.ensures.given in
    subst (λ taken. LogsGiving old new c.args.number (list_of taken) c.give-then-give.result) (sym c.in-Two.is)
    (gave_on old between new c.args.number c.in-Two.slot (c.in-Two.other ∷ []) c.give-then-give.result first c.give-then-give.ensures.given)

pub returns-then-give-clause-stuck : goal.returns-then-give-clause-stuck
returns-then-give-clause-stuck c = λ free are failed.
    let these = subst (λ taken. AreSlots (list_of taken)) c.in-Two.is are in
    c.give-then-give.ensures.stuck (c.give-in-Two.ensures.free free c.if-give.true) (these c.in-Two.other (inr (inl refl))) failed

pub returns-else-give-clause-given : goal.returns-else-give-clause-given
returns-else-give-clause-given c =
    let old = c.args.shift.now.log.items in
    let new = c.give-in-Two.new.shift.log.items in
    let slot = c.in-Two.slot in
    let first = subst (λ all. LogsGiving old new c.args.number (slot ∷ []) all) c.if-give.false c.give-in-Two.ensures.given in
    subst (λ taken. LogsGiving old new c.args.number (list_of taken) c.give-in-Two.result) (sym c.in-Two.is)
    (subst (λ all. LogsGiving old new c.args.number (slot ∷ c.in-Two.other ∷ []) all) (sym c.if-give.false)
    (gave_half old new c.args.number slot (c.in-Two.other ∷ []) first))

pub returns-else-give-clause-stuck : goal.returns-else-give-clause-stuck
returns-else-give-clause-stuck c = λ free are failed.
    let these = subst (λ taken. AreSlots (list_of taken)) c.in-Two.is are in
    c.give-in-Two.ensures.stuck free (these c.in-Two.slot (inl refl)) failed
