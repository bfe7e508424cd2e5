use Rattle.std.proofs.Common.{◌≡◌, ℕ, ap, subst, sym, ◌∙◌, Option}
use Rattle.{turns.specs.{Sharing.held_by, System.system_of}, desks.{specs.{Desks.{IsSeated, actor_of}, Holders.WasHeldBy}, proofs.HeldLocks.was_held}}
use Rattle.desks.proofs.desk.Desk.holder.Goals as goal

pub returns-clause-held : goal.returns-clause-held
returns-clause-held g c =
    let O = system_of (g.F.Jobs.system c.args.setting.now) in
    let desk = c.self.inside in
    let count = c.room.inside.table.shared.key.count in
    let lock = c.args.lock.now in
    let loaded = c.load_lock_word-word in
    let now = actor_of g.F.Jobs.attempt desk.doing in
    let setting : g.F.Jobs.kept desk.setting ≡ c.args.setting.now = ap (λ d. d.setting) c.self.view_is ∙ c.requires.desk.desk_is in
    let seated = subst (λ s. IsSeated (system_of (g.F.Jobs.system s)) desk.number desk.seat.me now) setting c.self.invariant.1 in
    let held = was_held O count desk.number desk.seat.me now lock loaded.result loaded.new.seat.me.0 c.requires.lock seated loaded.ensures.loaded in
    let holder = held_by O.sharing loaded.result in
    let mine = subst (λ d. WasHeldBy O count d.number d.actor d.seen lock holder) c.self.view_is held in
    let room : count ≡ c.args.room.now.count = ap (λ r. r.count) c.room.view_is in
    subst (λ (o : Option ℕ). WasHeldBy O c.args.room.now.count c.args.self.now.number c.args.self.now.actor c.args.self.now.seen lock o)
    (sym c.holder_in.ensures)
    (subst (λ (n : ℕ). WasHeldBy O n c.args.self.now.number c.args.self.now.actor c.args.self.now.seen lock holder) room mine)
