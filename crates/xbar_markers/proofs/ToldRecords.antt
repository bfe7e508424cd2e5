-- what a step reports of a job's end
use Rattle.std.proofs.Common.{◌≡◌, Some, sym, ap}
use Rattle.{std.proofs.lemmas.Option.same_Some, xbar_office.specs.declared.reply.Record.Record}
use Rattle.{xbar_moves.specs.declared.event.Event.{Event, TheVariants.{Idle, Moved, Refused, Preferred, Finished}}, xbar_markers.specs.Work.reported_record}

-- if a step reported a record, its job ended with that
pub told_end : (event : Event) (r : Record) → Some r ≡ reported_record event → event ≡ Finished r
told_end (Finished s) r is = ap Finished (sym (same_Some r s is))
told_end Idle r is = absurd cc
told_end Moved r is = absurd cc
told_end (Refused conn holder) r is = absurd cc
told_end (Preferred other) r is = absurd cc
