-- an idle marker has no effect left, so if all are idle the words show the set after the records
use Rattle.std.proofs.Common.{◌≡◌, ℕ, List, [], ◌∷◌, true, refl, sym, ◌∙◌, ap, Some, slice_get}
use Rattle.{turns.specs.{Attempt.{act_in, closing_act}, Runs.is_finished}, xbar_equip.specs.declared.conn.Conn.Conn, xbar_plan.specs.Tables.Tables}
use Rattle.{xbar_office.specs.Legal.after, xbar_jobs.specs.{Attempt.Phase, Office.ShowsOffice, declared.effect.Effect.Effect}}
use Rattle.xbar_moves.{specs.Exchange.{Exchange, IsLawfulExchange, Marker, is_idle}, proofs.MadeEffects.{AreMade, made_show}}

-- past the turn, if nothing is left, no effect is left
none_left : (effects : List Effect) (held : List Conn) → is_finished (closing_act effects held) ≡ true → effects ≡ []
none_left [] held rest = refl
none_left (effect ∷ effects) held rest = absurd cc

abbrev AreIdle : Exchange → Type 0
AreIdle e = (k : ℕ) (m : Marker) → slice_get e.markers k ≡ Some m → is_idle m.work ≡ true

idle_made : (e : Exchange) → AreIdle e → AreMade e
idle_made e idle k number turn a at past =
    none_left a.effects a.held (ap (λ (phase : Phase). is_finished (act_in phase a)) (sym past) ∙ sym (ap is_idle at.work) ∙ idle k at.marker at.there)

pub idle_show : (plan : Tables) (e : Exchange) → IsLawfulExchange plan e → AreIdle e → ShowsOffice plan e.words (after plan e.records)
idle_show plan e lawful idle = made_show plan e lawful (idle_made e idle)
