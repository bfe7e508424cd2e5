-- what is written for traffic, by what it leads to
use Rattle.std.proofs.Common.{◌≡◌, ℕ, List, refl, sym, ◌∙◌, ap, subst, Result, Ok, Err, IfOk}
use Rattle.{xbar_plan.specs.Tables.Tables, xbar_moves.specs.{Exchange.OfPlan, Settling.settled}, xbar_traffic.specs.declared.fault.TrafficFault.TrafficFault}
use Rattle.{xbar_walk.specs.Walks.Walk, crossbar5.specs.{Look.{IsLookOf, shown}, Run.{IsOneHistory, IsWrittenOf, Leaves, LeavesOneHistory, Outcome}}}
use Rattle.crossbar5.specs.{Run.{RefusesTraffic, settling}, TrafficRefusal.IsTrafficRefusal, Walk.IsWalkResult, declared.written.Status.Status}
use Rattle.{crossbar5.specs.declared.written.Status.TheVariants.Fine, crossbar5_task.specs.declared.task.LookForm.{LookForm, TheVariants.{Words, Json, Svg}}}

-- what two clauses say of a value
pub both : {T E : Type 0} (r : Result T E) (P Q : T → Type 0) → IfOk r P → IfOk r Q → IfOk r (λ x. P x × Q x)
both (Ok x) P Q one other = (one, other)
both (Err e) P Q one other = tt

module _ (plan : Tables) (came : Outcome) where
  -- the traffic is refused
  module _ (fault : TrafficFault) (is : came ≡ RefusesTraffic fault) where
    refuses : settling plan came ≡ RefusesTraffic fault
    refuses = ap (settling plan) is

    pub refused_history : LeavesOneHistory plan (settling plan came)
    refused_history = subst (LeavesOneHistory plan) (sym refuses) tt

    module _ (text : List ℕ) (status : Status) (refusal : IsTrafficRefusal fault text status) where
      pub refused_replay : IsWrittenOf (settling plan came) text status
      refused_replay = subst (λ (o : Outcome). IsWrittenOf o text status) (sym refuses) (record { text_is = refusal.text_is; status_is = refusal.status_is })

      pub refused_walk : (told : Walk) → IsWalkResult told (settling plan came) text status
      refused_walk told =
          subst (λ (o : Outcome). IsWalkResult told o text status) (sym refuses)
          (record { same = tt; text_is = refusal.text_is; status_is = refusal.status_is })

      pub refused_look : (form : LookForm) (events : List ℕ) → IsLookOf form plan events came text status
      refused_look form events =
          subst (λ (o : Outcome). IsLookOf form plan events o text status) (sym is) (record { text_is = refusal.text_is; status_is = refusal.status_is })

  -- an office is left
  module _ (office : OfPlan) (is : came ≡ Leaves office.exchange) (under : office.plan ≡ plan) where
    leaves : settling plan came ≡ Leaves (settled office.plan office.exchange)
    leaves = ap (settling plan) is ∙ ap (λ (p : Tables). Leaves (settled p office.exchange)) (sym under)

    pub left_history : IsOneHistory office.plan (settled office.plan office.exchange) → LeavesOneHistory plan (settling plan came)
    left_history history =
        subst (LeavesOneHistory plan) (sym leaves) (subst (λ (p : Tables). IsOneHistory p (settled office.plan office.exchange)) under history)

    module _ (text : List ℕ) (status : Status) where
      pub left_replay : IsWrittenOf (Leaves (settled office.plan office.exchange)) text status → IsWrittenOf (settling plan came) text status
      left_replay written = subst (λ (o : Outcome). IsWrittenOf o text status) (sym leaves) written

      pub left_walk : (told : Walk) → IsWalkResult told (Leaves (settled office.plan office.exchange)) text status
          → IsWalkResult told (settling plan came) text status
      left_walk told written = subst (λ (o : Outcome). IsWalkResult told o text status) (sym leaves) written

      -- the events make a difference in one form alone
      by_form : (form : LookForm) (given events : List ℕ) → (form ≡ Json → given ≡ events)
          → shown form office.plan office.exchange given ≡ shown form plan office.exchange events
      by_form Words given events same = refl
      by_form Json given events same = ap (shown Json office.plan office.exchange) (same refl) ∙ ap (λ (p : Tables). shown Json p office.exchange events) under
      by_form Svg given events same = ap (λ (p : Tables). shown Svg p office.exchange events) under

      pub left_look : (form : LookForm) (given events : List ℕ) → (form ≡ Json → given ≡ events)
          → (text ≡ shown form office.plan office.exchange given) × (status ≡ Fine) → IsLookOf form plan events came text status
      left_look form given events same written =
          subst (λ (o : Outcome). IsLookOf form plan events o text status) (sym is)
          (record { text_is = written.0 ∙ by_form form given events same; status_is = written.1 })
