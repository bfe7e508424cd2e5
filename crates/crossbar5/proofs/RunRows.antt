-- how far rows have come, and what all of them lead to
use Rattle.std.proofs.Common.{◌≡◌, ℕ, suc, ◌+◌, ◌<◌, ◌≤◌, List, [], ◌∷◌, ◌++◌, append-nil, length, drop, get_or, refl, sym, ◌∙◌, ap, subst, drop-cons, arith}
use Rattle.std.proofs.Common.{take-append-drop, Option, Some, None, option_map, take}
use Rattle.{std.proofs.lemmas.List.drop_all, xbar_plan.specs.Tables.Tables}
use Rattle.xbar_traffic.specs.declared.{fault.{MarkerFault.MarkerFault, RowFault.{RowFault, TheVariants.Marker}, TrafficFault.TrafficFault}, row.Row.Row}
use Rattle.{xbar_moves.specs.{Exchange.{Exchange, OfPlan, fresh_exchange}, declared.kinds.Kind.Kind}, xbar_walk.specs.Items.Item}
use Rattle.{xbar_walk.specs.{Observers.{AgreesWith, ChangesAs}, Walks.Walk, declared.detail.Detail.Detail}, crossbar5.specs.Rows.{after_rows, done, row_fault}}
use Rattle.crossbar5.specs.{Run.{Leaves, Outcome, RefusesTraffic, at_end, judged, outcome_by, outcome_from, reached}, Walk.{walk_after_row, walk_after_rows}}

-- an office and an observer have reached a walk from which these rows lead to the last one
pub record IsLed {O : Type 0} (Describes : O → Detail → ℕ → List Item → Type 0) (office : OfPlan) (observer : O) (rows : List Row) (last : Walk) : Type 0 where
  pub now : Walk
  pub agrees : AgreesWith Describes office observer now
  pub rest : last ≡ walk_after_rows rows now

-- the first `index` rows were done, and the remaining ones lead to what all lead to
pub record HasDone {O : Type 0} (Describes : O → Detail → ℕ → List Item → Type 0) (first : OfPlan) (observer : O) (number : ℕ) (rows : List Row) (now : OfPlan)
    (observed : O) (index : ℕ) : Type 0 where
  pub under : now.plan ≡ first.plan
  pub outcome : outcome_from first.plan first.exchange number rows None ≡ outcome_from first.plan now.exchange (number + index) (drop index rows) None
  pub office : after_rows first.plan rows first.exchange ≡ after_rows first.plan (drop index rows) now.exchange
  pub seen : (w : Walk) → AgreesWith Describes first observer w → IsLed Describes now observed (drop index rows) (walk_after_rows rows w)

module _ {O : Type 0} (Describes : O → Detail → ℕ → List Item → Type 0) (first : OfPlan) (observer : O) (number : ℕ) (rows : List Row) where
  pub none_done : HasDone Describes first observer number rows first observer 0
  none_done =
      let same : number ≡ number + 0 = omega arith in
      record {
        under = refl;
        outcome = ap (λ (n : ℕ). outcome_from first.plan first.exchange n rows None) same;
        office = refl;
        seen = λ w agrees. record { now = w; agrees = agrees; rest = refl };
      }

  module _ (now : OfPlan) (observed : O) (index : ℕ) (so_far : HasDone Describes first observer number rows now observed index) where
    module _ (row : Row) (within : index < length rows) (here : row ≡ get_or rows index row) where
      abbrev left : List Row
      left = drop (index + 1) rows

      row_left : drop index rows ≡ row ∷ left
      row_left =
          let next : suc index ≡ index + 1 = omega arith in
          drop-cons rows index row within ∙ ap (λ (one : Row). one ∷ drop (suc index) rows) (sym here) ∙ ap (λ (n : ℕ). row ∷ drop n rows) next

      by_row : outcome_from first.plan first.exchange number rows None
          ≡ judged (number + index) (row_fault now.exchange row) (outcome_from first.plan (done first.plan now.exchange row) (number + index + 1) left None)
      unfolding outcome_from
      by_row = so_far.outcome ∙ ap (λ (these : List Row). outcome_from first.plan now.exchange (number + index) these None) row_left

      -- a row that is refused refuses all
      pub row_refused : (why : MarkerFault) → row_fault now.exchange row ≡ Some why
          → outcome_from first.plan first.exchange number rows None ≡ RefusesTraffic (record { row = number + index; fault = Marker why })
      row_refused why refuses =
          by_row
          ∙ ap (λ (found : Option MarkerFault). judged (number + index) found
          (outcome_from first.plan (done first.plan now.exchange row) (number + index + 1) left None)) refuses

      -- a row that is done leaves the others
      pub row_done : (next : OfPlan) (more : O) → row_fault now.exchange row ≡ None → next ≡ record now { exchange = done now.plan now.exchange row }
          → ChangesAs Describes (walk_after_row row) now observed next more
          → HasDone Describes first observer number rows next more (index + 1)
      unfolding after_rows walk_after_rows
      row_done next more goes is changes =
          let same : done first.plan now.exchange row ≡ next.exchange =
          ap (λ (p : Tables). done p now.exchange row) (sym so_far.under) ∙ ap (λ (o : OfPlan). o.exchange) (sym is) in
          let later : number + index + 1 ≡ number + (index + 1) = omega arith in
          record {
            under = ap (λ (o : OfPlan). o.plan) is ∙ so_far.under;
            outcome =
                by_row
                ∙ ap (λ (found : Option MarkerFault). judged (number + index) found
                (outcome_from first.plan (done first.plan now.exchange row) (number + index + 1) left None)) goes
                ∙ ap (λ (n : ℕ). outcome_from first.plan (done first.plan now.exchange row) n left None) later
                ∙ ap (λ (e : Exchange). outcome_from first.plan e (number + (index + 1)) left None) same;
            office = so_far.office ∙ ap (λ (these : List Row). after_rows first.plan these now.exchange) row_left ∙ ap (after_rows first.plan left) same;
            seen = λ w agrees.
                let led = so_far.seen w agrees in
                record {
                  now = walk_after_row row led.now;
                  agrees = changes led.now led.agrees;
                  rest = led.rest ∙ ap (λ (these : List Row). walk_after_rows these led.now) row_left;
                };
          }

    module _ (past : length rows ≤ index) where
      none_left : drop index rows ≡ []
      none_left = drop_all index rows past

      pub all_reached : outcome_from first.plan first.exchange number rows None ≡ Leaves now.exchange
      unfolding outcome_from
      all_reached = so_far.outcome ∙ ap (λ (these : List Row). outcome_from first.plan now.exchange (number + index) these None) none_left

      pub all_done : now ≡ record first { exchange = after_rows first.plan rows first.exchange }
      unfolding after_rows
      all_done =
          let same = so_far.office ∙ ap (λ (these : List Row). after_rows first.plan these now.exchange) none_left in
          λ i. record { plan = so_far.under i; exchange = sym same i }

      pub all_seen : ChangesAs Describes (walk_after_rows rows) first observer now observed
      unfolding walk_after_rows
      all_seen w agrees =
          let led = so_far.seen w agrees in
          subst (AgreesWith Describes now observed) (sym (led.rest ∙ ap (λ (these : List Row). walk_after_rows these led.now) none_left)) led.agrees

-- an outcome of rows, and then what later rows lead to
abbrev pub and_then : Outcome → (Exchange → Outcome) → Outcome
and_then (RefusesTraffic fault) next = RefusesTraffic fault
and_then (Leaves e) next = next e

pub outcome_from-append : (plan : Tables) (e : Exchange) (number : ℕ) (rows later : List Row) (fault : Option RowFault)
    → outcome_from plan e number (rows ++ later) fault
    ≡ and_then (outcome_from plan e number rows None) (λ x. outcome_from plan x (number + length rows) later fault)
unfolding outcome_from
outcome_from-append plan e number [] later fault = let same : number ≡ number + 0 = omega arith in ap (λ (n : ℕ). outcome_from plan e n later fault) same
outcome_from-append plan e number (row ∷ rows) later fault =
    by_row (row_fault e row) (outcome_from-append plan (done plan e row) (number + 1) rows later fault) where
      by_row : (found : Option MarkerFault)
          → outcome_from plan (done plan e row) (number + 1) (rows ++ later) fault
          ≡ and_then (outcome_from plan (done plan e row) (number + 1) rows None) (λ x. outcome_from plan x (number + 1 + length rows) later fault)
          → judged number found (outcome_from plan (done plan e row) (number + 1) (rows ++ later) fault)
          ≡ and_then (judged number found (outcome_from plan (done plan e row) (number + 1) rows None))
          (λ x. outcome_from plan x (number + suc (length rows)) later fault)
      by_row None is =
          let same : number + 1 + length rows ≡ number + suc (length rows) = omega arith in
          is ∙ ap (λ (n : ℕ). and_then (outcome_from plan (done plan e row) (number + 1) rows None) (λ x. outcome_from plan x n later fault)) same
      by_row (Some why) is = refl

abbrev pub with_number : ℕ → RowFault → TrafficFault
with_number count why = record { row = count + 1; fault = why }

-- a fault of the row after the last one refuses all, with the number of that row
end_refused : (e : Exchange) (count : ℕ) (own : Option RowFault) (fault : TrafficFault) → option_map (with_number count) own ≡ Some fault
    → at_end e (count + 1) own ≡ RefusesTraffic fault
end_refused e count None fault is = absurd cc
end_refused e count (Some why) fault is =
    let same : with_number count why ≡ fault = cc in
    ap RefusesTraffic same

-- and if there is none, the office is left
end_left : (e : Exchange) (count : ℕ) (own : Option RowFault) → option_map (with_number count) own ≡ None → at_end e (count + 1) own ≡ Leaves e
end_left e count None is = refl
end_left e count (Some why) is = absurd cc

-- rows in two parts, of which the second was observed, by what was done of each
module _ (plan : Tables) (kinds : List Kind) (rows : List Row) (own : Option RowFault) (count : ℕ) (first : OfPlan) (before later : List Row)
    (opens : first ≡ record { plan = plan; exchange = fresh_exchange kinds }) (front : before ≡ take count rows) (back : later ≡ drop count rows)
    (found : Option TrafficFault) (past : OfPlan) (did : outcome_from first.plan first.exchange 1 before None ≡ outcome_by found past.exchange) where
  abbrev then_later : Option TrafficFault → Outcome
  then_later fault = and_then (outcome_by fault past.exchange) (λ x. outcome_from first.plan x (1 + length before) later own)

  by_first : reached plan kinds rows own ≡ then_later found
  by_first =
      ap (λ (o : OfPlan). outcome_from o.plan o.exchange 1 rows own) (sym opens)
      ∙ ap (λ (all : List Row). outcome_from first.plan first.exchange 1 all own)
      (sym (take-append-drop count rows) ∙ ap (λ (part : List Row). part ++ drop count rows) (sym front) ∙ ap (λ (part : List Row). before ++ part) (sym back))
      ∙ outcome_from-append first.plan first.exchange 1 before later own
      ∙ ap (λ (o : Outcome). and_then o (λ x. outcome_from first.plan x (1 + length before) later own)) did

  pub first_refused : (fault : TrafficFault) → found ≡ Some fault → reached plan kinds rows own ≡ RefusesTraffic fault
  first_refused fault is = by_first ∙ ap then_later is

  module _ (none : found ≡ None) (done_is : past ≡ record first { exchange = after_rows first.plan before first.exchange }) (size : length before ≡ count)
      (again : Option TrafficFault) (last : OfPlan) (redid : outcome_from past.plan past.exchange (count + 1) later None ≡ outcome_by again last.exchange) where
    abbrev then_end : Option TrafficFault → Outcome
    then_end fault = and_then (outcome_by fault last.exchange) (λ x. at_end x (count + 1 + length later) own)

    by_second : reached plan kinds rows own ≡ then_end again
    unfolding outcome_from
    by_second =
        let number : 1 + length before ≡ count + 1 = omega (arith, size) in
        by_first ∙ ap then_later none
        ∙ ap (λ (n : ℕ). outcome_from first.plan past.exchange n later own) number
        ∙ ap (λ (p : Tables). outcome_from p past.exchange (count + 1) later own) (sym (ap (λ (o : OfPlan). o.plan) done_is))
        ∙ ap (λ (all : List Row). outcome_from past.plan past.exchange (count + 1) all own) (sym (append-nil later))
        ∙ outcome_from-append past.plan past.exchange (count + 1) later [] own
        ∙ ap (λ (o : Outcome). and_then o (λ x. at_end x (count + 1 + length later) own)) redid

    pub second_refused : (fault : TrafficFault) → again ≡ Some fault → reached plan kinds rows own ≡ RefusesTraffic fault
    second_refused fault is = by_second ∙ ap then_end is

    module _ (no_more : again ≡ None) (total : ℕ) (whole : length later + count ≡ total) where
      by_end : reached plan kinds rows own ≡ at_end last.exchange (total + 1) own
      by_end = let number : count + 1 + length later ≡ total + 1 = omega (arith, whole) in
          by_second ∙ ap then_end no_more ∙ ap (λ (n : ℕ). at_end last.exchange n own) number

      pub own_refused : (fault : TrafficFault) → option_map (with_number total) own ≡ Some fault → reached plan kinds rows own ≡ RefusesTraffic fault
      own_refused fault is = by_end ∙ end_refused last.exchange total own fault is

      pub all_left : option_map (with_number total) own ≡ None → reached plan kinds rows own ≡ Leaves last.exchange
      all_left is = by_end ∙ end_left last.exchange total own is

    past_is : past ≡ record { plan = plan; exchange = after_rows plan (take count rows) (fresh_exchange kinds) }
    past_is =
        done_is ∙ ap (λ (o : OfPlan). record o { exchange = after_rows o.plan before o.exchange }) opens
        ∙ ap (λ (part : List Row). record { plan = plan; exchange = after_rows plan part (fresh_exchange kinds) }) front

    pub under : last ≡ record past { exchange = after_rows past.plan later past.exchange } → last.plan ≡ plan
    under is = ap (λ (o : OfPlan). o.plan) is ∙ ap (λ (o : OfPlan). o.plan) past_is

    pub later_seen : {O : Type 0} (Describes : O → Detail → ℕ → List Item → Type 0) (observer observed : O)
        → ChangesAs Describes (walk_after_rows later) past observer last observed
        → ChangesAs Describes (walk_after_rows (drop count rows)) (record { plan = plan; exchange = after_rows plan (take count rows) (fresh_exchange kinds) })
        observer last observed
    later_seen Describes observer observed changes =
        subst (λ (o : OfPlan). ChangesAs Describes (walk_after_rows (drop count rows)) o observer last observed) past_is
        (subst (λ (part : List Row). ChangesAs Describes (walk_after_rows part) past observer last observed) back changes)
