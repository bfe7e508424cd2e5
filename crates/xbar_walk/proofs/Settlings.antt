-- how far a settling has come
use Rattle.std.proofs.Common.{◌≡◌, ℕ, suc, ◌+◌, ◌<◌, Bool, false, List, [], ◌∷◌, ◌++◌, length, length-set, refl, sym, ◌∙◌, ap, subst, arith, Option, Some, None}
use Rattle.std.proofs.Common.{is_some, if◌then◌else◌, slice_get}
use Rattle.{turns.specs.{Attempt.turn_in, World.{Idle, Does}}, xbar_plan.specs.Tables.Tables}
use Rattle.xbar_moves.specs.{AtWork.is_turned, Exchange.{Exchange, Marker, OfPlan, Work, at_marker, on_job}}
use Rattle.xbar_moves.specs.{Moves.{restarted_at, frees_left, given_at, given_back, steps}, Settling.{ended, ended_past_turn, for_each, settled}}
use Rattle.xbar_moves.proofs.{Backing.back_goes, Keeping.{restarts_keep, count_back, count_end, count_past, for_each_keeps}}
use Rattle.xbar_walk.specs.{Items.{Item, settling_item}, Observers.{Adds, AgreesWith, ChangesAs}, Parts.{after_part, walk_of_part}}
use Rattle.xbar_walk.specs.Walks.{Walk, is_past_turn_in, restarted_walk, walk_for_each, walk_of_give_back, walk_of_rollback, walk_of_settling, walk_of_steps}
use Rattle.xbar_walk.specs.declared.{detail.Detail.Detail, settling.Part.{Part, TheVariants.{EndPastTurn, GiveBack, End}}}
use Rattle.xbar_moves.specs.declared.event.Given.TheVariants as given
use Rattle.xbar_moves.specs.declared.event.Given.{Given}

-- the office once marker k is brought to its end if it is past its turn
module _ (plan : Tables) (k : ℕ) (e : Exchange) where
  abbrev ended_if : Bool → Exchange
  ended_if past = if past then ended plan k e else e

  past_by : (work : Work) → on_job e (λ n a. ended_if (is_some (turn_in a.phase))) work ≡ ended_if (is_turned work)
  past_by Idle = refl
  past_by (Does n a) = refl

  past_of : (found : Option Marker)
      → at_marker e (λ m. on_job e (λ n a. ended_if (is_some (turn_in a.phase))) m.work) found ≡ ended_if (at_marker false (λ m. is_turned m.work) found)
  past_of None = refl
  past_of (Some m) = past_by m.work

  pub past_ended : (past : Bool) → is_past_turn_in e k ≡ past → ended_past_turn plan k e ≡ ended_if past
  past_ended past is = past_of (slice_get e.markers k) ∙ ap ended_if is

-- giving back, by what marker k answers
pub given_walk : (k : ℕ) (w : Walk) (what : Given) → given_at w.office.exchange k ≡ what → walk_of_give_back k w ≡ walk_of_rollback what k w
unfolding walk_of_give_back
given_walk k w what is = ap (λ (what : Given). walk_of_rollback what k w) is

pub given_none : (k : ℕ) (w : Walk) → ¬ (given_at w.office.exchange k ≡ given.Given) → walk_of_give_back k w ≡ w
given_none k w not = by (given_at w.office.exchange k) refl where
  by : (what : Given) → given_at w.office.exchange k ≡ what → walk_of_give_back k w ≡ w
  by given.Given is = absurd (not is)
  by given.PastTurn is = given_walk k w given.PastTurn is
  by given.Idle is = given_walk k w given.Idle is

-- a marker that gives back is to begin its job anew, and then gives up what it holds
module _ (o begun : OfPlan) (k : ℕ) (gives : given_at o.exchange k ≡ given.Given) (is : begun ≡ record o { exchange = restarted_at o.plan k o.exchange }) where
  pub restarted_within : k < length o.exchange.markers → k < length begun.exchange.markers
  restarted_within within =
      let kept =
      restarts_keep o.plan (λ (x : Exchange). length x.markers ≡ length o.exchange.markers) k (λ x n a same at. length-set x.markers k _ ∙ same) o.exchange
      refl in
      let same = ap (λ (x : OfPlan). length x.exchange.markers) is in
      omega (arith, kept, same, within)

  module _ (left : ℕ) (all : left ≡ frees_left o.exchange k) where
    pub gave_back : (last : OfPlan) → last ≡ record begun { exchange = steps begun.plan k left begun.exchange }
        → last ≡ record o { exchange = given_back o.plan k o.exchange }
    gave_back last up =
        up ∙ ap (λ (x : OfPlan). record x { exchange = steps x.plan k left x.exchange }) is
        ∙ ap (λ (count : ℕ). record o { exchange = steps o.plan k count (restarted_at o.plan k o.exchange) }) all
        ∙ ap (λ (x : Exchange). record o { exchange = x }) (sym (back_goes o.plan o.exchange k gives))

    pub sees_back : {O : Type 0} (Describes : O → Detail → ℕ → List Item → Type 0) (last : OfPlan) (observer observed : O)
        → ChangesAs Describes (walk_of_steps k left) begun observer last observed
        → ChangesAs Describes (walk_of_give_back k) o observer last observed
    sees_back Describes last observer observed changes w agrees =
        let at = agrees.office_is in
        let here : given_at w.office.exchange k ≡ given.Given = ap (λ (x : OfPlan). given_at x.exchange k) at ∙ gives in
        let restarted_office : begun ≡ (restarted_walk k w).office = is ∙ ap (λ (x : OfPlan). record x { exchange = restarted_at x.plan k x.exchange }) (sym at) in
        let count : left ≡ frees_left w.office.exchange k = all ∙ ap (λ (x : OfPlan). frees_left x.exchange k) (sym at) in
        subst (AgreesWith Describes last observed) (ap (λ (n : ℕ). walk_of_steps k n (restarted_walk k w)) count ∙ sym (given_walk k w given.Given here))
        (changes (restarted_walk k w) (record { office_is = sym restarted_office; described = agrees.described }))

-- as many markers stay
abbrev pub KeepsCount : (Tables → ℕ → Exchange → Exchange) → Type 0
KeepsCount change = (plan : Tables) (k : ℕ) (e : Exchange) → length (change plan k e).markers ≡ length e.markers

part_counts : (part : Part) → KeepsCount (after_part part)
part_counts EndPastTurn = λ plan k e. count_past plan k e
part_counts GiveBack = λ plan k e. count_back plan k e
part_counts End = λ plan k e. count_end plan k e

each_counts : (part : Part) (plan : Tables) (count : ℕ) (e : Exchange) → length (for_each (after_part part plan) count e).markers ≡ length e.markers
each_counts part plan count e =
    for_each_keeps (λ (x : Exchange). length x.markers ≡ length e.markers) (after_part part plan) (λ k x is. part_counts part plan k x ∙ is) count e refl

-- the first `made` markers have done their part
pub record HaveDone {O : Type 0} (Describes : O → Detail → ℕ → List Item → Type 0) (part : Part) (first : OfPlan) (observer : O) (now : OfPlan) (observed : O)
    (made : ℕ) : Type 0 where
  pub office : now ≡ record first { exchange = for_each (after_part part first.plan) made first.exchange }
  pub seen : ChangesAs Describes (walk_for_each (walk_of_part part) made) first observer now observed

module _ {O : Type 0} (Describes : O → Detail → ℕ → List Item → Type 0) (part : Part) (first : OfPlan) (observer : O) where
  pub none_done : HaveDone Describes part first observer first observer 0
  unfolding for_each walk_for_each
  none_done = record { office = refl; seen = λ w agrees. agrees }

  module _ (now : OfPlan) (observed : O) (made : ℕ) (so_far : HaveDone Describes part first observer now observed made) where
    pub count_kept : length now.exchange.markers ≡ length first.exchange.markers
    count_kept = ap (λ (o : OfPlan). length o.exchange.markers) so_far.office ∙ each_counts part first.plan made first.exchange

    pub one_done : (next : OfPlan) (more : O) → next ≡ record now { exchange = after_part part now.plan made now.exchange }
        → ChangesAs Describes (walk_of_part part made) now observed next more
        → HaveDone Describes part first observer next more (made + 1)
    unfolding for_each walk_for_each
    one_done next more is changes =
        let one_more : suc made ≡ made + 1 = omega arith in
        subst (HaveDone Describes part first observer next more) one_more (record {
          office = is ∙ ap (λ (o : OfPlan). record o { exchange = after_part part o.plan made o.exchange }) so_far.office;
          seen = λ w agrees. changes (walk_for_each (walk_of_part part) made w) (so_far.seen w agrees);
        })

-- the three parts are a settling
abbrev after_each : Part → OfPlan → OfPlan
after_each part o = record o { exchange = for_each (after_part part o.plan) (length o.exchange.markers) o.exchange }

module _ (first past back last : OfPlan) (one : past ≡ after_each EndPastTurn first) (two : back ≡ after_each GiveBack past)
    (three : last ≡ after_each End back) where
  past_counts : length past.exchange.markers ≡ length first.exchange.markers
  past_counts = ap (λ (o : OfPlan). length o.exchange.markers) one ∙ each_counts EndPastTurn first.plan (length first.exchange.markers) first.exchange

  back_counts : length back.exchange.markers ≡ length first.exchange.markers
  back_counts = ap (λ (o : OfPlan). length o.exchange.markers) two ∙ each_counts GiveBack past.plan (length past.exchange.markers) past.exchange ∙ past_counts

  abbrev of_count : Part → ℕ → OfPlan → OfPlan
  of_count part count o = record o { exchange = for_each (after_part part o.plan) count o.exchange }

  pub settled_is : last ≡ record first { exchange = settled first.plan first.exchange }
  settled_is =
      three ∙ ap (λ (n : ℕ). of_count End n back) back_counts
      ∙ ap (of_count End (length first.exchange.markers))
      (two ∙ ap (λ (n : ℕ). of_count GiveBack n past) past_counts ∙ ap (of_count GiveBack (length first.exchange.markers)) one)

  pub settling_seen : {O : Type 0} (Describes : O → Detail → ℕ → List Item → Type 0) (observer said ended given all : O)
      → Adds Describes settling_item observer said
      → ChangesAs Describes (walk_for_each (walk_of_part EndPastTurn) (length first.exchange.markers)) first said past ended
      → ChangesAs Describes (walk_for_each (walk_of_part GiveBack) (length past.exchange.markers)) past ended back given
      → ChangesAs Describes (walk_for_each (walk_of_part End) (length back.exchange.markers)) back given last all
      → ChangesAs Describes walk_of_settling first observer last all
  settling_seen Describes observer said ended given all adds ends gives finishes w agrees =
      let begun : Walk = record w { items = w.items ++ settling_item w.detail ∷ [] } in
      let n : ℕ = length first.exchange.markers in
      let at_ended = ends begun (record { office_is = agrees.office_is; described = adds w.detail w.number w.items agrees.described }) in
      let at_given = gives (walk_for_each (walk_of_part EndPastTurn) n begun) at_ended in
      let at_all =
      finishes (walk_for_each (walk_of_part GiveBack) (length past.exchange.markers) (walk_for_each (walk_of_part EndPastTurn) n begun)) at_given in
      let same : walk_for_each (walk_of_part End) (length back.exchange.markers)
      (walk_for_each (walk_of_part GiveBack) (length past.exchange.markers) (walk_for_each (walk_of_part EndPastTurn) n begun)) ≡ walk_of_settling w =
      ap (λ (count : ℕ). walk_for_each (walk_of_part End) count
      (walk_for_each (walk_of_part GiveBack) (length past.exchange.markers) (walk_for_each (walk_of_part EndPastTurn) n begun))) back_counts
      ∙ ap (λ (count : ℕ). walk_for_each (walk_of_part End) n (walk_for_each (walk_of_part GiveBack) count (walk_for_each (walk_of_part EndPastTurn) n begun)))
      past_counts
      ∙ ap (λ (count : ℕ). walk_for_each (walk_of_part End) count
      (walk_for_each (walk_of_part GiveBack) count (walk_for_each (walk_of_part EndPastTurn) count begun)))
      (sym (ap (λ (o : OfPlan). length o.exchange.markers) agrees.office_is)) in
      subst (AgreesWith Describes last all) same at_all
