-- what a described step does to an office, and the invariant of loops over described steps
use Rattle.std.proofs.Common.{◌≡◌, ℕ, zero, suc, ◌+◌, ◌-◌, ◌<◌, ◌≤◌, Bool, true, false, [], ◌∷◌, ◌++◌, drop, length, length-append, refl, sym, ◌∙◌, ap, subst}
use Rattle.std.proofs.Common.{arith, Option, Some, None, if◌then◌else◌, slice_get}
use Rattle.{xbar_plan.specs.Tables.Tables, xbar_office.specs.declared.reply.Record.Record, xbar_jobs.specs.declared.program.Step.Step}
use Rattle.xbar_moves.specs.{AtWork.{is_turned, next_step_at}, Exchange.{Exchange, Marker, OfPlan, at_marker, is_idle}}
use Rattle.xbar_moves.{specs.{Moves.{after_step, event_at_step, steps}, Runs.Steps, declared.event.Event.Event}, proofs.Markers.none_within}
use Rattle.{xbar_moves.proofs.{StepCases.step_count, Stepping.step_idle}, xbar_core.proofs.{GrownRecords.move_begins, Loops.{AreLeft, all_left, some_made}}}
use Rattle.xbar_walk.specs.{Walks.{Walk, added_by, walk_of_step, is_idle_in, is_past_turn_in, next_of, observation_of, walk_of_steps}, Items.{Item, step_item}}
use Rattle.xbar_walk.specs.{Observers.{AgreesWith, ChangesAs}, Stories.{AddsStep, IsStory}, declared.story.Story.Story}
use Rattle.xbar_step_text.specs.{Lines.one_more, Observed.found_by, declared.observation.Observation.Observation}
use Rattle.xbar_jobs.specs.declared.program.Step.TheVariants as step

-- the office after marker k's next step
abbrev pub stepped : ℕ → OfPlan → OfPlan
stepped k o = record o { exchange = after_step o.plan k o.exchange }

-- the walk after a step that is made
abbrev pub after_made : ℕ → Walk → Walk
after_made k w = record {
  detail = w.detail;
  office = stepped k w.office;
  number = one_more w.number;
  items =
      w.items ++ step_item w.detail (one_more w.number) k (observation_of w.office.plan k w.office.exchange) (added_by w.office.plan k w.office.exchange) ∷ [];
}

-- if there is no marker with a number, none makes a step
nobody_steps : (plan : Tables) (k : ℕ) (e : Exchange) → slice_get e.markers k ≡ None → after_step plan k e ≡ e
unfolding after_step
nobody_steps plan k e none = rw none refl

module _ (k : ℕ) (w : Walk) where
  -- an idle marker makes no step and adds no item
  pub idle_tells_none : is_idle_in w.office.exchange k ≡ true → walk_of_step k w ≡ w
  unfolding walk_of_step
  idle_tells_none idle = ap (λ (b : Bool). if b then w else after_made k w) idle

  pub made_is_told : is_idle_in w.office.exchange k ≡ false → walk_of_step k w ≡ after_made k w
  unfolding walk_of_step
  made_is_told goes = ap (λ (b : Bool). if b then w else after_made k w) goes

  -- the office is the one after the step
  idle_stays : is_idle_in w.office.exchange k ≡ true → stepped k w.office ≡ w.office
  idle_stays idle = by (slice_get w.office.exchange.markers k) refl where
    same : after_step w.office.plan k w.office.exchange ≡ w.office.exchange → stepped k w.office ≡ w.office
    same is = ap (λ (e : Exchange). record w.office { exchange = e }) is

    by : (found : Option Marker) → slice_get w.office.exchange.markers k ≡ found → stepped k w.office ≡ w.office
    by None none = same (nobody_steps w.office.plan k w.office.exchange none)
    by (Some m) there = same (step_idle w.office.plan w.office.exchange k m there (sym (ap (at_marker true (λ o. is_idle o.work)) there) ∙ idle))

  pub told_office : (walk_of_step k w).office ≡ stepped k w.office
  told_office = by (is_idle_in w.office.exchange k) refl where
    by : (idle : Bool) → is_idle_in w.office.exchange k ≡ idle → (walk_of_step k w).office ≡ stepped k w.office
    by true is = ap (λ (x : Walk). x.office) (idle_tells_none is) ∙ sym (idle_stays is)
    by false is = ap (λ (x : Walk). x.office) (made_is_told is)

-- so too after many steps
pub steps_office : (k count : ℕ) (w : Walk) → (walk_of_steps k count w).office ≡ record w.office { exchange = steps w.office.plan k count w.office.exchange }
unfolding walk_of_steps steps
steps_office k zero w = refl
steps_office k (suc count) w =
    steps_office k count (walk_of_step k w)
    ∙ ap (λ (o : OfPlan). record o { exchange = steps o.plan k count o.exchange }) (told_office k w)

-- many steps of an idle marker change nothing
idle_tells_nothing : (k count : ℕ) (w : Walk) → is_idle_in w.office.exchange k ≡ true → walk_of_steps k count w ≡ w
unfolding walk_of_steps
idle_tells_nothing k zero w idle = refl
idle_tells_nothing k (suc count) w idle = ap (walk_of_steps k count) (idle_tells_none k w idle) ∙ idle_tells_nothing k count w idle

-- some steps and then more
pub walk_then : (k count more : ℕ) (w : Walk) → walk_of_steps k (count + more) w ≡ walk_of_steps k more (walk_of_steps k count w)
unfolding walk_of_steps
walk_then k zero more w = let none : 0 + more ≡ more = omega arith in ap (λ (n : ℕ). walk_of_steps k n w) none
walk_then k (suc count) more w = let one : suc count + more ≡ suc (count + more) = omega arith in
    ap (λ (n : ℕ). walk_of_steps k n w) one ∙ walk_then k count more (walk_of_step k w)

-- some of a marker's steps were made
pub record AreTold (first : OfPlan) (story : Story) (now : OfPlan) (told : Story) (k count made : ℕ) : Type 0 where
  pub office : AreLeft first now k count (count - made)
  pub seen : ChangesAs IsStory (walk_of_steps k made) first story now told

pub none_told : (first : OfPlan) (story : Story) (k count : ℕ) → AreTold first story first story k count 0
unfolding walk_of_steps
none_told first story k count =
    let all : count ≡ count - 0 = omega arith in
    record { office = subst (AreLeft first first k count) all (all_left first k count); seen = λ w agrees. agrees }

module _ (first now : OfPlan) (story told : Story) (k count made : ℕ) (so_far : AreTold first story now told k count made) where
  pub one_told : (next : OfPlan) (more : Story) → made < count → next ≡ stepped k now → ChangesAs IsStory (walk_of_step k) now told next more
      → AreTold first story next more k count (made + 1)
  unfolding steps walk_of_steps
  one_told next more below is changes =
      let less : count - made - 1 ≡ count - (made + 1) = omega arith in
      record {
        office = subst (AreLeft first next k count) less (some_made first now next k count (count - made) 1 (omega (arith, below)) so_far.office is);
        seen = λ w agrees. subst (AgreesWith IsStory next more) (sym (walk_then k made 1 w)) (changes (walk_of_steps k made w) (so_far.seen w agrees));
      }

  -- and those that are left change nothing
  pub all_seen : made ≤ count → ((w : Walk) → AgreesWith IsStory now told w → walk_of_steps k (count - made) w ≡ w)
      → ChangesAs IsStory (walk_of_steps k count) first story now told
  all_seen within rests w agrees =
      let at = so_far.seen w agrees in
      let parts : made + (count - made) ≡ count = omega (arith, within) in
      subst (AgreesWith IsStory now told) (sym (rests (walk_of_steps k made w) at) ∙ sym (walk_then k made (count - made) w)
      ∙ ap (λ (n : ℕ). walk_of_steps k n w) parts) at

  pub none_seen : count ≤ made → made ≤ count → ChangesAs IsStory (walk_of_steps k count) first story now told
  unfolding walk_of_steps
  none_seen past within = let none : count - made ≡ 0 = omega (arith, past) in all_seen within (λ w agrees. ap (λ (n : ℕ). walk_of_steps k n w) none)

  pub idle_seen : made ≤ count → is_idle_in now.exchange k ≡ true → ChangesAs IsStory (walk_of_steps k count) first story now told
  idle_seen within idle =
      all_seen within (λ w agrees. idle_tells_nothing k (count - made) w (ap (λ (o : OfPlan). is_idle_in o.exchange k) agrees.office_is ∙ idle))

-- the marker of a number that there is
pub marker_at : (e : Exchange) (k : ℕ) → k < length e.markers → (m : Marker) × (slice_get e.markers k ≡ Some m)
marker_at e k within = by (slice_get e.markers k) refl where
  by : (found : Option Marker) → slice_get e.markers k ≡ found → (m : Marker) × (slice_get e.markers k ≡ Some m)
  by None none = absurd (none_within e.markers k within none)
  by (Some m) there = (m, there)

module _ (e : Exchange) (k : ℕ) (within : k < length e.markers) where
  -- whether a marker is idle, by what an exchange answers of the marker that is there
  pub idle_is : (idle : Bool) → ((m : Marker) → slice_get e.markers k ≡ Some m → idle ≡ is_idle m.work) → is_idle_in e k ≡ idle
  idle_is idle is = let at = marker_at e k within in ap (at_marker true (λ o. is_idle o.work)) at.1 ∙ sym (is at.0 at.1)

  -- whether it is past its turn
  pub past_is : (past : Bool) → ((m : Marker) → slice_get e.markers k ≡ Some m → past ≡ is_turned m.work) → is_past_turn_in e k ≡ past
  past_is past is = let at = marker_at e k within in ap (at_marker false (λ o. is_turned o.work)) at.1 ∙ sym (is at.0 at.1)

  -- which step it makes next
  pub next_is : (next : Step) → ((m : Marker) → slice_get e.markers k ≡ Some m → next ≡ next_step_at m.work) → next_of e k ≡ next
  next_is next is = let at = marker_at e k within in ap (at_marker step.Finished (λ o. next_step_at o.work)) at.1 ∙ sym (is at.0 at.1)

-- a step leaves as many markers, and all records that there were
pub step_within : (o next : OfPlan) (k : ℕ) → k < length o.exchange.markers → next ≡ stepped k o → k < length next.exchange.markers
step_within o next k within is =
    let same = ap (λ (x : OfPlan). length x.exchange.markers) is ∙ step_count o.plan o.exchange k in
    omega (arith, same)

pub records_within : (o next : OfPlan) (k : ℕ) → next ≡ stepped k o → length o.exchange.records ≤ length next.exchange.records
records_within o next k is =
    let more = move_begins o.plan o.exchange (Steps k) in
    let size = ap (λ (x : OfPlan). length x.exchange.records) is ∙ ap (length {A = Record}) more.1 ∙ length-append o.exchange.records more.0 in
    omega (arith, size)

-- all that is observed of the step
pub told_is : (o next : OfPlan) (k found : ℕ) (made after : Step) (came : Event) → next_of o.exchange k ≡ made → found ≡ found_by o.exchange.words made
    → came ≡ event_at_step o.plan k o.exchange
    → next ≡ stepped k o → next_of next.exchange k ≡ after
    → ◌≡◌ {A = Observation} (record { step = made; found = found; event = came; next = after }) (observation_of o.plan k o.exchange)
told_is o next k found made after came step_is found_is came_is is after_is =
    let same_found = found_is ∙ ap (found_by o.exchange.words) (sym step_is) in
    let same_after = sym after_is ∙ ap (λ (x : OfPlan). next_of x.exchange k) is in
    λ i. record { step = sym step_is i; found = same_found i; event = came_is i; next = same_after i }

-- an office and a story after a step that was made and added agree with the walk after it
pub made_tells : (k : ℕ) (office next : OfPlan) (story later : Story) (before : ℕ) (observed : Observation) → is_idle_in office.exchange k ≡ false
    → next ≡ stepped k office → observed ≡ observation_of office.plan k office.exchange
    → before ≡ length office.exchange.records → AddsStep (λ detail number. step_item detail number k observed (drop before next.exchange.records)) story later
    → ChangesAs IsStory (walk_of_step k) office story next later
made_tells k office next story later before observed goes next_is told_is before_is adds w agrees =
    let d = w.detail in
    let n = one_more w.number in
    let same =
    ap (λ (t : Observation). step_item d n k t (drop before next.exchange.records)) told_is
    ∙ ap (λ (b : ℕ). step_item d n k (observation_of office.plan k office.exchange) (drop b next.exchange.records)) before_is
    ∙ ap (λ (o : OfPlan). step_item d n k (observation_of office.plan k office.exchange) (drop (length office.exchange.records) o.exchange.records)) next_is
    ∙ ap (λ (o : OfPlan). step_item d n k (observation_of o.plan k o.exchange) (added_by o.plan k o.exchange)) (sym agrees.office_is) in
    let made : AgreesWith IsStory next later (after_made k w) = record {
      office_is = ap (stepped k) agrees.office_is ∙ sym next_is;
      described = subst (λ (item : Item). IsStory later d n (w.items ++ item ∷ [])) same (adds d w.number w.items agrees.described);
    } in
    subst (AgreesWith IsStory next later) (sym (made_is_told k w (ap (λ (o : OfPlan). is_idle_in o.exchange k) agrees.office_is ∙ goes))) made
