-- what a release changes in the words
use Rattle.std.proofs.Common.{◌≡◌, ℕ, ◌+◌, ◌<◌, ◌≤◌, List, length, fold, inl, inr, refl, sym, ◌∙◌, ap, subst, arith, get_or-set_other, Option, Some}
use Rattle.std.proofs.Common.{slice_index, if◌then◌else◌}
use Rattle.turns.{specs.{Attempt.{HasDecided, seen_of}, Script.run, Seen.AreReadFrom, System.perform_all}, proofs.Walks.walk_run}
use Rattle.xbar_equip.specs.{Conn.conn_eq, Len.{Line, IsLine}, Among.IsIn, Path.IsPath, Paths.without_path, declared.crosspoint.Crosspoint.Crosspoint}
use Rattle.xbar_equip.{specs.declared.path.Path.Path, proofs.{Meeting.meet, PathSets.without-in}}
use Rattle.xbar_plan.{specs.{Tables.{Tables, member_place}, Lawful.IsLawful, declared.group.MemberPlace.MemberPlace}, proofs.MemberPlaces.member_place-numbers}
use Rattle.xbar_match.{specs.{Effects.{IsCrosspoint, open_at}, Shows.IsClosedIn, Switches.{held_at, shape_at}}, proofs.PathEffects.crosspoint}
use Rattle.{xbar_switch.specs.Field.field_of, xbar_office.specs.{Release.without_other, Standing.other_path, declared.job.Job.{Job, TheVariants.Release}}}
use Rattle.xbar_office.{specs.declared.reply.{Card.Card, End.TheVariants.{NoCall, Released}, Reply.Reply}, proofs.EndsOfJobs.left_in}
use Rattle.xbar_jobs.specs.{Attempt.Attempt, Closing.{effects, leave_effects, leave_of, refused, released}, Jobs.script, Office.{ShowsOffice, office}}
use Rattle.xbar_jobs.specs.{Opening.{IsFieldOf, OpensJust, ReleasesJust, call_crosspoints}, Releasing.release_steps, declared.decision.Decision.Decision}
use Rattle.xbar_jobs.{specs.declared.{decision.Leave.Leave, effect.Effect.Effect}, proofs.CallCrosspoints.{IsOfCall, of_call, leave_words, open_all-others}}
use Rattle.xbar_jobs.proofs.{FreedMembers.{busy_before, freed_after, other_stays, others_as_before}, LeaveEffects.{IsLeave, effects_show, effects_due}}
use Rattle.xbar_jobs.proofs.{LeaveEffects.leave_is, OpenedPaths.open_all-elsewhere, ReleaseDecides.{ComesTo, HasNone, LetsGo, release_comes, released_effects}}

module _ (plan : Tables) (words : List ℕ) (paths : List Path) (own : Path) (found : MemberPlace) (laws : IsLawful plan) (long : 453 ≤ length words)
    (shows : ShowsOffice plan words paths)
    (within : IsIn own paths) (here : member_place plan own.place ≡ Some found) where
  abbrev other : Option Path
  other = other_path plan paths own

  abbrev rest : List Path
  rest = without_other (without_path paths own) other

  abbrev cs : List Crosspoint
  cs = call_crosspoints own other

  abbrev after : List ℕ
  after = perform_all (office plan) words (leave_effects (leave_of own other found))

  after_shows : ShowsOffice plan after rest
  after_shows = effects_show plan words paths own found laws long shows within here

  numbers : (found.group < 16) × (found.index < 40)
  numbers = member_place-numbers plan laws own.place found here

  -- each crosspoint of the call is of a path of the set
  path_in : (c : Crosspoint) (is : IsOfCall own other c) → IsIn is.path paths
  path_in c is = elim is.goes [
    | inl same ↦ subst (λ (path : Path). IsIn path paths) (sym same) within
    | inr goes ↦ (without-in paths own is.path shows.lawful.orderly.set (other_stays plan paths own found laws shows.lawful within here is.path goes)).0
  ]

  range_of : (c : Crosspoint) (is : IsOfCall own other c) → IsPath is.path
  range_of c is = shows.lawful.orderly.ranges is.path (path_in c is)

  is_crosspoint : (c : Crosspoint) → IsIn c cs → IsCrosspoint c
  is_crosspoint c there = let is = of_call own other c there in crosspoint is.path c (range_of c is) is.there

  was_closed : (c : Crosspoint) → IsIn c cs → held_at words c.word c.field ≡ c.value
  was_closed c there =
      let is = of_call own other c there in
      (shows.switches.switch c.word (is_crosspoint c there).word).closed c (is.path, path_in c is, is.there) refl

  -- no path that is left has a crosspoint at its field
  none_left : (c d : Crosspoint) (is : IsOfCall own other c) → IsClosedIn rest d → d.word ≡ c.word → d.field ≡ c.field → ⊥
  none_left c d is closed word field =
      let stays = (left_in paths own other shows.lawful.orderly.set closed.0).0 closed.1 in
      let share = meet closed.0 is.path d c (shows.lawful.orderly.ranges closed.0 stays.0) (range_of c is) closed.2 is.there word field in
      let same = shows.lawful.orderly.apart closed.0 is.path stays.0 (path_in c is) share in
      elim is.goes [
        | inl goes ↦ stays.1 (same ∙ goes)
        | inr goes ↦ stays.2 (goes ∙ ap (λ (path : Path). Some path) (sym same))
      ]

  is_open : (c : Crosspoint) → IsIn c cs → held_at after c.word c.field ≡ 0
  is_open c there =
      let is = of_call own other c there in
      let k = is_crosspoint c there in
      elim ((after_shows.switches.switch c.word k.word).others c.field k.field) [
        | inl zero ↦ zero
        | inr closed ↦ absurd (none_left c (record { word = c.word; field = c.field; value = held_at after c.word c.field }) is closed refl refl)
      ]

  abbrev opened : List ℕ
  opened = fold open_at words cs

  -- a word other than the group's is what the opened crosspoints make of it
  word_after : (n : ℕ) → (n ≡ 400 + found.group → ⊥) → slice_index after n ≡ slice_index opened n
  word_after n apart =
      ap (λ (all : List ℕ). slice_index all n) (leave_words plan words own other found) ∙ get_or-set_other opened (400 + found.group) n _ 0 apart

  others_kept : (n v : ℕ) → n < 400 → v < 10 → ¬ IsFieldOf cs n v → held_at after n v ≡ held_at words n v
  others_kept n v below in_range apart =
      ap (λ (word : ℕ). field_of (shape_at n) word v) (word_after n (λ same. omega arith))
      ∙ open_all-others words cs n v (omega arith) is_crosspoint in_range
      (λ c there word field. apart (record { c = c; within = there; word = word; field = field }))

  behind_kept : (n : ℕ) → 416 ≤ n → slice_index after n ≡ slice_index words n
  behind_kept n behind =
      let group = numbers.0 in
      word_after n (λ same. omega arith)
      ∙ open_all-elsewhere words cs n (λ c there same. let k = (is_crosspoint c there).word in omega arith)

  -- letting the call go changes just this
  opens_just : OpensJust cs found.group found.index words after
  opens_just = record {
    closed = was_closed;
    opened = is_open;
    fields = others_kept;
    busy = shows.groups found.group numbers.0 found.index ∙ ap (λ b. if b then 1 else 0) (busy_before plan paths own found laws shows.lawful within here);
    idle = after_shows.groups found.group numbers.0 found.index ∙ ap (λ b. if b then 1 else 0) (freed_after plan paths own found laws shows.lawful within here);
    bits = λ group member below apart.
        after_shows.groups group below member
        ∙ ap (λ b. if b then 1 else 0) (others_as_before plan paths own found laws shows.lawful within here group member (λ same same'. apart (same, same')))
        ∙ sym (shows.groups group below member);
    behind = behind_kept;
  }

  call_released : ReleasesJust plan own other words (leave_effects (leave_of own other found))
  call_released =
      record { found = found; here = here; effects_are = refl; due = effects_due plan words paths own found laws long shows within here; change = opens_just }

-- what lets a call go opens just its crosspoints, and clears just its member's bit
pub releases_just : (plan : Tables) (words : List ℕ) (paths : List Path) → IsLawful plan → 453 ≤ length words → ShowsOffice plan words paths → (leave : Leave)
    → IsLeave plan paths leave
    → (found : MemberPlace) → member_place plan leave.own.place ≡ Some found → ReleasesJust plan leave.own leave.other words (leave_effects leave)
releases_just plan words paths laws long shows leave is found here =
    subst (λ (l : Leave). ReleasesJust plan l.own l.other words (leave_effects l)) (sym (leave_is plan paths leave is))
    (call_released plan words paths leave.own is.found laws long shows is.within is.here)

module _ (plan : Tables) (a : Attempt) (line : Line) (own : Path) (other : Option Path) (words : List ℕ) (paths : List Path)
    (laws : IsLawful plan) (in_range : IsLine line) (does : a.job ≡ Release line) (decided : HasDecided (office plan) a) where
  -- the decision is what the release comes to on the words
  decision_is : AreReadFrom words a.readings → run words (release_steps plan line) ≡ decided.decision
  unfolding script
  decision_is read =
      ap (λ (job : Job). run words (script plan job)) (sym does)
      ∙ walk_run conn_eq words (seen_of a) (script plan a.job) decided.decision read decided.come

  -- so the reply's end is the decision's
  end_is : (cards : List Card) (decision : Decision) → a.reply ≡ Some (record { end = Released own other; cards = cards }) → decided.decision ≡ decision
      → Released own other ≡ decision.reply.end
  end_is cards decision reply d =
      let both : Some (record { end = Released own other; cards = cards }) ≡ Some decided.decision.reply = sym reply ∙ decided.reply in
      let one : record { end = Released own other; cards = cards } ≡ decided.decision.reply = cc in
      ap (λ (r : Reply). r.end) one ∙ ap (λ (x : Decision). x.reply.end) d

  effects_are : (leave : Leave) → decided.decision ≡ released leave → a.effects ≡ leave_effects leave
  effects_are leave d = decided.effects ∙ ap (λ (x : Decision). effects x) d ∙ released_effects leave

  from_decision : (cards : List Card) → a.reply ≡ Some (record { end = Released own other; cards = cards }) → length words ≡ 453 → ShowsOffice plan words paths
      → ComesTo plan paths line decided.decision → ReleasesJust plan own other words a.effects
  from_decision cards reply size shows (HasNone e d) =
      let end : Released own other ≡ NoCall = end_is cards (refused NoCall) reply d in
      absurd cc
  from_decision cards reply size shows (LetsGo leave e is d) =
      let end : Released own other ≡ Released leave.own leave.other = end_is cards (released leave) reply d in
      let own_is : own ≡ leave.own = cc in
      let other_is : other ≡ leave.other = cc in
      let just = releases_just plan words paths laws (omega arith) shows leave is is.found is.here in
      let of_own = subst (λ (path : Path). ReleasesJust plan path leave.other words (leave_effects leave)) (sym own_is) just in
      let of_both = subst (λ (path : Option Path). ReleasesJust plan own path words (leave_effects leave)) (sym other_is) of_own in
      subst (λ (made : List Effect). ReleasesJust plan own other words made) (sym (effects_are leave d)) of_both

  -- from its turn on a release opens just the call that its reply names
  pub a_release_opens_just_its_call : (cards : List Card) → a.reply ≡ Some (record { end = Released own other; cards = cards }) → length words ≡ 453
      → ShowsOffice plan words paths → AreReadFrom words a.readings
      → ReleasesJust plan own other words a.effects
  a_release_opens_just_its_call cards reply size shows read =
      from_decision cards reply size shows (subst (ComesTo plan paths line) (decision_is read) (release_comes plan words paths laws shows line in_range))
