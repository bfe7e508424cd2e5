-- no link carries two calls: each closed crosspoint belongs to a path, and all at one link to one path
use Rattle.std.proofs.Common.{◌≡◌, ℕ, ◌++◌, List, map, slice_index, inl, inr, refl, sym, ◌∙◌, ap, subst, arith}
use Rattle.{turns.{specs.{Among.IsIn, Script.run, System.IsUnder}, proofs.Lists.{in_back, in_either, in_front}}, xbar_equip.specs.Crosspoint.crosspoints}
use Rattle.xbar_equip.{specs.{Link.Link, Path.IsPath, declared.{crosspoint.Crosspoint.Crosspoint, path.Path.Path}}, proofs.Meeting.{HasLink, share}}
use Rattle.{xbar_switch.specs.Field.field_of, xbar_match.specs.{Effects.IsCrosspoint, Shows.{IsClosedIn, ShowsPaths}, Switches.{held_at, shape_at}}}
use Rattle.{xbar_match.proofs.PathEffects.crosspoint, xbar_plan.specs.{Lawful.IsLawful, Tables.Tables}, xbar_office.specs.{LawfulSet.IsOrderlySet, Legal.after}}
use Rattle.xbar_jobs.specs.{Attempt.Attempt, Closing.{value_after as made_of}, Jobs.script, Office.office, declared.decision.Decision.Decision}
use Rattle.{xbar_jobs.specs.declared.effect.Effect.{Effect, TheVariants.Open}, xbar_moves.specs.{Exchange.{Exchange, IsLawfulExchange}, Holding.completed}}
use Rattle.xbar_moves.{specs.Links.{BelongsTo, IsAtLink, IsClosed}, proofs.{Among.{among_equip, among_turns}, ClosedCrosspoints.{HasLeft, left_or_stays}}}
use Rattle.xbar_moves.proofs.{LeftEffects.spared, LetGo.{LetsGo, job_lets_go}, LinkSides.{HasOnWord, has_link, word_at_link}, Records.completed_shows}
use Rattle.xbar_moves.proofs.{TakenOut.{AreOpens, IsOpened, in_opens, opened_by, opens_in, opens_so_far}, TurnedJobs.{Decided, before, decided}}
use Rattle.xbar_equip.specs.Among as equip

-- what words that show some paths have closed is of one of them
shown_closed : (words : List ℕ) (paths : List Path) (c : Crosspoint) → ShowsPaths words paths → IsClosed words c → IsClosedIn paths c
shown_closed words paths c shows is = elim ((shows.switch c.word is.word).others c.field is.field) [
  | inl zero ↦ let nothing : c.value ≡ 0 = sym is.held ∙ zero in absurd (omega (arith, nothing, is.closed))
  | inr closed ↦ subst (λ (value : ℕ). IsClosedIn paths (record { word = c.word; field = c.field; value = value })) is.held closed
]

-- of paths that lie apart, those that have a crosspoint at one link are one
one_path : (plan : Tables) (paths : List Path) (link : Link) (c : Crosspoint) (p q : Path) → IsOrderlySet plan paths → equip.IsIn p paths → equip.IsIn q paths
    → IsAtLink link c → IsIn c (crosspoints p) → HasLink q link → p ≡ q
one_path plan paths link c p q orderly in_p in_q at has linked =
    orderly.apart p q in_p in_q (share p q link (has_link link c p at (orderly.ranges p in_p) has) linked)

module _ (plan : Tables) (laws : IsLawful plan) (e : Exchange) (lawful : IsLawfulExchange plan e) where
  -- a crosspoint that a marker has left to open
  module _ (c : Crosspoint) (has : HasLeft e c) where
    abbrev a : Attempt
    a = has.attempt

    abbrev did : Decided plan e has.k a
    did = decided plan laws e lawful has.k has.number has.turn a has.at has.past

    abbrev paths : List Path
    paths = before plan e did.place

    abbrev decision : Decision
    decision = run did.words (script plan a.job)

    goes : LetsGo plan paths a.job decision
    goes = job_lets_go plan did.words paths a.job laws (omega (arith, did.size)) did.shows did.job

    -- what it has made, and what it has left, is of its decision
    among_made : (d : Crosspoint) → IsIn (Open d) did.made → IsOpened plan paths a.job decision d
    among_made d made = opened_by plan paths a.job decision goes d (subst (IsIn (Open d)) (sym did.effects) (in_front (Open d) did.made a.effects made))

    -- it is of a path that goes
    opened : IsOpened plan paths a.job decision c
    opened = opened_by plan paths a.job decision goes c (subst (IsIn (Open c)) (sym did.effects) (in_back (Open c) did.made a.effects has.left))

    in_path : IsPath opened.path
    in_path = did.shows.lawful.orderly.ranges opened.path opened.goes.there

    -- what is left of that path has to be opened
    left_belongs : (d : Crosspoint) → IsIn d (crosspoints opened.path) → IsIn (Open d) a.effects → BelongsTo plan e opened.path d
    left_belongs d own left = record {
      has = own;
      why = inr (record {
        k = has.k;
        place = did.place;
        attempt = a;
        past = did.past;
        before = among_turns opened.path paths opened.goes.there;
        gone = λ within. opened.goes.gone (subst (λ (all : List Path). equip.IsIn opened.path all) did.next (among_equip opened.path _ within));
        left = left;
      });
    }

    -- another closed crosspoint at a link of it is of the same path, and left to be opened too
    module _ (link : Link) (at : IsAtLink link c) (d : Crosspoint) (closed : IsClosed e.words d) (also : IsAtLink link d) where
      linked : HasLink opened.path link
      linked = has_link link c opened.path at in_path opened.has

      beside : HasOnWord opened.path d.word
      beside = word_at_link link d opened.path also linked

      is_under : (x : Crosspoint) → IsIn (Open x) (did.made ++ a.effects) → IsUnder (office plan) a.held x.word
      is_under x within = elim (in_either (Open x) did.made a.effects within) [
        | inl made ↦ did.made_under (Open c) has.left (Open x) made
        | inr left ↦ did.left_under (Open x) left
      ]

      under : IsUnder (office plan) a.held d.word
      under =
          subst (IsUnder (office plan) a.held) beside.on (is_under beside.crosspoint
          (subst (IsIn (Open beside.crosspoint)) did.effects (opened.all beside.crosspoint beside.has)))

      opens : AreOpens did.made
      opens = opens_so_far plan paths a.job decision goes did.made a.effects did.effects c has.left

      in_made : (x : Crosspoint) → IsIn x opens.cs → IsIn (Open x) did.made
      in_made x within = subst (IsIn (Open x)) (sym opens.are) (opens_in x opens.cs within)

      made_range : (x : Crosspoint) → IsIn x opens.cs → IsCrosspoint x
      made_range x within =
          let of_path = among_made x (in_made x within) in
          crosspoint of_path.path x (did.shows.lawful.orderly.ranges of_path.path of_path.goes.there) of_path.has

      -- its field, by what the openings so far made of it
      field_now : field_of (shape_at d.word) (made_of (map Open opens.cs) d.word (slice_index did.words d.word)) d.field ≡ d.value
      field_now =
          ap (λ (made : List Effect). field_of (shape_at d.word) (made_of made d.word (slice_index did.words d.word)) d.field) (sym opens.are)
          ∙ ap (λ word. field_of (shape_at d.word) word d.field) (sym (did.since d.word under))
          ∙ closed.held

      -- so it was closed at the turn, and none of the openings was on it
      record WasClosed : Type 0 where
        pub then : IsClosed did.words d
        pub none : ¬ IsIn d opens.cs

      was_closed : WasClosed
      was_closed = elim (spared plan d.word d.field closed.field opens.cs (slice_index did.words d.word) made_range) [
        | inl opened ↦ let nothing : d.value ≡ 0 = sym field_now ∙ opened in absurd (omega (arith, nothing, closed.closed))
        | inr kept ↦ record {
          then = record { word = closed.word; field = closed.field; closed = closed.closed; held = sym kept.0 ∙ field_now };
          none = λ within. kept.1 d within refl refl;
        }
      ]

      own : IsIn d (crosspoints opened.path)
      own =
          let of_path = shown_closed did.words paths d did.shows.switches was_closed.then in
          subst (λ (p : Path). IsIn d (crosspoints p)) (one_path plan paths link d of_path.0 opened.path did.shows.lawful.orderly of_path.1 opened.goes.there
          also of_path.2 linked) of_path.2

      left : IsIn (Open d) a.effects
      left = elim (in_either (Open d) did.made a.effects (subst (IsIn (Open d)) did.effects (opened.all d own))) [
        | inl made ↦ absurd (was_closed.none (in_opens d opens.cs (subst (IsIn (Open d)) opens.are made)))
        | inr later ↦ later
      ]

      also_belongs : BelongsTo plan e opened.path d
      also_belongs = left_belongs d own left

      also_left : HasLeft e d
      also_left = record { k = has.k; number = has.number; turn = has.turn; attempt = a; at = has.at; past = has.past; left = left }

  -- a crosspoint that stays closed is of a path of the set after all records
  stays_in : (c : Crosspoint) → IsClosed e.words c → held_at (completed plan e) c.word c.field ≡ c.value → IsClosedIn (after plan e.records) c
  stays_in c closed stays =
      shown_closed (completed plan e) (after plan e.records) c (completed_shows plan e lawful).switches
      (record { word = closed.word; field = closed.field; closed = closed.closed; held = stays })

  stays_belongs : (c : Crosspoint) (path : Path) → equip.IsIn path (after plan e.records) → IsIn c (crosspoints path) → BelongsTo plan e path c
  stays_belongs c path within own = record { has = own; why = inl (among_turns path (after plan e.records) within) }

  -- each closed crosspoint belongs to a path
  pub belongs : (c : Crosspoint) → IsClosed e.words c → (path : Path) × BelongsTo plan e path c
  belongs c closed = elim (left_or_stays plan laws e lawful c closed) [
    | inl has ↦ let is = opened c has in (is.path, left_belongs c has c is.has has.left)
    | inr stays ↦ let is = stays_in c closed stays.1 in (is.0, stays_belongs c is.0 is.1 is.2)
  ]

  -- all closed crosspoints at one link belong to one path
  pub one_call : (link : Link) (c : Crosspoint) → IsClosed e.words c → IsAtLink link c
      → (path : Path) × ((d : Crosspoint) → IsClosed e.words d → IsAtLink link d → BelongsTo plan e path d)
  one_call link c closed at = elim (left_or_stays plan laws e lawful c closed) [
    | inl has ↦ let is = opened c has in (is.path, λ d other also. also_belongs c has link at d other also)
    | inr stays ↦ let is = stays_in c closed stays.1 in (
      is.0,
      λ d other also. elim (left_or_stays plan laws e lawful d other) [
        | inl has ↦ absurd (stays.0 (also_left d has link also c closed at))
        | inr remains ↦
            let beside = stays_in d other remains.1 in
            let orderly = (completed_shows plan e lawful).lawful.orderly in
            let same =
            one_path plan (after plan e.records) link d beside.0 is.0 orderly beside.1 is.1 also beside.2
            (has_link link c is.0 at (orderly.ranges is.0 is.1) is.2) in
            stays_belongs d is.0 is.1 (subst (λ (p : Path). IsIn d (crosspoints p)) same beside.2)
      ],
    )
  ]
