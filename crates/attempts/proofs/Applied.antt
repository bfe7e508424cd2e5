-- what attempts make of answers, as the code has it
use Rattle.std.proofs.Common.{◌≡◌, ℕ, Bool, List, [], ◌∷◌, ◌++◌, ◌+◌, refl, sym, ◌∙◌, ap, subst, Some, None, Result, Ok, Err}
use Rattle.turns.specs.{Attempt.{AttemptOf, asked_in, changed, goes_on, operated, rest_of, seen_of, walks_on}, Script.walk, Seen.{AreReadWords, Seen}}
use Rattle.turns.specs.{System.System, declared.answer.Answer.{Answer, TheVariants.{Asked, Seized, Held, Preferred, Again, Value, Turn, Done}}}
use Rattle.turns.specs.declared.{phase.Phase.{Phase, TheVariants.{Requests, Seizes, Tests, Turns, Withdraws, GivesBack, Operates}}, wanted.Wanted.Wanted}
use Rattle.{turns.specs.declared.wanted.Wanted.TheVariants.{Seize, Test}, attempts.specs.{Counting.count_in, WalkOnWords.{WalkOutcome, WalkState}}}
use Rattle.attempts.specs.{WalkOnWords.walk_on_words, Points.GoesOnTo, Running.WalksBySteps, Validity.{CanWalk, ResumePointIsValidIn, AttemptView, attempt_of}}
use Rattle.attempts.specs.{Validity.effects_left, SystemWith.{SystemWith, system_with}, Applied.{FitsValue, Applies, WalksOn, continued}}
use Rattle.attempts.proofs.{Giving.{held_stays, preferred_stays}, Inside.phase_now, WalksOnWords.walk_none}

-- an answer that does not come in a phase changes nothing
module _ (O : System) where
  open O use {Lock}

  idle_asked : (a : AttemptOf O) (phase : Phase Lock ℕ) (word : ℕ) → ((lock : Lock) → phase ≡ Requests lock → ⊥) → a ≡ changed O a phase (Asked word)
  idle_asked a (Requests lock) word not = absurd (not lock refl)
  idle_asked a phase word not = refl

  idle_again : (a : AttemptOf O) (phase : Phase Lock ℕ) (word : ℕ) → ((lock : Lock) (expected : ℕ) → phase ≡ Seizes lock expected → ⊥)
      → a ≡ changed O a phase (Again word)
  idle_again a (Seizes lock expected) word not = absurd (not lock expected refl)
  idle_again a phase word not = refl

  idle_seized : (a : AttemptOf O) (phase : Phase Lock ℕ) → None ≡ asked_in phase → a ≡ changed O a phase Seized
  idle_seized a (Requests lock) none = absurd cc
  idle_seized a (Seizes lock expected) none = absurd cc
  idle_seized a phase none = refl

  -- a lock that is seized in the phase that names it
  pub acquires : (a : AttemptOf O) (phase : Phase Lock ℕ) (lock : Lock) → Some lock ≡ asked_in phase
      → walks_on O (record a { held = a.held ++ lock ∷ [] }) ≡ changed O a phase Seized
  acquires a (Requests own) lock names = let one : lock ≡ own = cc in ap (λ (x : Lock). walks_on O (record a { held = a.held ++ x ∷ [] })) one
  acquires a (Seizes own expected) lock names = let one : lock ≡ own = cc in ap (λ (x : Lock). walks_on O (record a { held = a.held ++ x ∷ [] })) one
  acquires a phase lock names = absurd cc

  idle_value : (a : AttemptOf O) (phase : Phase Lock ℕ) (value : ℕ) → ((word : ℕ) → phase ≡ Tests word → ⊥) → a ≡ changed O a phase (Value value)
  idle_value a (Tests word) value not = absurd (not word refl)
  idle_value a phase value not = refl

  idle_turn : (a : AttemptOf O) (phase : Phase Lock ℕ) (number : ℕ) → (phase ≡ Turns → ⊥) → a ≡ changed O a phase (Turn number)
  idle_turn a Turns number not = absurd (not refl)
  idle_turn a phase number not = refl

  idle_done : (a : AttemptOf O) (phase : Phase Lock ℕ) → ((lock : Lock) → phase ≡ Withdraws lock → ⊥) → (phase ≡ GivesBack → ⊥)
      → ((turn : ℕ) → phase ≡ Operates turn → ⊥) → a ≡ changed O a phase Done
  idle_done a (Withdraws lock) withdraws gives_back operates = absurd (withdraws lock refl)
  idle_done a GivesBack withdraws gives_back operates = absurd (gives_back refl)
  idle_done a (Operates turn) withdraws gives_back operates = absurd (operates turn refl)
  idle_done a phase withdraws gives_back operates = refl

-- an effect is made, or the first lock is freed
module _ {Lock Job Reply Effect Decision ResumePoint : Type 0} (reply_of : Decision → Reply) (effects_of : Decision → List Effect) where
  pub makes_effect : (p now : AttemptView Lock Job Decision ResumePoint) (effect : Effect) → p ≡ now
      → effects_left effects_of now.decision now.made ≡ effect ∷ effects_left effects_of now.decision (now.made + 1)
      → attempt_of reply_of effects_of (record p { made = p.made + 1 })
      ≡ operated (attempt_of reply_of effects_of now) (effects_left effects_of now.decision now.made)
  makes_effect p now effect inside left =
      ap (λ (x : AttemptView Lock Job Decision ResumePoint). attempt_of reply_of effects_of (record x { made = x.made + 1 })) inside
      ∙ ap (operated (attempt_of reply_of effects_of now)) (sym left)

  pub frees_lock : (now new : AttemptView Lock Job Decision ResumePoint) → new ≡ record now { held = rest_of now.held }
      → effects_left effects_of now.decision now.made ≡ []
      → attempt_of reply_of effects_of new ≡ operated (attempt_of reply_of effects_of now) (effects_left effects_of now.decision now.made)
  frees_lock now new made none = ap (attempt_of reply_of effects_of) made ∙ ap (operated (attempt_of reply_of effects_of now)) (sym none)

-- the count goes with the phase that it comes to
pub counted_so : {Lock Job Decision ResumePoint : Type 0} (mid new : AttemptView Lock Job Decision ResumePoint) (before : ℕ) (on : ℕ → ℕ)
    → new ≡ record mid { count = count_in mid.phase mid.held (on mid.count) } → mid.count ≡ before → new.count ≡ count_in new.phase new.held (on before)
counted_so mid new before on made same =
    subst (λ (x : AttemptView _ _ _ _). x.count ≡ count_in x.phase x.held (on before)) (sym made) (ap (λ (n : ℕ). count_in mid.phase mid.held (on n)) same)

module _ {Lock Job Reply Effect Decision ResumePoint : Type 0} (same : Lock → Lock → Bool) (reply_of : Decision → Reply) (effects_of : Decision → List Effect)
    (S : SystemWith Lock Job Reply Effect Decision) (ResumePointIsValid : Job → ResumePoint → Seen Lock → Type 0) where
  abbrev O : System
  O = system_with same reply_of effects_of S

  abbrev Doing : Type 0
  Doing = AttemptView Lock Job Decision ResumePoint

  abbrev outside : Doing → AttemptOf O
  outside p = attempt_of reply_of effects_of p

  abbrev PointHere : Doing → Type 0
  PointHere p = ResumePointIsValidIn ResumePointIsValid (outside p) p.point p.phase

  abbrev Walks : Doing → Doing → Type 0
  Walks old new = WalksOn same reply_of effects_of S ResumePointIsValid old new

  abbrev Took : Answer → Doing → Doing → Type 0
  Took answer old new = Applies same reply_of effects_of S ResumePointIsValid answer old new

  pub took : (now new : Doing) (phase : Phase Lock ℕ) (answer : Answer) → now.phase ≡ phase → FitsValue answer
      → outside new ≡ changed O (outside now) phase answer → PointHere new → new.count ≡ now.count → Took answer now new
  took now new phase answer is fits change point count = record {
    fits = fits;
    change = change ∙ ap (λ (at : Phase Lock ℕ). changed O (outside now) at answer) (sym is);
    point = point;
    count = count;
  }

  idle : (now : Doing) (answer : Answer) → FitsValue answer → PointHere now → outside now ≡ changed O (outside now) now.phase answer → Took answer now now
  idle now answer fits point stays = record { fits = fits; change = stays; point = point; count = refl }

  -- in another phase of the walk the resume point is still valid
  module _ (p now : Doing) (inside : p ≡ now) (point : PointHere now) where
    phases : p.phase ≡ now.phase
    phases = ap (λ (x : Doing). x.phase) inside

    point_in : (phase : Phase Lock ℕ) → p.phase ≡ phase → ResumePointIsValidIn ResumePointIsValid (outside p) p.point phase
    point_in phase is = subst (λ (at : Phase Lock ℕ). ResumePointIsValidIn ResumePointIsValid (outside p) p.point at) is (subst PointHere (sym inside) point)

    with_phase : (phase next : Phase Lock ℕ) (answer : Answer) → p.phase ≡ phase → FitsValue answer
        → outside (record p { phase = next }) ≡ changed O (outside p) phase answer → ResumePointIsValidIn ResumePointIsValid (outside p) p.point next
        → Took answer now (record p { phase = next })
    with_phase phase next answer is fits change valid_point =
        took now (record p { phase = next }) phase answer (phase_now p now phase inside is) fits
        (change ∙ ap (λ (x : Doing). changed O (outside x) phase answer) inside) valid_point (ap (λ (x : Doing). x.count) inside)

    pub asked : (lock : Lock) (word : ℕ) → p.phase ≡ Requests lock → Took (Asked word) now (record p { phase = Seizes lock word })
    asked lock word is = with_phase (Requests lock) (Seizes lock word) (Asked word) is tt refl (point_in (Requests lock) is)

    pub again : (lock : Lock) (expected word : ℕ) → p.phase ≡ Seizes lock expected → Took (Again word) now (record p { phase = Seizes lock word })
    again lock expected word is = with_phase (Seizes lock expected) (Seizes lock word) (Again word) is tt refl (point_in (Seizes lock expected) is)

    pub turned : (number : ℕ) → p.phase ≡ Turns → Took (Turn number) now (record p { phase = Operates number })
    turned number is = with_phase Turns (Operates number) (Turn number) is tt refl tt

    pub not_asked : (word : ℕ) → ((lock : Lock) → p.phase ≡ Requests lock → ⊥) → Took (Asked word) now now
    not_asked word not = idle now (Asked word) tt point (idle_asked O (outside now) now.phase word (λ lock e. not lock (phases ∙ e)))

    pub not_again : (word : ℕ) → ((lock : Lock) (expected : ℕ) → p.phase ≡ Seizes lock expected → ⊥) → Took (Again word) now now
    not_again word not = idle now (Again word) tt point (idle_again O (outside now) now.phase word (λ lock expected e. not lock expected (phases ∙ e)))

    pub not_read : (value : ℕ) → FitsValue (Value value) → ((word : ℕ) → p.phase ≡ Tests word → ⊥) → Took (Value value) now now
    not_read value fits not = idle now (Value value) fits point (idle_value O (outside now) now.phase value (λ word e. not word (phases ∙ e)))

    pub not_turned : (number : ℕ) → (p.phase ≡ Turns → ⊥) → Took (Turn number) now now
    not_turned number not = idle now (Turn number) tt point (idle_turn O (outside now) now.phase number (λ e. not (phases ∙ e)))

    pub not_done : ((lock : Lock) → p.phase ≡ Withdraws lock → ⊥) → (p.phase ≡ GivesBack → ⊥) → ((turn : ℕ) → p.phase ≡ Operates turn → ⊥) → Took Done now now
    not_done withdraws gives_back operates =
        idle now Done tt point (idle_done O (outside now) now.phase (λ lock e. withdraws lock (phases ∙ e)) (λ e. gives_back (phases ∙ e))
        (λ turn e. operates turn (phases ∙ e)))

    -- with no lock to be denied
    module _ (asks : (lock : Lock) → p.phase ≡ Requests lock → ⊥) (seizes : (lock : Lock) (expected : ℕ) → p.phase ≡ Seizes lock expected → ⊥) where
      pub stays_held : (holder : ℕ) → Took (Held holder) now now
      stays_held holder =
          idle now (Held holder) tt point (held_stays O (outside now) now.phase holder (λ lock e. asks lock (phases ∙ e))
          (λ lock expected e. seizes lock expected (phases ∙ e)))

      pub stays_preferred : (other : ℕ) → Took (Preferred other) now now
      stays_preferred other =
          idle now (Preferred other) tt point (preferred_stays O (outside now) now.phase other (λ lock e. asks lock (phases ∙ e))
          (λ lock expected e. seizes lock expected (phases ∙ e)))

  pub operates_point : (p : Doing) (turn : ℕ) → p.phase ≡ Operates turn → PointHere p
  operates_point p turn is = subst (λ (at : Phase Lock ℕ). ResumePointIsValidIn ResumePointIsValid (outside p) p.point at) (sym is) tt

  pub went : (p : Doing) (q : ResumePoint) (found : Result Decision (Wanted Lock ℕ))
      → outside (continued (record p { point = q }) found) ≡ goes_on O (outside p) found
  went p q (Ok decision) = refl
  went p q (Err (Seize lock)) = refl
  went p q (Err (Test word)) = refl

  pub went_point : (p : Doing) (q : ResumePoint) (found : Result Decision (Wanted Lock ℕ)) → ResumePointIsValid p.job q (seen_of (outside p))
      → PointHere (continued (record p { point = q }) found)
  went_point p q (Ok decision) valid_point = tt
  went_point p q (Err (Seize lock)) valid_point = valid_point
  went_point p q (Err (Test word)) valid_point = valid_point

  pub went_count : (p : Doing) (q : ResumePoint) (found : Result Decision (Wanted Lock ℕ)) → (continued (record p { point = q }) found).count ≡ p.count
  went_count p q (Ok decision) = refl
  went_count p q (Err wanted) = refl

  -- it goes on to where its walk leads
  pub walks_to : (old new : Doing) (q : ResumePoint) (found : Result Decision (Wanted Lock ℕ)) → walk same (seen_of (outside old)) (S.script old.job) ≡ found
      → ResumePointIsValid old.job q (seen_of (outside old)) → new ≡ continued (record old { point = q }) found → Walks old new
  walks_to old new q found comes valid_point made = subst (Walks old) (sym made) (record {
    change = went old q found ∙ ap (goes_on O (outside old)) (sym comes);
    point = went_point old q found valid_point;
    count = went_count old q found;
  })

  -- its walk goes on by what it has seen
  module _ (mid p : Doing) (state : WalkState Lock) (inside : p ≡ mid) (state_is : state.seen ≡ seen_of (outside p)) where
    -- what the walk needs next
    pub record Able : Type 0 where
      pub job : S.IsJob p.job
      pub read : AreReadWords state.seen.readings
      pub valid_point : ResumePointIsValid p.job p.point state.seen

    pub able : CanWalk same reply_of effects_of S ResumePointIsValid mid → Able
    able can =
        let here : CanWalk same reply_of effects_of S ResumePointIsValid p =
        subst (λ (x : Doing). CanWalk same reply_of effects_of S ResumePointIsValid x) (sym inside) can in
        record {
          job = here.job;
          read = subst (λ (s : Seen Lock). AreReadWords s.readings) (sym state_is) here.read;
          valid_point = subst (ResumePointIsValid p.job p.point) (sym state_is) here.valid_point;
        }

  -- where the walk leads, as the attempt's view has it
  module _ (reads seizes most held_word : ℕ) (words after : List ℕ) (found : Result Decision (Wanted Lock ℕ)) where
    abbrev BySteps : Doing → Doing → ℕ → Type 0
    BySteps old new left = WalksBySteps same S ResumePointIsValid reads seizes most held_word old words new after found left

    pub walks_by_steps : (old p : Doing) (state more : WalkState Lock) (q : ResumePoint) (left : ℕ) → p ≡ old
        → state ≡ record { seen = seen_of (outside p); left = most; held_word = held_word } → left ≡ more.left
        → record { found = found; state = more; words = after } ≡ walk_on_words same S.lock_word reads seizes (λ word value. value) (S.script p.job) state words
        → ResumePointIsValid p.job q more.seen
        → BySteps old (record p { point = q; readings = more.seen.readings; held = more.seen.held }) left
    walks_by_steps old p state more q left inside state_is left_is walks valid_point =
        subst (λ (x : Doing). BySteps x (record p { point = q; readings = more.seen.readings; held = more.seen.held }) left) inside (record {
          still = refl;
          held_word_then = more.held_word;
          walk =
              ap (λ (n : ℕ). record { found = found; state = record { seen = more.seen; left = n; held_word = more.held_word }; words = after }) left_is ∙ walks
              ∙ ap (λ (x : WalkState Lock). walk_on_words same S.lock_word reads seizes (λ word value. value) (S.script p.job) x words) state_is;
          valid_point = valid_point;
        })

    -- without words it acquires nothing more
    module _ (old mid : Doing) (left : ℕ) (by : BySteps old mid left) (none : words ≡ []) where
      abbrev state : WalkState Lock
      state = record { seen = seen_of (outside old); left = most; held_word = held_word }

      comes : ◌≡◌ {A = WalkOutcome Lock Decision} (record {
        found = found;
        state = record { seen = seen_of (outside mid); left = left; held_word = by.held_word_then };
        words = after;
      }) (record { found = walk same state.seen (S.script old.job); state = state; words = [] })
      comes =
          by.walk ∙ ap (walk_on_words same S.lock_word reads seizes (λ word value. value) (S.script old.job) state) none
          ∙ walk_none same S.lock_word reads seizes (S.script old.job) state

      found_is : found ≡ walk same (seen_of (outside old)) (S.script old.job)
      found_is = ap (λ (x : WalkOutcome Lock Decision). x.found) comes

      seen_is : seen_of (outside mid) ≡ seen_of (outside old)
      seen_is = ap (λ (x : WalkOutcome Lock Decision). x.state.seen) comes

      pub walked : (new : Doing) → new ≡ continued mid found → Walks old new
      walked new made = walks_to old new mid.point found (sym found_is) (subst (ResumePointIsValid old.job mid.point) seen_is by.valid_point)
          (made ∙ ap (λ (x : Doing). continued x found) by.still
          ∙ ap (λ (s : Seen Lock). continued (record old { point = mid.point; readings = s.readings; held = s.held }) found) seen_is)

  -- the same, from an equal attempt
  pub walks_from : (mid made new : Doing) → mid ≡ made → Walks mid new → Walks made new
  walks_from mid made new is by = subst (λ (x : Doing). Walks x new) is by

  -- with a lock or a reading more it goes on through its job
  pub seized : (now mid new : Doing) (lock : Lock) → Some lock ≡ asked_in now.phase → mid ≡ record now { held = now.held ++ lock ∷ [] } → Walks mid new
      → Took Seized now new
  seized now mid new lock asks holds by =
      let change = by.change ∙ ap (λ (x : Doing). walks_on O (outside x)) holds ∙ acquires O (outside now) now.phase lock asks in
      took now new now.phase Seized refl tt change by.point (by.count ∙ ap (λ (x : Doing). x.count) holds)

  -- with no lock to seize it stays
  pub not_seized : (now : Doing) → None ≡ asked_in now.phase → PointHere now → Took Seized now now
  not_seized now none point = idle now Seized tt point (idle_seized O (outside now) now.phase none)

  module _ (now mid new : Doing) (word value : ℕ) (is : now.phase ≡ Tests word) (fits : FitsValue (Value value))
      (notes : mid ≡ record now { readings = now.readings ++ record { word = word; value = value } ∷ [] }) where
    pub reads : Walks mid new → Took (Value value) now new
    reads by =
        took now new (Tests word) (Value value) is fits (by.change ∙ ap (λ (x : Doing). walks_on O (outside x)) notes) by.point
        (by.count ∙ ap (λ (x : Doing). x.count) notes)

    -- or to the word that is tested next whatever the first one showed
    pub follows : (next : ℕ) → GoesOnTo same (record { held = now.held; readings = now.readings }) (S.script now.job) word next
        → CanWalk same reply_of effects_of S ResumePointIsValid mid → new ≡ continued mid (Err (Test next)) → Took (Value value) now new
    follows next goes can made =
        took now new (Tests word) (Value value) is fits change (subst PointHere (sym made) can.valid_point)
        (ap (λ (x : Doing). x.count) made ∙ ap (λ (x : Doing). x.count) notes) where
          change : outside new ≡ changed O (outside now) (Tests word) (Value value)
          change =
              ap outside made ∙ ap (λ (x : Doing). outside (record x { phase = Tests next })) notes
              ∙ ap (goes_on O (record (outside now) { readings = now.readings ++ record { word = word; value = value } ∷ [] })) (sym (goes value))
