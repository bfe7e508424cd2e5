-- an attempt frees locks in giving back or once its effects are made, and keeps them until then
use Rattle.std.proofs.Common.{◌≡◌, ◌≢◌, ◌⊎◌, ℕ, Bool, true, false, List, [], ◌∷◌, ◌++◌, inl, inr, refl, sym, ap, subst, if◌then◌else◌}
use Rattle.turns.specs.{Among.IsIn, System.System, Attempt.{AttemptOf, act, act_in, change, changed, closing_act, denied, forgotten, free_act, giving_back}}
use Rattle.turns.specs.{Attempt.{operated, rest_of, walks_on}, declared.{act.Act.TheVariants.Free, answer.Answer.{Answer, TheVariants.{Asked, Seized, Held}}}}
use Rattle.turns.specs.declared.{answer.Answer.TheVariants.{Preferred, Again, Value, Turn, Done}, phase.Phase.{Phase, TheVariants.{Requests, Seizes, Tests}}}
use Rattle.turns.{specs.declared.phase.Phase.TheVariants.{Turns, Withdraws, GivesBack, Operates}, proofs.{Lists.in_front, Sound.{freed_held, walks_held}}}

module _ (O : System) where
  open O use {Lock, Effect}

  closes_last : (effects : List Effect) (held : List Lock) (lock : Lock)
      → closing_act effects held ≡ Free lock → effects ≡ []
  closes_last [] held lock frees = refl
  closes_last (effect ∷ effects) held lock frees = absurd cc

  frees_in : (a : AttemptOf O) (phase : Phase Lock ℕ) (lock : Lock) → act_in phase a ≡ Free lock
      → (phase ≡ GivesBack) ⊎ ((turn : ℕ) × (phase ≡ Operates turn) × (a.effects ≡ []))
  frees_in a (Requests asked) lock frees = absurd cc
  frees_in a (Seizes asked expected) lock frees = absurd cc
  frees_in a (Tests word) lock frees = absurd cc
  frees_in a Turns lock frees = absurd cc
  frees_in a (Withdraws asked) lock frees = absurd cc
  frees_in a GivesBack lock frees = inl refl
  frees_in a (Operates turn) lock frees = inr (turn, refl, closes_last a.effects a.held lock frees)

  pub frees_when : (a : AttemptOf O) (lock : Lock) → act a ≡ Free lock
      → (a.phase ≡ GivesBack) ⊎ ((turn : ℕ) × (a.phase ≡ Operates turn) × (a.effects ≡ []))
  frees_when a lock frees = frees_in a a.phase lock frees

  -- but for the one that it frees it keeps all
  kept_freed : (lock : Lock) (held : List Lock) → IsIn lock held
      → free_act {Effect = Effect} held ≢ Free lock → IsIn lock (rest_of held)
  kept_freed lock [] within other = absurd within
  kept_freed lock (first ∷ held) (inl same) other = absurd (other (ap Free (sym same)))
  kept_freed lock (first ∷ held) (inr later) other = later

  kept_operated : (a : AttemptOf O) (lock : Lock) (effects : List Effect) → IsIn lock a.held
      → closing_act effects a.held ≢ Free lock → IsIn lock (operated a effects).held
  kept_operated a lock [] within other = kept_freed lock a.held within other
  kept_operated a lock (effect ∷ effects) within other = within

  kept_back : (a : AttemptOf O) (lock : Lock) (held : List Lock) → IsIn lock held
      → IsIn lock (giving_back O a held).held
  kept_back a lock held within = subst (IsIn lock) (sym (freed_held O a held)) within

  kept_on : (a : AttemptOf O) (lock : Lock) → IsIn lock a.held → IsIn lock (walks_on O a).held
  kept_on a lock within = subst (IsIn lock) (sym (walks_held O a)) within

  kept_denied : (asks : Bool) (a : AttemptOf O) (asked lock : Lock) → IsIn lock a.held
      → IsIn lock (if asks then denied a asked else giving_back O (forgotten a) a.held).held
  kept_denied true a asked lock within = within
  kept_denied false a asked lock within = kept_back (forgotten a) lock a.held within

  -- whatever the answer in whatever phase
  kept_in : (a : AttemptOf O) (phase : Phase Lock ℕ) (answer : Answer) (lock : Lock)
      → IsIn lock a.held → act_in phase a ≢ Free lock → IsIn lock (changed O a phase answer).held
  kept_in a (Requests asked) (Asked word) lock within other = within
  kept_in a (Requests asked) Seized lock within other =
      let more = in_front lock a.held (asked ∷ []) within in
      kept_on (record a { held = a.held ++ asked ∷ [] }) lock more
  kept_in a (Requests asked) (Held holder) lock within other =
      kept_denied O.sharing.asks a asked lock within
  kept_in a (Requests asked) (Preferred actor) lock within other =
      kept_denied O.sharing.asks a asked lock within
  kept_in a (Seizes asked expected) Seized lock within other =
      let more = in_front lock a.held (asked ∷ []) within in
      kept_on (record a { held = a.held ++ asked ∷ [] }) lock more
  kept_in a (Seizes asked expected) (Held holder) lock within other = within
  kept_in a (Seizes asked expected) (Preferred actor) lock within other = within
  kept_in a (Seizes asked expected) (Again word) lock within other = within
  kept_in a (Tests word) (Value value) lock within other =
      let readings = a.readings ++ record { word = word; value = value } ∷ [] in
      kept_on (record a { readings = readings }) lock within
  kept_in a Turns (Turn number) lock within other = within
  kept_in a (Withdraws asked) Done lock within other = kept_back a lock a.held within
  kept_in a GivesBack Done lock within other =
      kept_back a lock (rest_of a.held) (kept_freed lock a.held within other)
  kept_in a (Operates turn) Done lock within other = kept_operated a lock a.effects within other
  kept_in a _ _ lock within other = within

  pub keeps_lock : (a : AttemptOf O) (answer : Answer) (lock : Lock) → IsIn lock a.held
      → act a ≢ Free lock → IsIn lock (change O a answer).held
  keeps_lock a answer lock within other = kept_in a a.phase answer lock within other
