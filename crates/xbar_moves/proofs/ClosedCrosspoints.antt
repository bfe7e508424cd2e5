-- a closed crosspoint is to be opened by a marker past its turn, or is closed in the completed words too
use Rattle.std.proofs.Common.{◌≡◌, ◌≢◌, ℕ, zero, suc, ◌<◌, ◌⊎◌, List, [], length, slice_index, inl, inr, refl, sym, ◌∙◌, ap, subst, arith}
use mathlib.Core.Option.{some, some-injective}
use lib.ListN.{get_elem?}
use Rattle.turns.specs.{Among.IsIn, Attempt.effects_left_in, System.IsUnder, World.Does, declared.phase.Phase.TheVariants.Operates}
use Rattle.{turns.proofs.{Completed.perform_index, Consequences.{free_word, held_word}}, xbar_equip.specs.declared.conn.Conn.Conn}
use Rattle.{xbar_equip.specs.declared.crosspoint.Crosspoint.Crosspoint, xbar_switch.specs.Field.field_of, xbar_match.specs.Switches.{held_at, shape_at}}
use Rattle.{xbar_plan.specs.{Lawful.IsLawful, Tables.Tables}, xbar_jobs.specs.{Attempt.{Attempt, Phase}, Closing.{effect_word, value_after as made_of}}}
use Rattle.xbar_jobs.{specs.{Office.{Protects, office}, declared.effect.Effect.{Effect, TheVariants.Open}}, proofs.OfficeSystem.{office_is, word_protected}}
use Rattle.xbar_moves.specs.{Exchange.{Exchange, IsLawfulExchange, Work, world}, Holding.{IsAt, completed}, Links.IsClosed}
use Rattle.xbar_moves.proofs.{Actors.{actor_at, marker_at}, LeftEffects.opens_or_stays, MadeEffects.past_or_not, Markers.works, TurnedJobs.decided}
use Rattle.turns.specs.Law as law

-- a marker past its turn has this crosspoint left to open
pub record HasLeft (e : Exchange) (c : Crosspoint) : Type 0 where
  pub k : ℕ
  pub number : ℕ
  pub turn : ℕ
  pub attempt : Attempt
  pub at : IsAt e k number attempt
  pub past : attempt.phase ≡ Operates turn
  pub left : IsIn (Open c) attempt.effects

module _ (plan : Tables) (laws : IsLawful plan) (e : Exchange) (lawful : IsLawfulExchange plan e) where
  module _ (c : Crosspoint) (closed : IsClosed e.words c) where
    -- a marker that has it left holds the connector of the crosspoint's word
    opener_named : (conn : Conn) → Protects conn c.word → (has : HasLeft e c) → law.holder_at (office plan) e.words conn ≡ suc has.k
    opener_named conn protects has =
        let under = (decided plan laws e lawful has.k has.number has.turn has.attempt has.at has.past).left_under (Open c) has.left in
        let same : under.lock ≡ conn = (office_is plan laws).words.one_protector c.word under.lock conn under.protects protects in
        ap (law.holder_at (office plan) e.words) (sym same)
        ∙ ((lawful.sound has.k has.number has.attempt (actor_at e has.k has.number has.attempt has.at)).held under.lock under.held).names

    -- a closed crosspoint is left to be opened, or nobody has it left and it is closed in the completed words
    abbrev IsLeftOrStays : Type 0
    IsLeftOrStays = HasLeft e c ⊎ (¬ HasLeft e c × (held_at (completed plan e) c.word c.field ≡ c.value))

    stays_by : slice_index (completed plan e) c.word ≡ slice_index e.words c.word → held_at (completed plan e) c.word c.field ≡ c.value
    stays_by same = ap (λ word. field_of (shape_at c.word) word c.field) same ∙ closed.held

    by_nobody : (conn : Conn) → Protects conn c.word → law.holder_at (office plan) e.words conn ≡ 0 → IsLeftOrStays
    by_nobody conn protects free = inr (
      (λ has. let names : 0 ≡ suc has.k = sym free ∙ opener_named conn protects has in cc),
      stays_by (free_word (office plan) (office_is plan laws) (world plan e) lawful c.word conn protects free),
    )

    module _ (conn : Conn) (protects : Protects conn c.word) (k number : ℕ) (a : Attempt) (names : law.holder_at (office plan) e.words conn ≡ suc k)
        (does : get_elem? (works e.markers) k ≡ some (Does number a)) (held : IsIn conn a.held) where
      under : IsUnder (office plan) a.held c.word
      under = record { lock = conn; protects = protects; held = held }

      -- the holder is the one that has it left
      same_attempt : (has : HasLeft e c) → has.attempt ≡ a
      same_attempt has =
          let numbers : suc has.k ≡ suc k = sym (opener_named conn protects has) ∙ names in
          let one : has.k ≡ k = cc in
          let there : get_elem? (works e.markers) k ≡ some (Does has.number has.attempt) =
          subst (λ (j : ℕ). get_elem? (works e.markers) j ≡ some (Does has.number has.attempt)) one (actor_at e has.k has.number has.attempt has.at) in
          let both : ◌≡◌ {A = Work} (Does has.number has.attempt) (Does number a) = some-injective _ _ (sym there ∙ does) in
          cc

      completed_is : slice_index (completed plan e) c.word ≡ made_of (effects_left_in a.phase a.effects) c.word (slice_index e.words c.word)
      completed_is = held_word (office plan) (office_is plan laws) (world plan e) lawful k number a c.word does under

      by_waiting : effects_left_in a.phase a.effects ≡ [] → ((turn : ℕ) → a.phase ≢ Operates turn) → IsLeftOrStays
      by_waiting none waits = inr (
        (λ has. waits has.turn (sym (ap (λ (one : Attempt). one.phase) (same_attempt has)) ∙ has.past)),
        stays_by (completed_is ∙ ap (λ (effects : List Effect). made_of effects c.word (slice_index e.words c.word)) none),
      )

      by_past : (turn : ℕ) → a.phase ≡ Operates turn → IsLeftOrStays
      by_past turn past =
          let did = decided plan laws e lawful k number turn a (marker_at e k number a does) past in
          let size = lawful.size in
          elim (opens_or_stays plan c closed.word closed.field closed.closed e.words a.effects (omega (arith, size)) did.range did.due closed.held) [
            | inl left ↦ inl (record { k = k; number = number; turn = turn; attempt = a; at = marker_at e k number a does; past = past; left = left })
            | inr never ↦ inr (
              (λ has. never.0 (subst (λ (one : Attempt). IsIn (Open c) one.effects) (same_attempt has) has.left)),
              ap (λ word. field_of (shape_at c.word) word c.field) (
                  completed_is
                  ∙ ap (λ (phase : Phase). made_of (effects_left_in phase a.effects) c.word (slice_index e.words c.word)) past
                  ∙ sym (perform_index (office plan) e.words a.effects c.word (λ effect within. below effect (did.left_under effect within)))) ∙ never.1,
            )
          ] where
            below : (effect : Effect) → IsUnder (office plan) a.held (effect_word effect) → effect_word effect < length e.words
            below effect over =
                subst (λ (size : ℕ). effect_word effect < size) (sym lawful.size)
                ((office_is plan laws).words.word_there (effect_word effect) over.lock over.protects)

      by_holder : IsLeftOrStays
      by_holder = elim (past_or_not a.phase a.effects) [ inl past ↦ by_past past.0 past.1 | inr waits ↦ by_waiting waits.0 waits.1 ]

    by_word : (conn : Conn) → Protects conn c.word → (holder : ℕ) → law.holder_at (office plan) e.words conn ≡ holder → IsLeftOrStays
    by_word conn protects zero free = by_nobody conn protects free
    by_word conn protects (suc k) names =
        let holds = (lawful.shared conn ((office_is plan laws).words.lock_there c.word conn protects)).named k names in
        by_holder conn protects k holds.number holds.attempt names holds.does holds.held

  -- a closed crosspoint is left to be opened, or nobody has it left and it is closed in the completed words
  pub left_or_stays : (c : Crosspoint) → IsClosed e.words c → HasLeft e c ⊎ (¬ HasLeft e c × (held_at (completed plan e) c.word c.field ≡ c.value))
  left_or_stays c closed =
      let protected = word_protected c.word (omega (arith, closed.word)) in
      by_word c closed protected.0 protected.1 (law.holder_at (office plan) e.words protected.0) refl
