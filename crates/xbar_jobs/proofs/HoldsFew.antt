-- what an attempt holds is few, whatever comes of its steps
use Rattle.std.proofs.Common.{◌≡◌, ℕ, ◌-◌, ◌≤◌, Bool, true, false, List, [], ◌∷◌, ◌++◌, length, inl, inr, refl, sym, ◌∙◌, ap, subst, arith, Option, Some, None}
use Rattle.std.proofs.Common.{Result, Ok, Err}
use Rattle.turns.specs.{Seen.AreReadWords, Attempt.{IsValidIn, begin_with, change, changed, walk_result, forgotten, giving_back, goes_on, operated, rest_of}}
use Rattle.turns.specs.Attempt.{restarted, restarted_in, seen_of}
use Rattle.turns.specs.Script.{Ends, TestThen, SeizeThen, first_wanted, is_held, left, left_of_test, left_of_seizing, value_read, walk}
use Rattle.turns.specs.declared.answer.Answer.{Answer, TheVariants.{Asked, Seized, Held, Preferred, Again, Value, Turn, Done}}
use Rattle.turns.specs.declared.{phase.Phase.TheVariants.{Requests, Turns, Withdraws, GivesBack, Operates}, reading.Reading.Reading}
use Rattle.turns.{specs.declared.wanted.Wanted.TheVariants.{Seize, Test}, proofs.{Lists.{distinct_more, in_more}, Room.{Grows, held_before, held_last}}}
use Rattle.{turns.proofs.{Room.{left_again, read_before}, Standing.wanted_lock}, xbar_equip.specs.{Conn.{IsConn, conn_eq}, declared.conn.Conn.Conn}}
use Rattle.{xbar_equip.proofs.PathTests.conn_eq-itself, xbar_plan.specs.{Lawful.IsLawful, Tables.Tables}, xbar_office.specs.{Legal.IsJob, declared.job.Job.Job}}
use Rattle.xbar_jobs.specs.{Attempt.{Attempt, Phase}, Jobs.{first_conn, script}, Office.office, Others.{SeizesOthers, others}, Script.{Script, Seen, Wanted}}
use Rattle.xbar_jobs.specs.{Standing.{AreConns, HoldsFew, HoldsFewIn, most_held, most_others}, declared.{decision.Decision.Decision, effect.Effect.Effect}}
use Rattle.xbar_jobs.proofs.{FewConns.{few_conns, others_with}, JobBounds.job_seizes, OfficeSystem.office_is, AskBounds.others_more, Wanting.wants_free}
use Rattle.turns.specs.declared.phase.Phase.TheVariants as phases

-- a connector more among connectors of the office
conns_with : (held more : List Conn) (conn : Conn) → more ≡ held ++ conn ∷ [] → AreConns held → IsConn conn → AreConns more
conns_with held more conn is conns range = subst (λ (all : List Conn). AreConns all) (sym is) (λ c within. elim (in_more c conn held within) [
  | inl front ↦ conns c front
  | inr e ↦ subst (λ (x : Conn). IsConn x) (sym e) range
])

-- what is left of a script seizes no more
others_left : {A : Type 0} (seen : Seen) (most : ℕ) (script : Script A) → SeizesOthers most script
    → SeizesOthers most (left conn_eq seen script)
unfolding left SeizesOthers left_of_test left_of_seizing
others_left seen most (Ends found) seizes = tt
others_left {A} seen most (TestThen word script) seizes =
    at (value_read seen.readings word) (λ value. others_left seen most (script value) (seizes value)) where
      at : (o : Option ℕ) → ((value : ℕ) → SeizesOthers most (left conn_eq seen (script value)))
          → SeizesOthers most (left_of_test script (λ value. left conn_eq seen (script value)) word o)
      at None later = seizes
      at (Some value) later = later value
others_left {A} seen most (SeizeThen conn script) (one, seizes) =
    at (is_held conn_eq seen.held conn) (others_left seen (most - others conn) script seizes) where
      at : (b : Bool) → SeizesOthers (most - others conn) (left conn_eq seen script)
          → SeizesOthers most (left_of_seizing script (left conn_eq seen script) conn b)
      at false later = (one, seizes)
      at true later = others_more (most - others conn) most (left conn_eq seen script) (omega arith) later

-- once more was read or seized, what is left then seizes no more
others_grown : {A : Type 0} (seen more : Seen) (most : ℕ) (script : Script A)
    → Grows conn_eq conn_eq-itself seen more → SeizesOthers most (left conn_eq seen script)
    → SeizesOthers most (left conn_eq more script)
others_grown {A} seen more most script grows seizes =
    subst (λ (s : Script A). SeizesOthers most s) (sym (left_again conn_eq conn_eq-itself seen more script grows))
    (others_left more most (left conn_eq seen script) seizes)

-- and once the connector that was needed is held, it seizes one less
others_seized : {A : Type 0} (seen more : Seen) (conn : Conn) (most : ℕ) (script rest : Script A)
    → Grows conn_eq conn_eq-itself seen more → is_held conn_eq more.held conn ≡ true
    → left conn_eq seen script ≡ rest → first_wanted rest ≡ Err (Seize conn)
    → SeizesOthers most rest
    → (others conn ≤ most) × SeizesOthers (most - others conn) (left conn_eq more script)
unfolding first_wanted SeizesOthers left left_of_seizing
others_seized {A} seen more conn most script (Ends found) grows own is wants seizes = absurd cc
others_seized {A} seen more conn most script (TestThen word rest) grows own is wants seizes = absurd cc
others_seized {A} seen more conn most script (SeizeThen other rest) grows own is wants (one, seizes) =
    let same : other ≡ conn = cc in
    let now : left conn_eq more script ≡ left conn_eq more rest =
    left_again conn_eq conn_eq-itself seen more script grows ∙ ap (left conn_eq more) is ∙ at same in (
      subst (λ (c : Conn). others c ≤ most) same one,
      subst (λ (s : Script A). SeizesOthers (most - others conn) s) (sym now)
          (others_left more (most - others conn) rest (subst (λ (c : Conn). SeizesOthers (most - others c) rest) same seizes)),
    ) where
      at : other ≡ conn → left conn_eq more (SeizeThen other rest) ≡ left conn_eq more rest
      at same = rw (ap (is_held conn_eq more.held) same ∙ own) refl

module _ (plan : Tables) where
  pub holds_begin : (job : Job) → IsLawful plan → HoldsFew plan (begin_with (first_conn job) job)
  holds_begin job laws = record {
    conns = λ conn none. absurd none;
    distinct = tt;
    more = most_others;
    fits = omega arith;
    seizes = others_left (record { held = []; readings = [] }) most_others (script plan job) (job_seizes plan job laws);
  }

  -- a connector more is a new one
  pub holds_seized : (a : Attempt) (conn : Conn) → IsConn conn → walk_result (office plan) a ≡ Err (Seize conn) → HoldsFew plan a
      → HoldsFew plan (record a { held = a.held ++ conn ∷ [] })
  unfolding walk
  holds_seized a conn range come holds =
      let more : Seen = record { held = a.held ++ conn ∷ []; readings = a.readings } in
      let grows : Grows conn_eq conn_eq-itself (seen_of a) more =
      record { held = λ c e. held_before conn_eq conn_eq-itself a.held conn c e; readings = λ word value e. e } in
      let later =
      others_seized (seen_of a) more conn holds.more (script plan a.job) (left conn_eq (seen_of a) (script plan a.job)) grows
      (held_last conn_eq conn_eq-itself a.held conn) refl come holds.seizes in
      record {
        conns = conns_with a.held more.held conn refl holds.conns range;
        distinct = distinct_more conn a.held holds.distinct (wants_free (seen_of a) conn (script plan a.job) come);
        more = holds.more - others conn;
        fits = omega (arith, holds.fits, later.0, others_with a.held conn);
        seizes = later.1;
      }

  holds_read : (a : Attempt) (reading : Reading ℕ) → HoldsFew plan a → HoldsFew plan (record a { readings = a.readings ++ reading ∷ [] })
  holds_read a reading holds =
      let more : Seen = record { held = a.held; readings = a.readings ++ reading ∷ [] } in
      let grows : Grows conn_eq conn_eq-itself (seen_of a) more =
      record { held = λ c e. e; readings = λ word value e. read_before conn_eq conn_eq-itself a.readings reading word value e } in
      record {
        conns = holds.conns;
        distinct = holds.distinct;
        more = holds.more;
        fits = holds.fits;
        seizes = others_grown (seen_of a) more holds.more (script plan a.job) grows holds.seizes;
      }

  pub few_held : (a : Attempt) → HoldsFew plan a → length a.held ≤ most_held
  few_held a holds = few_conns a.held holds.conns holds.distinct (omega (arith, holds.fits))

  -- the phase has no part in it
  holds_at : (a : Attempt) (phase : Phase) → HoldsFew plan a → HoldsFew plan (record a { phase = phase })
  holds_at a phase holds = record { conns = holds.conns; distinct = holds.distinct; more = holds.more; fits = holds.fits; seizes = holds.seizes }

  holds_on : (a : Attempt) (found : Result Decision Wanted) → HoldsFew plan a
      → HoldsFewIn plan (goes_on (office plan) a found) (goes_on (office plan) a found).phase
  holds_on a (Ok decision) holds = tt
  holds_on a (Err (Seize conn)) holds = holds_at a (Requests conn) holds
  holds_on a (Err (Test word)) holds = holds_at a (phases.Tests word) holds

  holds_freed : (a : Attempt) (held : List Conn) → IsLawful plan
      → HoldsFewIn plan (giving_back (office plan) a held) (giving_back (office plan) a held).phase
  holds_freed a [] laws = holds_begin a.job laws
  holds_freed a (conn ∷ held) laws = tt

  holds_operated : (a : Attempt) (turn : ℕ) (effects : List Effect) → a.phase ≡ Operates turn
      → HoldsFewIn plan (operated a effects) (operated a effects).phase
  holds_operated a turn [] at = subst (λ (phase : Phase). HoldsFewIn plan (operated a []) phase) (sym at) tt
  holds_operated a turn (effect ∷ effects) at = subst (λ (phase : Phase). HoldsFewIn plan (operated a (effect ∷ effects)) phase) (sym at) tt

  few_on : (a : Attempt) (found : Result Decision Wanted) → length a.held ≤ most_held
      → length (goes_on (office plan) a found).held ≤ most_held
  few_on a (Ok decision) few = few
  few_on a (Err (Seize conn)) few = few
  few_on a (Err (Test word)) few = few

  few_freed : (a : Attempt) (held : List Conn) → length held ≤ most_held
      → length (giving_back (office plan) a held).held ≤ most_held
  few_freed a [] few = omega arith
  few_freed a (conn ∷ held) few = few

  fewer_rest : (held : List Conn) → length held ≤ most_held → length (rest_of held) ≤ most_held
  fewer_rest [] few = few
  fewer_rest (conn ∷ held) few = omega arith

  few_operated : (a : Attempt) (effects : List Effect) → length a.held ≤ most_held
      → length (operated a effects).held ≤ most_held
  few_operated a [] few = fewer_rest a.held few
  few_operated a (effect ∷ effects) few = few

  -- whatever its step's answer, an attempt in the phase that its script comes to holds few again
  module _ (laws : IsLawful plan) (a : Attempt) (in_range : IsJob a.job) (read : AreReadWords a.readings) where
    holds_more : (conn : Conn) → IsValidIn (office plan) a (Requests conn) → HoldsFew plan a → HoldsFew plan (record a { held = a.held ++ conn ∷ [] })
    holds_more conn come holds = holds_seized a conn (wanted_lock (office plan) (office_is plan laws) a conn in_range read come) come holds

    holds_changed : (phase : Phase) (answer : Answer) → a.phase ≡ phase → HoldsFewIn plan a a.phase
        → IsValidIn (office plan) a phase → HoldsFewIn plan a phase
        → HoldsFewIn plan (changed (office plan) a phase answer) (changed (office plan) a phase answer).phase
    holds_changed (Requests conn) (Asked told) at all valid holds = holds_at a (phases.Seizes conn told) holds
    holds_changed (Requests conn) Seized at all valid holds =
        let more : Attempt = record a { held = a.held ++ conn ∷ [] } in
        holds_on more (walk_result (office plan) more) (holds_more conn valid holds)
    holds_changed (Requests conn) (Held holder) at all valid holds = tt
    holds_changed (Requests conn) (Preferred other) at all valid holds = tt
    holds_changed (phases.Seizes conn expected) Seized at all valid holds =
        let more : Attempt = record a { held = a.held ++ conn ∷ [] } in
        holds_on more (walk_result (office plan) more) (holds_more conn valid holds)
    holds_changed (phases.Seizes conn expected) (Held holder) at all valid holds = tt
    holds_changed (phases.Seizes conn expected) (Preferred other) at all valid holds = tt
    holds_changed (phases.Seizes conn expected) (Again told) at all valid holds = holds_at a (phases.Seizes conn told) holds
    holds_changed (phases.Tests word) (Value value) at all valid holds =
        let reading : Reading ℕ = record { word = word; value = value } in
        let more : Attempt = record a { readings = a.readings ++ reading ∷ [] } in
        holds_on more (walk_result (office plan) more) (holds_read a reading holds)
    holds_changed Turns (Turn number) at all valid holds = tt
    holds_changed (Withdraws conn) Done at all valid holds = holds_freed a a.held laws
    holds_changed GivesBack Done at all valid holds = holds_freed a (rest_of a.held) laws
    holds_changed (Operates turn) Done at all valid holds = holds_operated a turn a.effects at
    holds_changed _ _ at all valid holds = all

    pub holds_change : (answer : Answer) → IsValidIn (office plan) a a.phase
        → HoldsFewIn plan a a.phase
        → HoldsFewIn plan (change (office plan) a answer) (change (office plan) a answer).phase
    holds_change answer valid holds = holds_changed a.phase answer refl holds valid holds

    few_changed : (phase : Phase) (answer : Answer) → IsValidIn (office plan) a phase
        → HoldsFewIn plan a phase → length a.held ≤ most_held
        → length (changed (office plan) a phase answer).held ≤ most_held
    few_changed (Requests conn) Seized valid holds few =
        let more : Attempt = record a { held = a.held ++ conn ∷ [] } in
        few_on more (walk_result (office plan) more) (few_held more (holds_more conn valid holds))
    few_changed (phases.Seizes conn expected) Seized valid holds few =
        let more : Attempt = record a { held = a.held ++ conn ∷ [] } in
        few_on more (walk_result (office plan) more) (few_held more (holds_more conn valid holds))
    few_changed (phases.Tests word) (Value value) valid holds few =
        let more : Attempt = record a { readings = a.readings ++ record { word = word; value = value } ∷ [] } in
        few_on more (walk_result (office plan) more) few
    few_changed (Withdraws conn) Done valid holds few = few_freed a a.held few
    few_changed GivesBack Done valid holds few = few_freed a (rest_of a.held) (fewer_rest a.held few)
    few_changed (Operates turn) Done valid holds few = few_operated a a.effects few
    few_changed (Requests conn) (Held holder) valid holds few = few
    few_changed (Requests conn) (Preferred other) valid holds few = few
    few_changed (phases.Seizes conn expected) (Held holder) valid holds few = few
    few_changed (phases.Seizes conn expected) (Preferred other) valid holds few = few
    few_changed Turns (Turn number) valid holds few = few
    few_changed _ _ valid holds few = few

    pub few_change : (answer : Answer) → IsValidIn (office plan) a a.phase
        → HoldsFewIn plan a a.phase → length a.held ≤ most_held
        → length (change (office plan) a answer).held ≤ most_held
    few_change answer valid holds few = few_changed a.phase answer valid holds few

  -- and so does one that restarts
  few_restarted_in : (a : Attempt) (phase : Phase) → length a.held ≤ most_held
      → length (restarted_in (office plan) phase a).held ≤ most_held
  few_restarted_in a (Requests conn) few = few_freed (forgotten a) a.held few
  few_restarted_in a (phases.Seizes conn expected) few = few
  few_restarted_in a (phases.Tests word) few = few_freed (forgotten a) a.held few
  few_restarted_in a Turns few = few_freed (forgotten a) a.held few
  few_restarted_in a (Withdraws conn) few = few
  few_restarted_in a GivesBack few = few
  few_restarted_in a (Operates turn) few = few

  pub few_restarted : (a : Attempt) → length a.held ≤ most_held
      → length (restarted (office plan) a).held ≤ most_held
  few_restarted a few = few_restarted_in a a.phase few

  holds_restarted_in : (a : Attempt) (phase : Phase) → IsLawful plan → HoldsFewIn plan a a.phase
      → HoldsFewIn plan (restarted_in (office plan) phase a) (restarted_in (office plan) phase a).phase
  holds_restarted_in a (Requests conn) laws all = holds_freed (forgotten a) a.held laws
  holds_restarted_in a (phases.Seizes conn expected) laws all = tt
  holds_restarted_in a (phases.Tests word) laws all = holds_freed (forgotten a) a.held laws
  holds_restarted_in a Turns laws all = holds_freed (forgotten a) a.held laws
  holds_restarted_in a (Withdraws conn) laws all = all
  holds_restarted_in a GivesBack laws all = all
  holds_restarted_in a (Operates turn) laws all = all

  pub holds_restarted : (a : Attempt) → IsLawful plan → HoldsFewIn plan a a.phase
      → HoldsFewIn plan (restarted (office plan) a) (restarted (office plan) a).phase
  holds_restarted a laws all = holds_restarted_in a a.phase laws all
