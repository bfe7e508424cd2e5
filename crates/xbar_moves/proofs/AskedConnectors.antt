-- a denial is true: of the holder of the connector that was asked for, or of another's request
use Rattle.std.proofs.Common.{◌≡◌, ◌≢◌, ℕ, ◌+◌, ◌<◌, ◌%◌, Bool, true, false, List, [], ◌∷◌, bit_or, slice_index, refl, sym, ◌∙◌, ap, subst, arith, inl, inr}
use Rattle.std.proofs.Common.{eq-eqb, ◌==◌, Option, Some, None, if◌then◌else◌, eqb-true, ne_eqb}
use Rattle.std.{specs.Int.bit_at, proofs.lemmas.{Bool.eqb-false, Option.same_Some}}
use Rattle.turns.specs.{Attempt.{IsSeizing, act, act_in, asked_in, closing_act, free_act}, Law.FitsIn, Denied.IsDeniedBy, Runs.is_finished, Sharing.IsTrueOf}
use Rattle.turns.specs.{Sharings.{judged, preferring, request_bit, seized_by}, World.{Does, place}, declared.answer.Answer.Answer}
use Rattle.turns.specs.declared.{answer.Answer.TheVariants.{Asked, Seized, Held, Preferred, Again, Value, Turn, Done}, judgement.Judgement.Judgement}
use Rattle.turns.{specs.declared.phase.Phase.TheVariants.{Requests, Seizes, Tests, Turns, Withdraws, GivesBack, Operates}, proofs.FirstRequests.judged_true}
use Rattle.turns.proofs.{Lists.there_below, Denied.{put_off_held, put_off_preferred}, LockWords.{asked_holder, asked_others, asked_own, asked_requests}}
use Rattle.{xbar_equip.specs.{Conn.IsConn, declared.conn.Conn.Conn}, xbar_plan.specs.Tables.Tables, xbar_office.specs.declared.reply.Record.Record}
use Rattle.xbar_jobs.specs.{Attempt.{Attempt, Phase, next_step}, Office.office, OnWords.answer_of, declared.effect.Effect.Effect}
use Rattle.xbar_moves.specs.{Exchange.{Exchange, IsLawfulExchange, world}, Holding.{AsksFor, HasRequested, Holds, IsAt}}
use Rattle.xbar_moves.specs.{Moves.{event_at_step, event_of, finished, moved_on, refused_by}, declared.event.Event.Event}
use Rattle.xbar_moves.proofs.{Actors.actor_at, Connectors.{conn_word, tells_truth}, Steps.has_come, Worlds.answer_is}
use Rattle.turns.specs.declared.judgement.Judgement.TheVariants as judgement
use Rattle.xbar_moves.specs.declared.event.Event.TheVariants as event

-- a lower marker's request is in a word with the own request only if it was there before
lower_stood : (k word j : ℕ) → k < 48 → j < k → (bit_at (bit_or word (request_bit k)) (8 + j) == 1) ≡ true → bit_at word (8 + j) ≡ 1
lower_stood k word j few lower set = elim (asked_requests k word j (omega arith) set) [
  | inl one ↦ absurd (omega (arith, one, lower))
  | inr valid ↦ eqb-true (bit_at word (8 + j)) 1 valid
]

-- and each request that was there before still is
still_stands : (k word j : ℕ) → j < 48 → (bit_at word (8 + j) == 1) ≡ true → (bit_at (bit_or word (request_bit k)) (8 + j) == 1) ≡ true
still_stands k word j few set = by (j == k) refl where
  by : (own : Bool) → (j == k) ≡ own → (bit_at (bit_or word (request_bit k)) (8 + j) == 1) ≡ true
  by true same = subst (λ (m : ℕ). (bit_at (bit_or word (request_bit k)) (8 + m) == 1) ≡ true) (sym (eqb-true j k same)) (asked_own k word)
  by false other = asked_others k word j few (eqb-false j k other) set

-- a marker at this attempt asks for a connector and gets this judgement of a word; the word has
-- the connector's holder and all requests for it, and of lower markers no other requests
pub record IsJudged (e : Exchange) (k : ℕ) (a : Attempt) (j : Judgement) : Type 0 where
  pub conn : Conn
  pub asked : asked_in a.phase ≡ Some conn
  pub range : IsConn conn
  pub word : ℕ
  pub judges : judged k word ≡ j
  pub holder : word % 64 ≡ conn_word e conn % 64
  pub lower : (other : ℕ) → other < k → (bit_at word (8 + other) == 1) ≡ true → bit_at (conn_word e conn) (8 + other) ≡ 1
  pub all : (other : ℕ) → other < 48 → bit_at (conn_word e conn) (8 + other) ≡ 1 → (bit_at word (8 + other) == 1) ≡ true

module _ (plan : Tables) (e : Exchange) (lawful : IsLawfulExchange plan e) (k number : ℕ) (a : Attempt) (at : IsAt e k number a) where
  -- there are 48 markers at most
  pub few : k < 48
  few = let below = there_below (world plan e).actors k (Does number a) (actor_at e k number a at) in let most = lawful.few in omega (arith, below, most)

  fits_in : (phase : Phase) → a.phase ≡ phase → FitsIn (office plan) (world plan e) k number a phase
  fits_in phase is = subst (FitsIn (office plan) (world plan e) k number a) is (lawful.sound k number a (actor_at e k number a at)).fits

  -- the next step, on the word that it finds, is denied by this judgement
  abbrev PutsOff : Phase → Judgement → Type 0
  PutsOff phase j = let step = act_in phase a in IsDeniedBy (office plan) k step (slice_index e.words (place (office plan) step)) j

  asks_in : (phase : Phase) (j : Judgement) → PutsOff phase j → IsSeizing (act_in phase a)
  asks_in phase j by = elim by.asks [
    | inl asks ↦ subst (IsSeizing {Lock = Conn} {Effect = Effect}) (sym asks) tt
    | inr takes ↦ subst (IsSeizing {Lock = Conn} {Effect = Effect}) (sym takes.1) tt
  ]

  -- an attempt that frees what it holds, or makes its effects, asks for nothing
  free_asks : (held : List Conn) → IsSeizing {Lock = Conn} {Effect = Effect} (free_act held) → ⊥
  free_asks [] asks = asks
  free_asks (conn ∷ held) asks = asks

  close_asks : (effects : List Effect) (held : List Conn) → IsSeizing (closing_act effects held) → ⊥
  close_asks [] held asks = free_asks held asks
  close_asks (effect ∷ effects) held asks = asks

  -- a request is judged by the word with it, a seizing that finds another word by that word
  judged_request : (conn : Conn) (j : Judgement) → a.phase ≡ Requests conn → PutsOff (Requests conn) j → IsJudged e k a j
  judged_request conn j is by = record {
    conn = conn;
    asked = ap asked_in is;
    range = fits_in (Requests conn) is;
    word = bit_or (conn_word e conn) (request_bit k);
    judges = by.says;
    holder = asked_holder k (conn_word e conn);
    lower = λ other less set. lower_stood k (conn_word e conn) other few less set;
    all = λ other below set. still_stands k (conn_word e conn) other below (eq-eqb (bit_at (conn_word e conn) (8 + other)) 1 set);
  }

  judged_seizing : (conn : Conn) (expected : ℕ) (j : Judgement) → a.phase ≡ Seizes conn expected → PutsOff (Seizes conn expected) j → IsJudged e k a j
  judged_seizing conn expected j is by = record {
    conn = conn;
    asked = ap asked_in is;
    range = (fits_in (Seizes conn expected) is).0;
    word = conn_word e conn;
    judges =
        ap (λ (same : Bool). judged k (if same then seized_by k expected else conn_word e conn)) (sym (ne_eqb (conn_word e conn) expected differs)) ∙ by.says;
    holder = refl;
    lower = λ other less set. eqb-true (bit_at (conn_word e conn) (8 + other)) 1 set;
    all = λ other below set. eq-eqb (bit_at (conn_word e conn) (8 + other)) 1 set;
  } where
    differs : conn_word e conn ≢ expected
    differs same = elim by.asks [
      | inl asks ↦ absurd cc
      | inr takes ↦ let one = takes.1 in takes.2 cc
    ]

  judged_in : (phase : Phase) (j : Judgement) → a.phase ≡ phase → PutsOff phase j → IsJudged e k a j
  judged_in (Requests conn) j is by = judged_request conn j is by
  judged_in (Seizes conn expected) j is by = judged_seizing conn expected j is by
  judged_in (Tests word) j is by = absurd (asks_in (Tests word) j by)
  judged_in Turns j is by = absurd (asks_in Turns j by)
  judged_in (Withdraws conn) j is by = absurd (asks_in (Withdraws conn) j by)
  judged_in GivesBack j is by = absurd (free_asks a.held (asks_in GivesBack j by))
  judged_in (Operates turn) j is by = absurd (close_asks a.effects a.held (asks_in (Operates turn) j by))

  -- by the law, a marker that is refused a connector, or to which another is preferred, asks for a
  -- connector, and that one's own word says so
  pub judged_held : (holder : ℕ) → answer_of k (next_step a) e.words ≡ Held holder → IsJudged e k a (judgement.Held holder)
  judged_held holder is = judged_in a.phase (judgement.Held holder) refl (put_off_held (office plan) k _ holder (act a) (sym (answer_is plan k e.words a) ∙ is))

  pub judged_preferred : (other : ℕ) → answer_of k (next_step a) e.words ≡ Preferred other → IsJudged e k a (judgement.Preferred other)
  judged_preferred other is =
      judged_in a.phase (judgement.Preferred other) refl (put_off_preferred (office plan) k _ other (act a) (sym (answer_is plan k e.words a) ∙ is))

  module _ (j : Judgement) (seen : IsJudged e k a j) where
    -- and the judgement is true of the word
    true_of : IsTrueOf preferring k seen.word j
    true_of = subst (IsTrueOf preferring k seen.word) seen.judges (judged_true k seen.word)

    asks : AsksFor e k seen.conn
    asks = record { number = number; attempt = a; at = at; asked = seen.asked }

  -- a marker that is refused a connector asks for it, and the one that is named holds it
  pub is_refused : (holder : ℕ) (conn : Conn) → answer_of k (next_step a) e.words ≡ Held holder → asked_in a.phase ≡ Some conn
      → AsksFor e k conn × Holds e holder conn
  is_refused holder conn is asked =
      let seen = judged_held holder is in
      let one : seen.conn ≡ conn = same_Some _ _ (sym seen.asked ∙ asked) in
      let names = true_of (judgement.Held holder) seen in
      let kept = seen.holder in
      subst (λ (c : Conn). AsksFor e k c × Holds e holder c) one
      (asks (judgement.Held holder) seen, ((tells_truth plan e lawful seen.conn seen.range).holder holder).0 (omega (arith, names, kept)))

  -- if another marker is preferred, it has a lower number and has requested the connector, and
  -- nobody holds it
  pub is_preferred : (other : ℕ) → answer_of k (next_step a) e.words ≡ Preferred other
      → (conn : Conn) × AsksFor e k conn × (other < k) × HasRequested e other conn × ((j : ℕ) → ¬ Holds e j conn)
  is_preferred other is =
      let seen = judged_preferred other is in
      let truth = true_of (judgement.Preferred other) seen in
      let tells = tells_truth plan e lawful seen.conn seen.range in
      let kept = seen.holder in (
        seen.conn,
        asks (judgement.Preferred other) seen,
        truth.0,
        (tells.requests other (omega (arith, truth.0, few))).0 (seen.lower other truth.0 truth.2),
        λ j holds. let names = (tells.holder j).1 holds in let free = truth.1 in omega (arith, names, free, kept),
      )

-- the end of a job stops nobody
finished_goes : (records : List Record) (what : Event) → ((r : Record) → what ≡ event.Finished r → ⊥) → (what ≡ event.Moved → ⊥) → finished records ≡ what → ⊥
finished_goes [] what not_finished not_moved ends = not_moved (sym ends)
finished_goes (r ∷ records) what not_finished not_moved ends = not_finished r (sym ends)

module _ (k number : ℕ) (a after : Attempt) where
  done_goes : (idle : Bool) (what : Event) → ((r : Record) → what ≡ event.Finished r → ⊥) → (what ≡ event.Moved → ⊥) → moved_on k number after idle ≡ what → ⊥
  done_goes true what not_finished not_moved ends = finished_goes _ what not_finished not_moved ends
  done_goes false what not_finished not_moved ends = not_moved (sym ends)

  -- a refusal is an answer by which the connector that was asked for is held
  by_refusal : (told holder : ℕ) (asked : Option Conn) (conn : Conn) → refused_by told asked ≡ event.Refused conn holder → (told ≡ holder) × (asked ≡ Some conn)
  by_refusal told holder None conn ends = absurd cc
  by_refusal told holder (Some asked) conn ends = (cc, cc)

  refused_answer : (answer : Answer) (holder : ℕ) (conn : Conn) → event_of k number a after answer ≡ event.Refused conn holder
      → (answer ≡ Held holder) × (asked_in a.phase ≡ Some conn)
  refused_answer (Held told) holder conn ends = let same = by_refusal told holder (asked_in a.phase) conn ends in (ap Held same.0, same.1)
  refused_answer (Preferred other) holder conn ends = absurd cc
  refused_answer (Asked word) holder conn ends = absurd cc
  refused_answer Seized holder conn ends = absurd cc
  refused_answer (Again word) holder conn ends = absurd cc
  refused_answer (Value value) holder conn ends = absurd cc
  refused_answer (Turn turn) holder conn ends = absurd cc
  refused_answer Done holder conn ends = absurd (done_goes (is_finished (act after)) (event.Refused conn holder) (λ r same. cc) (λ same. cc) ends)

  not_preferred : (told other : ℕ) (asked : Option Conn) → refused_by told asked ≡ event.Preferred other → ⊥
  not_preferred told other None ends = cc
  not_preferred told other (Some asked) ends = cc

  pub preferred_answer : (answer : Answer) (other : ℕ) → event_of k number a after answer ≡ event.Preferred other → answer ≡ Preferred other
  preferred_answer (Held told) other ends = absurd (not_preferred told other (asked_in a.phase) ends)
  preferred_answer (Preferred told) other ends = cc
  preferred_answer (Asked word) other ends = absurd cc
  preferred_answer Seized other ends = absurd cc
  preferred_answer (Again word) other ends = absurd cc
  preferred_answer (Value value) other ends = absurd cc
  preferred_answer (Turn turn) other ends = absurd cc
  preferred_answer Done other ends = absurd (done_goes (is_finished (act after)) (event.Preferred other) (λ r same. cc) (λ same. cc) ends)

-- a refusal tells the truth
pub refusal_true : (plan : Tables) (e : Exchange) (k holder : ℕ) (conn : Conn) → IsLawfulExchange plan e → event_at_step plan k e ≡ event.Refused conn holder
    → AsksFor e k conn × Holds e holder conn
refusal_true plan e k holder conn lawful ends =
    let come = has_come plan e k (event.Refused conn holder) (λ same. cc) ends in
    let answer = refused_answer k come.number come.attempt _ _ holder conn come.comes in
    is_refused plan e lawful k come.number come.attempt come.at holder conn answer.0 answer.1

-- and so does a preference
pub preference_true : (plan : Tables) (e : Exchange) (k other : ℕ) → IsLawfulExchange plan e → event_at_step plan k e ≡ event.Preferred other
    → (conn : Conn) × AsksFor e k conn × (other < k) × HasRequested e other conn × ((j : ℕ) → ¬ Holds e j conn)
preference_true plan e k other lawful ends =
    let come = has_come plan e k (event.Preferred other) (λ same. cc) ends in
    is_preferred plan e lawful k come.number come.attempt come.at other (preferred_answer k come.number come.attempt _ _ other come.comes)
