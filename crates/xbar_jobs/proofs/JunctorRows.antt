-- a frame's ten line junctor switches are tested one after another, whatever they show
use Rattle.std.proofs.Common.{◌≡◌, ℕ, zero, suc, ◌+◌, List, [], ◌∷◌, ◌++◌, refl, sym, ◌∙◌, ap, subst, arith, Option, Some, None, Bool, true, false, Err, ◌==◌}
use Rattle.std.proofs.Common.{find, option_map, slice_get, if◌then◌else◌, eqb-true}
use Rattle.std.specs.{Prelude.⊤, Option.option_map_or}
use Rattle.turns.specs.Script.{Ends, TestThen, SeizeThen, ◌>>=◌, first_wanted, is_held, left, left_of_test, left_of_seizing, value_read, walk}
use Rattle.turns.{specs.declared.{reading.Reading.Reading, wanted.Wanted.TheVariants.Test}, proofs.Room.{Grows, left_again, read_last, read_before}}
use Rattle.{attempts.specs.Points.{GoesOnTo, seen_with}, xbar_equip.{specs.{Conn.conn_eq, Len.{Line, IsLine}, Ten.TrunkPlace}, proofs.PathTests.conn_eq-itself}}
use Rattle.{xbar_switch.specs.declared.shape.Shape.TheVariants.{Line as LineShape}, xbar_match.specs.Traces.field_at_place}
use Rattle.{xbar_plan.specs.{Tables.{Tables, register_group}, declared.group.Member.Member}, xbar_office.specs.TwoTrials.{cards_of, second_decides}}
use Rattle.xbar_office.specs.declared.{aim.Aim.{Aim, TheVariants.DialTone}, reply.Card.Card, trial.TrialEnd.{TrialEnd, TheVariants.{Chosen, Faulty, NoChannel}}}
use Rattle.xbar_jobs.specs.{Connecting.{alone, connect, try_trunk}, Jobs.{dial_steps, serve_idle_line}, Script.{Script, Seen}}
use Rattle.xbar_jobs.specs.{Sides.{IsNextJunctor, Sides, reach, test_called, test_junctors, test_place, test_second, test_side, test_sides}, Tracing.approach}
use Rattle.xbar_jobs.specs.Trials.{after_first_trial, first_trial_steps, next_clear, second_trial_at, second_trial_steps, trial_end, two_trials_steps}
use Rattle.xbar_jobs.specs.{Trunks.{Trunks, find_trunk, first_clear, idle_or, trunks_of}, declared.party.{CallParties.CallParties, Party.Party}}
use Rattle.xbar_jobs.specs.declared.trunks.IdleGroup.{IdleGroup}

-- a script begins with the test of this word
abbrev pub BeginsWith : {A : Type 0} → ℕ → Script A → Type 0
BeginsWith number (Ends found) = ⊥
BeginsWith number (TestThen word script) = word ≡ number
BeginsWith number (SeizeThen conn script) = ⊥

-- if a script tests a line junctor switch and others of its frame follow, it goes on to the next
-- one, whatever it found: it keeps rows
unfoldable pub KeepsRows : {A : Type 0} → Script A → Type 0
KeepsRows (Ends found) = ⊤
KeepsRows (TestThen word script) =
    ((next : ℕ) → IsNextJunctor word next → (value : ℕ) → BeginsWith next (script value)) × ((value : ℕ) → KeepsRows (script value))
KeepsRows (SeizeThen conn script) = KeepsRows script

begins_bind : {A B : Type 0} (number : ℕ) (script : Script A) (next : A → Script B) → BeginsWith number script → BeginsWith number (script >>= next)
unfolding ◌>>=◌
begins_bind number (Ends found) next begins = absurd begins
begins_bind number (TestThen word script) next begins = begins
begins_bind number (SeizeThen conn script) next begins = absurd begins

pub rows_bind : {A B : Type 0} (script : Script A) (next : A → Script B) → KeepsRows script → ((found : A) → KeepsRows (next found))
    → KeepsRows (script >>= next)
unfolding KeepsRows ◌>>=◌
rows_bind (Ends found) next rows later = later found
rows_bind (TestThen word script) next rows later =
    (λ number is value. begins_bind number (script value) next (rows.0 number is value), λ value. rows_bind (script value) next (rows.1 value) later)
rows_bind (SeizeThen conn script) next rows later = rows_bind script next rows later

-- if a script keeps rows, so does what is left of it
rows_left : {A : Type 0} (seen : Seen) (script : Script A) → KeepsRows script → KeepsRows (left conn_eq seen script)
unfolding KeepsRows left left_of_test left_of_seizing
rows_left seen (Ends found) rows = rows
rows_left seen (TestThen word script) rows = at (value_read seen.readings word) (λ value. rows_left seen (script value) (rows.1 value)) where
  at : (o : Option ℕ) → ((value : ℕ) → KeepsRows (left conn_eq seen (script value)))
      → KeepsRows (left_of_test script (λ value. left conn_eq seen (script value)) word o)
  at None later = rows
  at (Some value) later = later value
rows_left seen (SeizeThen conn script) rows = at (is_held conn_eq seen.held conn) (rows_left seen script rows) where
  at : (b : Bool) → KeepsRows (left conn_eq seen script) → KeepsRows (left_of_seizing script (left conn_eq seen script) conn b)
  at false later = rows
  at true later = later

begins_wanted : {A : Type 0} (more : Seen) (next : ℕ) (script : Script A) → BeginsWith next script → value_read more.readings next ≡ None
    → first_wanted (left conn_eq more script) ≡ Err (Test next)
unfolding left left_of_test first_wanted
begins_wanted more next (Ends found) begins unread = absurd begins
begins_wanted more next (TestThen word rest) begins unread = rw (ap (value_read more.readings) begins ∙ unread) (ap (λ (n : ℕ). Err (Test n)) begins)
begins_wanted more next (SeizeThen conn rest) begins unread = absurd begins

goes_on_at : {A : Type 0} (more : Seen) (number next : ℕ) (rest : Script A) → KeepsRows rest → IsNextJunctor number next
    → (value : ℕ) × (value_read more.readings number ≡ Some value) → value_read more.readings next ≡ None → first_wanted rest ≡ Err (Test number)
    → first_wanted (left conn_eq more rest) ≡ Err (Test next)
unfolding KeepsRows left left_of_test first_wanted
goes_on_at more number next (Ends found) rows is own unread wants = absurd cc
goes_on_at more number next (SeizeThen conn rest) rows is own unread wants = absurd cc
goes_on_at {A} more number next (TestThen word rest) rows is own unread wants =
    let same : word ≡ number = cc in
    rw (ap (value_read more.readings) same
    ∙ own.1) (begins_wanted more next (rest own.0) (rows.0 next (subst (λ (n : ℕ). IsNextJunctor n next) (sym same) is) own.0) unread)

-- once a line junctor switch was read, the next one is needed next, if it was not read before
next_is_wanted : {A : Type 0} (seen more : Seen) (number next : ℕ) (script : Script A) → KeepsRows script → Grows conn_eq conn_eq-itself seen more
    → IsNextJunctor number next → (value : ℕ) × (value_read more.readings number ≡ Some value) → value_read more.readings next ≡ None
    → walk conn_eq seen script ≡ Err (Test number) → walk conn_eq more script ≡ Err (Test next)
unfolding walk
next_is_wanted seen more number next script rows grows is own unread wants =
    ap first_wanted (left_again conn_eq conn_eq-itself seen more script grows)
    ∙ goes_on_at more number next (left conn_eq seen script) (rows_left seen script rows) is own unread wants

-- a word that was not read was not read either once another was
unread_more : (readings : List (Reading ℕ)) (last : Reading ℕ) (next : ℕ) → (last.word == next) ≡ false → value_read readings next ≡ None
    → value_read (readings ++ last ∷ []) next ≡ None
unfolding value_read
unread_more [] last next other unread = ap (λ b. option_map (λ (r : Reading ℕ). r.value) (if b then Some last else None)) other
unread_more (reading ∷ readings) last next other unread = at (reading.word == next) (unread_more readings last next other) unread where
  at : (b : Bool) → (value_read readings next ≡ None → value_read (readings ++ last ∷ []) next ≡ None)
      → option_map (λ (r : Reading ℕ). r.value) (if b then Some reading else find (λ (r : Reading ℕ). r.word == next) readings) ≡ None
      → option_map (λ (r : Reading ℕ). r.value) (if b then Some reading else find (λ (r : Reading ℕ). r.word == next) (readings ++ last ∷ [])) ≡ None
  at true later none = none
  at false later none = later none

next_is_other : (number next : ℕ) → IsNextJunctor number next → (number == next) ≡ false
next_is_other number next is = at (number == next) refl where
  at : (b : Bool) → (number == next) ≡ b → (number == next) ≡ false
  at true same = absurd (omega (arith, eqb-true number next same, is.this, is.that))
  at false other = other

-- so if a script keeps rows and its walk needs a line junctor switch, it goes on to the next one,
-- whatever the first shows
pub row_goes_on : {A : Type 0} (seen : Seen) (word next : ℕ) (script : Script A) → KeepsRows script → IsNextJunctor word next
    → value_read seen.readings next ≡ None → walk conn_eq seen script ≡ Err (Test word) → GoesOnTo conn_eq seen script word next
row_goes_on seen word next script rows is unread wants = λ value.
    let last : Reading ℕ = record { word = word; value = value } in
    let grows : Grows conn_eq conn_eq-itself seen (seen_with seen word value) =
    record { held = λ c e. e; readings = λ w v e. read_before conn_eq conn_eq-itself seen.readings last w v e } in
    next_is_wanted seen (seen_with seen word value) word next script rows grows is (read_last conn_eq conn_eq-itself seen.readings last)
    (unread_more seen.readings last next (next_is_other word next is) unread) wants

junctor_rows : (frame channel count : ℕ) → channel + count ≡ 10 → KeepsRows (test_junctors frame channel count)
unfolding KeepsRows test_junctors ◌>>=◌
junctor_rows frame channel zero sum = tt
junctor_rows frame channel (suc zero) sum = (λ next is value. absurd (omega (arith, is.this, is.channel_range)), λ value. tt)
junctor_rows frame channel (suc (suc count)) sum = (
  λ next is value. omega (arith, is.this, is.that, is.channel_range),
  λ value. rows_bind (test_junctors frame (channel + 1) (suc count)) (λ words. Ends (value ∷ words))
      (junctor_rows frame (channel + 1) (suc count) (omega arith)) (λ words. tt),
)

-- the tests of both sides keep rows
side_rows : (party : Party) → KeepsRows (test_side party)
unfolding KeepsRows test_side
side_rows party = rows_bind (test_junctors party.line.frame 0 10) _ (junctor_rows party.line.frame 0 10 refl) (λ words. tt)

called_rows : (called : Option Party) → KeepsRows (test_called called)
unfolding KeepsRows test_called
called_rows None = tt
called_rows (Some party) = rows_bind (test_side party) _ (side_rows party) (λ side. tt)

sides_rows : (parties : CallParties) → KeepsRows (test_sides parties)
unfolding KeepsRows test_sides
sides_rows parties =
    rows_bind (test_side parties.calling) _ (side_rows parties.calling)
    (λ calling. rows_bind (test_called parties.called) _ (called_rows parties.called) (λ called. tt))

-- no row begins with a trunk switch
place_rows : (place : TrunkPlace) → KeepsRows (test_place place)
unfolding KeepsRows test_place ◌>>=◌
place_rows place = (λ next is value. absurd (omega (arith, is.this, is.frame_range, is.channel_range)), λ value. tt)

second_place_rows : (second : Option TrunkPlace) → KeepsRows (test_second second)
unfolding KeepsRows test_second
second_place_rows None = tt
second_place_rows (Some place) = rows_bind (test_place place) _ (place_rows place) (λ reached. tt)

reach_rows : (member : Member) → KeepsRows (reach member)
unfolding KeepsRows reach ◌>>=◌
reach_rows member =
    rows_bind (test_place member.first) _ (place_rows member.first)
    (λ first. rows_bind (test_second member.second) _ (second_place_rows member.second) (λ second. tt))

second_rows : (plan : Tables) (sides : Sides) (trunks : Trunks) (cards : List Card) (index : ℕ) → KeepsRows (second_trial_at plan sides trunks cards index)
unfolding KeepsRows second_trial_at second_trial_steps
second_rows plan sides trunks cards index = at (slice_get trunks.members index) where
  at : (o : Option Member) → KeepsRows (option_map_or (second_trial_steps plan sides cards index) o (Ends (second_decides cards index NoChannel)))
  at None = tt
  at (Some member) = rows_bind (reach member) _ (reach_rows member) (λ trunk. tt)

after_rows : (plan : Tables) (sides : Sides) (trunks : Trunks) (first : ℕ) (end : TrialEnd) → KeepsRows (after_first_trial plan sides trunks first end)
unfolding KeepsRows after_first_trial
after_rows plan sides trunks first (Chosen call) = tt
after_rows plan sides trunks first (Faulty link) = second_rows plan sides trunks (cards_of 1 (Faulty link)) (next_clear trunks first)
after_rows plan sides trunks first NoChannel = second_rows plan sides trunks [] (next_clear trunks first)

trials_rows : (plan : Tables) (parties : CallParties) (trunks : Trunks) (first : ℕ) → KeepsRows (two_trials_steps plan parties trunks first)
unfolding KeepsRows two_trials_steps first_trial_steps
trials_rows plan parties trunks first = at (slice_get trunks.members first) where
  at : (o : Option Member) → KeepsRows (option_map_or (first_trial_steps plan parties trunks first) o (Ends (second_decides [] first NoChannel)))
  at None = tt
  at (Some member) =
      rows_bind (reach member) _ (reach_rows member)
      (λ trunk. rows_bind (test_sides parties) _ (sides_rows parties) (λ sides. after_rows plan sides trunks first (trial_end plan sides 0 trunk)))

-- nor with a group's word
idle_rows : (group word : ℕ) (next : Script (Option IdleGroup)) (found : Option ℕ) → KeepsRows next → KeepsRows (idle_or group word next found)
unfolding KeepsRows idle_or
idle_rows group word next None rows = rows
idle_rows group word next (Some first) rows = tt

find_rows : (plan : Tables) (groups : List ℕ) → KeepsRows (find_trunk plan groups)
unfolding KeepsRows find_trunk ◌>>=◌
find_rows plan [] = tt
find_rows plan (group ∷ groups) = (
  λ next is value. absurd (omega (arith, is.this, is.frame_range, is.channel_range)),
  λ word. idle_rows group word (find_trunk plan groups) (first_clear (trunks_of plan group word)) (find_rows plan groups),
)

try_rows : (plan : Tables) (aim : Aim) (parties : CallParties) (idle : Option IdleGroup) → KeepsRows (try_trunk plan aim parties idle)
unfolding KeepsRows try_trunk
try_rows plan aim parties None = tt
try_rows plan aim parties (Some idle) =
    rows_bind (two_trials_steps plan parties (trunks_of plan idle.group idle.word) idle.first) _
    (trials_rows plan parties (trunks_of plan idle.group idle.word) idle.first) (λ trials. tt)

-- whatever the parties and the groups are, connecting them keeps rows
pub connect_rows : (plan : Tables) (aim : Aim) (parties : CallParties) (groups : List ℕ) → KeepsRows (connect plan aim parties groups)
unfolding connect
connect_rows plan aim parties groups = rows_bind (find_trunk plan groups) _ (find_rows plan groups) (λ idle. try_rows plan aim parties idle)

idle_line_rows : (plan : Tables) (calling : Party) (channel : Option ℕ) → KeepsRows (serve_idle_line plan calling channel)
unfolding KeepsRows serve_idle_line
idle_line_rows plan calling (Some channel) = tt
idle_line_rows plan calling None = connect_rows plan DialTone (alone calling) (register_group plan ∷ [])

pub dial_rows : (plan : Tables) (line : Line) → IsLine line → KeepsRows (dial_steps plan line)
unfolding KeepsRows dial_steps approach ◌>>=◌
dial_rows plan line in_range = (
  λ next is value. absurd (omega (arith, is.this, is.channel_range, in_range.switch)),
  λ word. idle_line_rows plan (record { line = line; word = word }) (field_at_place LineShape word line.x),
)
