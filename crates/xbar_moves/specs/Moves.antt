use Rattle.std.specs.Prelude.{◌≡◌, ℕ, zero, suc, ◌+◌, Bool, true, false, Option, Some, None, is_some, List, [], ◌∷◌, ◌++◌, length, slice_get, slice_set, if◌then◌else◌, option_map, option_to_list, unwrap_or}
use Rattle.turns.specs.Attempt.{act, asked_in, begin_with, change, request_in, restarted, turn_in}
use Rattle.turns.specs.Runs.{is_finished}
use Rattle.turns.specs.World.{Idle, Does}
use Rattle.turns.specs.declared.answer.Answer.{Answer}
use Rattle.turns.specs.declared.answer.Answer.TheVariants as answers
use Rattle.xbar_equip.specs.declared.conn.Conn.{Conn}
use Rattle.xbar_plan.specs.Tables.{Tables}
use Rattle.xbar_office.specs.declared.job.Job.{Job}
use Rattle.xbar_office.specs.declared.reply.Record.{Record}
use Rattle.xbar_jobs.specs.Attempt.{Attempt, next_step}
use Rattle.xbar_jobs.specs.Jobs.{first_conn}
use Rattle.xbar_jobs.specs.Office.{office}
use Rattle.xbar_jobs.specs.OnWords.{answer_of, words_after}
use Rattle.xbar_moves.specs.Exchange.{Exchange, Marker, Work, at_marker, is_idle, on_job}
use Rattle.xbar_moves.specs.Kinds.{takes}
use Rattle.xbar_moves.specs.declared.kinds.AssignFault.{AssignFault}
use Rattle.xbar_moves.specs.declared.kinds.AssignFault.TheVariants.{NoMarker, NotIdle, WrongKind}
use Rattle.xbar_moves.specs.declared.event.Event.{Event}
use Rattle.xbar_moves.specs.declared.event.Event.TheVariants as event
use Rattle.xbar_moves.specs.declared.event.Given.{Given}
use Rattle.xbar_moves.specs.declared.event.Given.TheVariants as given
use Rattle.xbar_moves.specs.declared.kinds.Kind.{Kind}

-- the office once marker k has this work
abbrev pub with_work : ℕ → Marker → Work → Exchange → Exchange
with_work k m work e = record e { markers = slice_set e.markers k (record m { work = work }) }

-- why a marker of this kind, idle or not, can't be assigned a job
abbrev pub fault_by : Bool → Kind → Job → Option AssignFault
fault_by idle kind job =
    if idle then (if takes kind job then None else Some WrongKind) else Some NotIdle

-- why this marker can't be assigned a job: it isn't idle, or it takes no jobs of this kind
abbrev pub refusal_of : Marker → Job → Option AssignFault
refusal_of m job = fault_by (is_idle m.work) m.kind job

-- why marker k can't be assigned a job: there is no marker of this number, or that one can't
abbrev pub refusal : Exchange → ℕ → Job → Option AssignFault
refusal e k job = at_marker (Some NoMarker) (λ m. refusal_of m job) (slice_get e.markers k)

-- the office once a job is assigned to marker k under a number
abbrev pub assigned : ℕ → ℕ → Job → Exchange → Exchange
assigned k number job e =
    at_marker e (λ m. with_work k m (Does number (begin_with (first_conn job) job)) e)
    (slice_get e.markers k)

-- the record of a turn with this number; none if the attempt has no reply
abbrev pub record_of : ℕ → ℕ → ℕ → Attempt → List Record
record_of turn k number a =
    option_to_list (option_map
    (λ reply. record { turn = turn; marker = k; job_no = number; job = a.job; reply = reply })
    a.reply)

-- the record that an answer adds: that of a turn, else none
abbrev pub added_record : ℕ → ℕ → Attempt → Answer → List Record
added_record k number a (answers.Turn turn) = record_of turn k number a
added_record k number a _ = []

-- the office after the next step of marker k's attempt, by its answer: the step has changed its
-- word, the attempt has gone on by the answer, and a turn has added its record
abbrev pub after_answer : Tables → ℕ → Marker → ℕ → Attempt → Answer → Exchange → Exchange
after_answer plan k m number a answer e = record {
  words = words_after k (next_step a) e.words;
  markers = slice_set e.markers k (record m { work = Does number (change (office plan) a answer) });
  records = e.records ++ added_record k number a answer;
}

-- the office after marker k's next step; an idle marker makes none
unfoldable pub after_step : Tables → ℕ → Exchange → Exchange
after_step plan k e =
    at_marker e (λ m. on_job e (λ number a.
    if is_finished (act a) then e
    else after_answer plan k m number a (answer_of k (next_step a) e.words) e) m.work)
    (slice_get e.markers k)

-- the office after several steps of marker k
unfoldable pub steps : Tables → ℕ → ℕ → Exchange → Exchange
steps plan k zero e = e
steps plan k (suc count) e = steps plan k count (after_step plan k e)

-- the record of a job, once it has turned
abbrev pub own_record : ℕ → ℕ → Attempt → List Record
own_record k number a =
    unwrap_or (option_map (λ turn. record_of turn k number a) (turn_in a.phase)) []

-- the event of a job's last step: it finishes with the job's record, if there is one
abbrev pub finished : List Record → Event
finished [] = event.Moved
finished (r ∷ records) = event.Finished r

-- the event of a step that was answered with Done: it finishes the job if nothing is left of it
abbrev pub moved_on : ℕ → ℕ → Attempt → Bool → Event
moved_on k number after true = finished (own_record k number after)
moved_on k number after false = event.Moved

-- the event of a step that found the connector that it asked for held
abbrev pub refused_by : ℕ → Option Conn → Event
refused_by holder None = event.Moved
refused_by holder (Some conn) = event.Refused conn holder

-- the event of a step, by its answer and the attempt after it
abbrev pub event_of : ℕ → ℕ → Attempt → Attempt → Answer → Event
event_of k number a after (answers.Held holder) = refused_by holder (asked_in a.phase)
event_of k number a after (answers.Preferred other) = event.Preferred other
event_of k number a after (answers.Asked word) = event.Moved
event_of k number a after answers.Seized = event.Moved
event_of k number a after (answers.Again word) = event.Moved
event_of k number a after (answers.Value value) = event.Moved
event_of k number a after (answers.Turn turn) = event.Moved
event_of k number a after answers.Done = moved_on k number after (is_finished (act after))

-- the event of marker k's next step, by its work and the words
abbrev pub event_by : Tables → ℕ → List ℕ → Work → Event
event_by plan k words work =
    on_job event.Idle (λ number a.
    let answer = answer_of k (next_step a) words in
    if is_finished (act a) then event.Idle else event_of k number a
    (change (office plan) a answer) answer)
    work

-- the answer to the next step of marker k, by which its work changes; None if it is idle
abbrev pub IsAnswered : Tables → ℕ → List ℕ → Work → Work → Option Answer → Type 0
IsAnswered plan k words before after None = is_idle before ≡ true
IsAnswered plan k words before after (Some answer) =
    on_job ⊥ (λ number a. (is_finished (act a) ≡ false) × (answer ≡ answer_of k (next_step a) words)
    × (after ≡ Does number (change (office plan) a answer)))
    before

-- the event of marker k's next step
abbrev pub event_at_step : Tables → ℕ → Exchange → Event
event_at_step plan k e =
    at_marker event.Idle (λ m. event_by plan k e.words m.work) (slice_get e.markers k)

-- a marker's work once its job is restarted; past its turn it stays as it is
abbrev pub restarted_work : Tables → Work → Work
restarted_work plan work = on_job Idle (λ number a. Does number (restarted (office plan) a)) work

-- the office once marker k's job is restarted: unless it is past its turn, its next steps give
-- back what it holds. No word changes
abbrev pub restarted_at : Tables → ℕ → Exchange → Exchange
restarted_at plan k e =
    at_marker e (λ m. with_work k m (restarted_work plan m.work) e) (slice_get e.markers k)

-- the outcome of asking a marker to give back, which is idle or not, and past its turn or not
abbrev pub given_if : Bool → Bool → Given
given_if idle past = if idle then given.Idle else (if past then given.PastTurn else given.Given)

-- whether a marker gives back: not past its turn, and not if it is idle
abbrev pub given_by : Work → Given
given_by work =
    on_job given.Idle (λ number a. given_if (is_finished (act a)) (is_some (turn_in a.phase))) work

-- whether marker k gives back
abbrev pub given_at : Exchange → ℕ → Given
given_at e k = at_marker given.Idle (λ m. given_by m.work) (slice_get e.markers k)

-- how many steps withdraw a request: one, or none if there is no request
abbrev pub request_count : Option Conn → ℕ
request_count None = 0
request_count (Some conn) = 1

-- how many steps a marker with this work has to make until it holds nothing: one to withdraw its
-- request, if it has one, and one for each connector that it holds
abbrev pub frees_left_by : Work → ℕ
frees_left_by work = on_job 0 (λ number a. request_count (request_in a.phase) + length a.held) work

-- the same for marker k
abbrev pub frees_left : Exchange → ℕ → ℕ
frees_left e k = at_marker 0 (λ m. frees_left_by m.work) (slice_get e.markers k)

-- the office after a give back, or as it was before if the marker doesn't give back
abbrev pub backed_as : Given → Exchange → Exchange → Exchange
backed_as given.Given after before = after
backed_as given.PastTurn after before = before
backed_as given.Idle after before = before

-- the office once marker k has given back all that it holds, if it does
unfoldable pub given_back : Tables → ℕ → Exchange → Exchange
given_back plan k e =
    backed_as (given_at e k) (steps plan k (frees_left e k) (restarted_at plan k e)) e
