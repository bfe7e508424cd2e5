-- a world of the office's jobs as an office, and its turns as records
use Rattle.std.proofs.Common.{◌≡◌, ℕ, zero, suc, Bool, true, false, List, [], ◌∷◌, ◌++◌, length, map, refl, sym, ◌∙◌, ap, subst, arith, ◌==◌, Some}
use Rattle.std.proofs.Common.{if◌then◌else◌, slice_get}
use mathlib.Core.Option.{some, some-injective, some-ne-none}
use lib.ListN.{get_elem?}
use Rattle.{turns.specs.{Law.Lawful, World.World}, desks.specs.Parts.Begins, xbar_plan.specs.Tables.Tables}
use Rattle.{xbar_office.specs.declared.{job.Job.Job, reply.{Record.Record, Reply.Reply}}, xbar_jobs.specs.Office.office}
use Rattle.xbar_moves.specs.{Exchange.{Exchange, IsLawfulExchange, Marker, Work, turned, world}, declared.kinds.Kind.Kind}
use Rattle.{xbar_moves.proofs.{Markers.works, Records.{jobs_legal, replies_legal, turns_legal}}, xbar_fabric.specs.{Histories.IsHistory, Views.{entered, own}}}
use Rattle.turns.specs.Law as law
use Rattle.turns.specs.World as worlds
use Rattle.desks.specs.Parts as desks

abbrev pub Order : Type 0
Order = List (worlds.Record Job Reply)

-- a marker of a kind at some work
abbrev pub marker_at : Kind → Work → Marker
marker_at kind work = record { kind = kind; work = work }

-- to enter a turn and to turn a record undo each other
pub turned_entered : (order : Order) → map turned (map entered order) ≡ order
turned_entered [] = refl
turned_entered (r ∷ order) = ap (λ (all : Order). r ∷ all) (turned_entered order)

pub entered_turned : (records : List Record) → map entered (map turned records) ≡ records
entered_turned [] = refl
entered_turned (r ∷ records) = ap (λ (all : List Record). r ∷ all) (entered_turned records)

pub length-entered : (order : Order) → length (map entered order) ≡ length order
length-entered [] = refl
length-entered (r ∷ order) = ap suc (length-entered order)

pub entered_append : (order more : Order) → map entered (order ++ more) ≡ map entered order ++ map entered more
entered_append [] more = refl
entered_append (r ∷ order) more = ap (λ (all : List Record). entered r ∷ all) (entered_append order more)

-- what begins an order begins its records
pub begins_entered : (seen order : Order) → Begins seen order → Begins (map entered seen) (map entered order)
begins_entered seen order begins = (map entered begins.0, ap (map entered) begins.1 ∙ entered_append seen begins.0)

-- a marker's own turns are its own records
pub own_entered : (k : ℕ) (order : Order) → own k (map entered order) ≡ map entered (desks.own k order)
own_entered k [] = refl
own_entered k (r ∷ order) = by (r.actor == k) (own_entered k order) where
  by : (mine : Bool) → own k (map entered order) ≡ map entered (desks.own k order)
      → (if mine then entered r ∷ own k (map entered order) else own k (map entered order))
      ≡ map entered (if mine then r ∷ desks.own k order else desks.own k order)
  by true later = ap (λ (all : List Record). entered r ∷ all) later
  by false later = later

pub own_same : (k : ℕ) (seen order : Order) → desks.own k order ≡ desks.own k seen → own k (map entered order) ≡ own k (map entered seen)
own_same k seen order same = own_entered k order ∙ ap (map entered) same ∙ sym (own_entered k seen)

module _ (plan : Tables) where
  -- a legal order is a history
  pub is_history : (order : Order) → law.IsLegal (office plan) 0 [] order → IsHistory plan (map entered order)
  is_history order legal =
      let records : List Record = map entered order in
      let is : law.IsLegal (office plan) 0 [] (map turned records) = subst (law.IsLegal (office plan) 0 []) (sym (turned_entered order)) legal in
      record {
        jobs = jobs_legal plan 0 [] records is;
        replies = replies_legal plan 0 [] records is;
        legal = λ few. record {
          jobs = jobs_legal plan 0 [] records is;
          turns = turns_legal plan 0 0 [] records refl (omega (arith, few)) is;
          replies = replies_legal plan 0 [] records is;
        };
      }

  -- the office that a world is, whose markers are of one kind
  abbrev pub office_of : Kind → World (office plan) → Exchange
  office_of kind w = record {
    words = w.words;
    markers = map (marker_at kind) w.actors;
    records = map entered w.order;
  }

  works_of : (kind : Kind) (actors : List Work) → works (map (marker_at kind) actors) ≡ actors
  works_of kind [] = refl
  works_of kind (work ∷ actors) = ap (λ (all : List Work). work ∷ all) (works_of kind actors)

  pub length-made : (kind : Kind) (actors : List Work) → length (map (marker_at kind) actors) ≡ length actors
  length-made kind [] = refl
  length-made kind (work ∷ actors) = ap suc (length-made kind actors)

  pub marker_made : (kind : Kind) (actors : List Work) (k : ℕ) (work : Work) → get_elem? actors k ≡ some work
      → slice_get (map (marker_at kind) actors) k ≡ Some (marker_at kind work)
  marker_made kind [] k work there = absurd (some-ne-none work (sym there))
  marker_made kind (x ∷ actors) zero work there = ap (λ (w : Work). Some (marker_at kind w)) (some-injective x work there)
  marker_made kind (x ∷ actors) (suc k) work there = marker_made kind actors k work there

  pub world_is : (kind : Kind) (w : World (office plan)) → world plan (office_of kind w) ≡ w
  world_is kind w = λ i. record { words = w.words; actors = works_of kind w.actors i; order = turned_entered w.order i }

  pub is_lawful : (kind : Kind) (w : World (office plan)) → Lawful (office plan) w → IsLawfulExchange plan (office_of kind w)
  is_lawful kind w lawful = subst (Lawful (office plan)) (sym (world_is kind w)) lawful
