-- what desks below have seen of a meeting and a shutting, as records, sets of paths and connectors
use Rattle.std.proofs.Common.{◌≡◌, ℕ, ◌%◌, ◌^◌, List, [], length, map, refl, sym, ◌∙◌, ap, subst, slice_index}
use Rattle.{atomic_table.specs.Seated.TableId, turns.specs.{System.AreWords, World.World}}
use Rattle.{xbar_equip.specs.{Conn.IsConn, Word.{TurnWord, word_number}, declared.conn.Conn.Conn}, xbar_plan.specs.Tables.Tables, xbar_office.specs.Legal.after}
use Rattle.{xbar_jobs.specs.Office.{ShowsOffice, office}, xbar_moves.{specs.{Exchange.{Exchange, Work}, declared.kinds.Kind.Kind}, proofs.Records.after_same}}
use Rattle.xbar_fabric.specs.{Meetings.{AreWordsAfter, MarkerHasLearned, MarkersHaveMet, IsFreeConn, FabricIsShut}, Views.entered}
use Rattle.xbar_fabric.proofs.Offices.{Order, begins_entered, is_history, is_lawful, length-entered, length-made, marker_made, office_of, own_same}
use Rattle.xbar_fabric.proofs.{Offices.turned_entered, Steps.desk_at}
use Rattle.turns.specs.World as worlds
use Rattle.desks.specs.Met as desks

module _ (plan : Tables) where
  -- the set after an order is that after its records
  pub after_entered : (order : Order) → worlds.after (office plan) [] order ≡ after plan (map entered order)
  after_entered order = ap (worlds.after (office plan) []) (sym (turned_entered order)) ∙ after_same plan [] (map entered order)

  pub have_met : (t u : TableId) (kind other_kind : Kind) (i j : ℕ) (w v w_after v_after : Work) (one other one_after other_after : Order)
      → desks.HaveMet (office plan) i j one other one_after other_after
      → MarkersHaveMet (desk_at t plan kind i w one) (desk_at u plan other_kind j v other) (desk_at t plan kind i w_after one_after)
      (desk_at u plan other_kind j v_after other_after)
  have_met t u kind other_kind i j w v w_after v_after one other one_after other_after met = record {
    history = is_history plan one_after (rw met.same met.legal);
    same = ap (map entered) (sym met.same);
    one_begins = begins_entered one one_after (rw met.same met.one_begins);
    other_begins = begins_entered other other_after met.other_begins;
    one_mine = own_same i one one_after (rw met.same met.one_own);
    other_mine = own_same j other other_after met.other_own;
  }

  pub has_learned : (t : TableId) (kind : Kind) (k : ℕ) (work work_after : Work) (seen noted seen_after : Order)
      → desks.HasLearned (office plan) k seen noted seen_after
      → MarkerHasLearned (desk_at t plan kind k work seen) (map entered noted) (desk_at t plan kind k work_after seen_after)
  has_learned t kind k work work_after seen noted seen_after learned = record {
    history = is_history plan seen_after learned.legal;
    begins = begins_entered seen seen_after learned.begins;
    note_begins = begins_entered noted seen_after learned.note_begins;
    mine_are = own_same k seen seen_after learned.own_is;
  }

  pub words_after : (order : Order) (words : List ℕ) → length words ≡ 453 → AreWords words → slice_index words (word_number TurnWord) ≡ length order % 2 ^ 64
      → (((conn : Conn) → IsConn conn → IsFreeConn words conn) → ShowsOffice plan words (worlds.after (office plan) [] order))
      → AreWordsAfter plan (map entered order) words
  words_after order words size fit counted shows = record {
    count = size;
    are_words = fit;
    counted = counted ∙ ap (λ (n : ℕ). n % 2 ^ 64) (sym (length-entered order));
    shows = λ free. subst (ShowsOffice plan words) (after_entered order) (shows free);
  }

  pub is_shut : (t : TableId) (kind : Kind) (count k : ℕ) (work : Work) (seen : Order) (words : List ℕ) → desks.IsShut (office plan) count k work seen words
      → FabricIsShut count (desk_at t plan kind k work seen) words
  is_shut t kind count k work seen words shut = record {
    office = e;
    agrees = record {
      lawful = is_lawful plan kind w shut.lawful;
      there = marker_made plan kind shut.actors k work shut.actor_is;
      begins = begins_entered seen shut.order shut.begins;
      own_is = own_same k seen shut.order shut.own_is;
    };
    office_is = record {
      lawful = is_lawful plan kind w shut.lawful;
      words_are = refl;
      count_is = length-made plan kind shut.actors ∙ shut.all;
    };
    history = is_history plan shut.order shut.lawful.legal;
    words_are = words_after shut.order words shut.lawful.size shut.lawful.are_words shut.lawful.turn shut.shows;
  } where
    w : World (office plan)
    w = record { words = words; actors = shut.actors; order = shut.order }

    e : Exchange
    e = office_of plan kind w
