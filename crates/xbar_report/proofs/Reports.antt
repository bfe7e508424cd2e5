use Rattle.std.proofs.Common.{◌≡◌, ◌≤◌, ◌+◌, ℕ, zero, suc, Bool, true, false, cond, List, [], ◌∷◌, ◌++◌, length, map, take, drop, refl, sym, ap, ◌∙◌, arith}
use Rattle.std.proofs.Common.{append_assoc, ◌==◌, flat_map, length-take, take-append-drop, eqb-true, eq-eqb}
use Rattle.{std.{specs.List.AllByRecursion, proofs.lemmas.List.length-map}, xbar_equip.proofs.Logic.{both, both_hold}}
use Rattle.{xbar_office.specs.{Legal.HaveTurns, declared.reply.{Card.Card, Record.Record}}, xbar_report.specs.Bare.bare_record}
use Rattle.xbar_report.specs.{Dealt.{belongs, own_of, own_count_of, with_cards, dealt_records, left_of}, Ranges.{IsCard, IsRecord, IsTroubleLine}}
use Rattle.xbar_report.{specs.{Text.{trouble_of, troubles_of}, declared.line.TroubleLine.TroubleLine}, proofs.Sheets.all_take}

-- a card with a record's turn and job number is that record's
owner_is : (r : Record) (t : TroubleLine) → belongs r t ≡ true → trouble_of r t.card ≡ t
owner_is r t h =
    let parts = both (t.turn == r.turn) (t.job_no == r.job_no) h in
    let turn = eqb-true t.turn r.turn parts.0 in
    let job_no = eqb-true t.job_no r.job_no parts.1 in
    λ i. record { turn = sym turn i; job_no = sym job_no i; card = t.card }

-- and the other way
pub own_belongs : (r : Record) (card : Card) → belongs r (trouble_of r card) ≡ true
own_belongs r card = both_hold (r.turn == r.turn) (r.job_no == r.job_no) (eq-eqb r.turn r.turn refl) (eq-eqb r.job_no r.job_no refl)

own_by : (most : ℕ) (r : Record) (t : TroubleLine) (cards : List TroubleLine) (b : Bool) → belongs r t ≡ b
    → (AllByRecursion (λ x. belongs r x ≡ true) (take (own_of most r cards) cards))
    → AllByRecursion (λ x. belongs r x ≡ true) (take (cond b (suc (own_of most r cards)) 0) (t ∷ cards))
own_by most r t cards true e later = (e, later)
own_by most r t cards false e later = tt

-- the cards that a record takes belong to it
own_all : (most : ℕ) (r : Record) (cards : List TroubleLine) → AllByRecursion (λ x. belongs r x ≡ true) (take (own_of most r cards) cards)
own_all zero r cards = tt
own_all (suc most) r [] = tt
own_all (suc most) r (t ∷ cards) = own_by most r t cards (belongs r t) refl (own_all most r cards)

own_le_by : (most n size : ℕ) (b : Bool) → n ≤ most → n ≤ size → (cond b (suc n) 0 ≤ suc most) × (cond b (suc n) 0 ≤ suc size)
own_le_by most n size true h h2 = (omega arith, omega arith)
own_le_by most n size false h h2 = (omega arith, omega arith)

-- it takes no more than it may, nor than there are
pub own_le : (most : ℕ) (r : Record) (cards : List TroubleLine) → (own_of most r cards ≤ most) × (own_of most r cards ≤ length cards)
own_le zero r cards = (omega arith, omega arith)
own_le (suc most) r [] = (omega arith, omega arith)
own_le (suc most) r (t ∷ cards) =
    let h = own_le most r cards in
    own_le_by most (own_of most r cards) (length cards) (belongs r t) h.0 h.1

troubles_again : (r : Record) (cards : List TroubleLine) → AllByRecursion (λ x. belongs r x ≡ true) cards → map (trouble_of r) (map (λ t. t.card) cards) ≡ cards
troubles_again r [] h = refl
troubles_again r (t ∷ cards) h = let e = owner_is r t h.0 in let e2 = troubles_again r cards h.1 in cc

-- the cards that the records took and those that are left are all cards
pub taken_and_left : (rs : List Record) (cards : List TroubleLine) → flat_map troubles_of (dealt_records rs cards) ++ left_of rs cards ≡ cards
unfolding dealt_records left_of
taken_and_left [] cards = refl
taken_and_left (r ∷ rs) cards =
    let k = own_count_of r cards in
    append_assoc (troubles_of (with_cards r (take k cards))) (flat_map troubles_of (dealt_records rs (drop k cards))) (left_of rs (drop k cards))
    ∙ ap (λ (more : List TroubleLine). troubles_of (with_cards r (take k cards)) ++ more) (taken_and_left rs (drop k cards))
    ∙ ap (λ (front : List TroubleLine). front ++ drop k cards) (troubles_again r (take k cards) (own_all 2 r cards))
    ∙ take-append-drop k cards

-- the lines of records don't show what cards they took
pub dealt_lines : (rs : List Record) (cards : List TroubleLine) → map bare_record (dealt_records rs cards) ≡ map bare_record rs
unfolding dealt_records
dealt_lines [] cards = refl
dealt_lines (r ∷ rs) cards = ap (λ (more : List Record). bare_record r ∷ more) (dealt_lines rs (drop (own_count_of r cards) cards))

pub dealt_turns : (turn : ℕ) (rs : List Record) (cards : List TroubleLine) → HaveTurns turn rs → HaveTurns turn (dealt_records rs cards)
unfolding dealt_records
dealt_turns turn [] cards h = tt
dealt_turns turn (r ∷ rs) cards h = (h.0, dealt_turns (turn + 1) rs (drop (own_count_of r cards) cards) h.1)

cards_range : (cards : List TroubleLine) → AllByRecursion IsTroubleLine cards → AllByRecursion IsCard (map (λ t. t.card) cards)
cards_range [] h = tt
cards_range (t ∷ cards) h = (h.0.card, cards_range cards h.1)

all_drop : {A : Type 0} (P : A → Type 0) (n : ℕ) (xs : List A) → AllByRecursion P xs → AllByRecursion P (drop n xs)
all_drop P zero xs h = h
all_drop P (suc n) [] h = tt
all_drop P (suc n) (x ∷ xs) h = all_drop P n xs h.1

pub dealt_range : (rs : List Record) (cards : List TroubleLine) → AllByRecursion IsRecord rs → AllByRecursion IsTroubleLine cards
    → AllByRecursion IsRecord (dealt_records rs cards)
unfolding dealt_records
dealt_range [] cards h h2 = tt
dealt_range (r ∷ rs) cards h h2 =
    let k = own_count_of r cards in
    let own = take k cards in
    let few : length (map (λ t. t.card) own) ≤ 2 =
    (let e = length-map own (λ (t : TroubleLine). t.card) in let e2 = length-take k cards in let le = own_le 2 r cards in omega (arith, e, e2, le.0)) in (
      record {
        turn = h.0.turn;
        marker = h.0.marker;
        job_no = h.0.job_no;
        job = h.0.job;
        end = h.0.end;
        cards = cards_range own (all_take IsTroubleLine k cards h2);
        few = few;
      },
      dealt_range rs (drop k cards) h.1 (all_drop IsTroubleLine k cards h2),
    )
