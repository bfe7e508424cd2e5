use Rattle.std.proofs.Common.{◌≡◌, ◌<◌, ◌+◌, ℕ, suc, List, [], ◌∷◌, ◌++◌, length, map, take, drop, get_or, set, refl, sym, ap, ◌∙◌, arith, append_assoc}
use Rattle.std.proofs.Common.{length-take-le}
use Rattle.{std.proofs.lemmas.List.{get_or_at, take_more, drop_more, set_at}, xbar_office.specs.declared.reply.{Card.Card, Record.Record}}
use Rattle.xbar_report.specs.{Dealt.{dealt_records, left_of, own_count_of, with_cards}, declared.line.TroubleLine.TroubleLine}

-- one more record takes its cards
pub dealt_more : (rs : List Record) (r : Record) (cards : List TroubleLine)
    → dealt_records (rs ++ r ∷ []) cards ≡ dealt_records rs cards ++ with_cards r (take (own_count_of r (left_of rs cards)) (left_of rs cards)) ∷ []
unfolding dealt_records left_of
dealt_more [] r cards = refl
dealt_more (x ∷ rs) r cards =
    ap (λ (more : List Record). with_cards x (take (own_count_of x cards) cards) ∷ more) (dealt_more rs r (drop (own_count_of x cards) cards))

pub left_more : (rs : List Record) (r : Record) (cards : List TroubleLine)
    → left_of (rs ++ r ∷ []) cards ≡ drop (own_count_of r (left_of rs cards)) (left_of rs cards)
unfolding left_of
left_more [] r cards = refl
left_more (x ∷ rs) r cards = left_more rs r (drop (own_count_of x cards) cards)

pub length-dealt : (rs : List Record) (cards : List TroubleLine) → length (dealt_records rs cards) ≡ length rs
unfolding dealt_records
length-dealt [] cards = refl
length-dealt (x ∷ rs) cards = ap suc (length-dealt rs (drop (own_count_of x cards) cards))

-- no record takes none
pub dealt_none : (cards : List TroubleLine) → dealt_records [] cards ≡ []
unfolding dealt_records
dealt_none cards = refl

pub left_all : (cards : List TroubleLine) → left_of [] cards ≡ cards
unfolding left_of
left_all cards = refl

-- a record with these cards, written out
abbrev pub with_given : Record → List Card → Record
with_given r given = record r { reply = record r.reply { cards = given } }

-- the loop's step: the record at i takes its cards of the rest
pub deal_step : (old now : List Record) (cards rest own others : List TroubleLine) (given : List Card) (i count : ℕ) (seen : Record) → i < length old
    → now ≡ dealt_records (take i old) cards ++ drop i old → rest ≡ left_of (take i old) cards → count ≡ own_count_of (get_or now i seen) rest
    → own ≡ take count rest → others ≡ drop count rest → given ≡ map (λ t. t.card) own
    → (set now i (with_given (get_or now i seen) given) ≡ dealt_records (take (i + 1) old) cards ++ drop (i + 1) old)
    × (others ≡ left_of (take (i + 1) old) cards)
deal_step old now cards rest own others given i count seen within is rest_is count_is own_is others_is given_is =
    let x = get_or old i seen in
    let front = dealt_records (take i old) cards in
    let size : length front ≡ i = length-dealt (take i old) cards ∙ length-take-le i old (omega arith) in
    let cells : now ≡ front ++ x ∷ drop (i + 1) old = is ∙ ap (λ (more : List Record). front ++ more) (drop_more old i seen within) in
    let here : get_or now i seen ≡ x = ap (λ (l : List Record). get_or l i seen) cells ∙ get_or_at front x (drop (i + 1) old) seen i size in
    let more : take (i + 1) old ≡ take i old ++ x ∷ [] = take_more old i seen within in
    let left = left_of (take i old) cards in
    let k : count ≡ own_count_of x left = count_is ∙ ap (λ (r : Record). own_count_of r rest) here ∙ ap (own_count_of x) rest_is in
    let taken : own ≡ take (own_count_of x left) left = own_is ∙ ap (λ (n : ℕ). take n rest) k ∙ ap (take (own_count_of x left)) rest_is in
    let gone : others ≡ drop (own_count_of x left) left = others_is ∙ ap (λ (n : ℕ). drop n rest) k ∙ ap (drop (own_count_of x left)) rest_is in
    let cards_is : given ≡ map (λ t. t.card) (take (own_count_of x left) left) = given_is ∙ ap (map (λ t. t.card)) taken in
    let written : with_given (get_or now i seen) given ≡ with_cards x (take (own_count_of x left) left) =
    ap (λ (r : Record). with_given r given) here ∙ ap (with_given x) cards_is in
    let y = with_cards x (take (own_count_of x left) left) in
    let all : set now i (with_given (get_or now i seen) given) ≡ front ++ y ∷ drop (i + 1) old =
    ap (set now i) written ∙ ap (λ (l : List Record). set l i y) cells ∙ set_at front x (drop (i + 1) old) y i size in
    let wanted : dealt_records (take (i + 1) old) cards ≡ front ++ y ∷ [] =
    ap (λ (rs : List Record). dealt_records rs cards) more ∙ dealt_more (take i old) x cards in (
      all ∙ sym (ap (λ (l : List Record). l ++ drop (i + 1) old) wanted ∙ append_assoc front (y ∷ []) (drop (i + 1) old)),
      gone ∙ sym (ap (λ (rs : List Record). left_of rs cards) more ∙ left_more (take i old) x cards),
    )
