-- A card has eleven lines, of which the third is its title and no other is one.
use Rattle.std.proofs.Common.{◌≡◌, ℕ, ◌-◌, Bool, true, false, List, [], ◌∷◌, ◌++◌, map, length, refl, sym, ap, ◌∙◌, append_assoc, append-nil, ◌==◌, codes}
use Rattle.std.proofs.Common.{decimal, filter, flat_map}
use Rattle.{std.{specs.List.{concat, range_with_len}, proofs.lemmas.List.map-append}, xbar_equip.specs.Link.{Link, kind_eq, link_text}}
use Rattle.xbar_equip.specs.{declared.link.LinkKind.{LinkKind, TheVariants.{LineLink, Junctor, TrunkLink}}, TextLines.{lines, IsWholeLine}}
use Rattle.{xbar_equip.proofs.WholeLines.lines_of_nothing, xbar_office.specs.declared.reply.{Card.Card, Record.Record}}
use Rattle.xbar_office_text.specs.CardRows.{row, filled, mark, ten_places, digit_row, kind_row, first_name, second_name, link_rows}
use Rattle.xbar_office_text.specs.{Cards.{title_row, job_row, trial_row, card_text, cards_of}, Titles.is_title}
use Rattle.xbar_office_text.proofs.{OtherLines.{IsOther, past_other, at_title}, PlainTexts.{plain_blanks, plain_decimal, plain_flat_map, plain_link}}
use Rattle.xbar_office_text.proofs.WholeLines.{lacks_feed, IsPlain, plain_append, plain_nothing, plain_with, whole_append, whole_feed, whole_with}

plain_filled : (places : ℕ) (text : List ℕ) → IsPlain text → IsPlain (filled places text)
unfolding filled
plain_filled places text p = plain_append p (plain_blanks (places - length text))

row_whole : (edge text : List ℕ) → lacks_feed edge ≡ true → IsPlain text → IsWholeLine (row edge text)
unfolding row
row_whole edge text h p = whole_with edge h (whole_append (plain_filled 44 text p) (whole_with (codes "|") refl whole_feed))

side_other : (text : List ℕ) → is_title (row (codes "|    ") text) ≡ false
unfolding row
side_other text = refl

side : (text : List ℕ) → IsPlain text → IsOther (row (codes "|    ") text)
side text p = record { whole = row_whole (codes "|    ") text refl p; other = side_other text }

plain_mark : (b : Bool) → IsPlain (codes " " ++ mark b)
plain_mark true = record { lacks = refl }
plain_mark false = record { lacks = refl }

plain_places : (digit : ℕ) → IsPlain (ten_places digit)
unfolding ten_places
plain_places digit = plain_flat_map (λ place. codes " " ++ mark (place == digit)) (range_with_len 0 10) (λ place. plain_mark (place == digit))

digit_other : (name : List ℕ) (digit : ℕ) → IsPlain name → IsOther (digit_row name digit)
unfolding digit_row
digit_other name digit p = side (filled 18 name ++ ten_places digit) (plain_append (plain_filled 18 name p) (plain_places digit))

plain_first : (kind : LinkKind) → IsPlain (first_name kind)
plain_first LineLink = record { lacks = refl }
plain_first Junctor = record { lacks = refl }
plain_first TrunkLink = record { lacks = refl }

plain_second : (kind : LinkKind) → IsPlain (second_name kind)
plain_second LineLink = record { lacks = refl }
plain_second Junctor = record { lacks = refl }
plain_second TrunkLink = record { lacks = refl }

abbrev kinds_text : LinkKind → List ℕ
kinds_text kind =
    concat (mark (kind_eq kind LineLink) ∷ codes " line link   " ∷ mark (kind_eq kind Junctor) ∷ codes " junctor   " ∷ mark (kind_eq kind TrunkLink)
    ∷ codes " trunk link" ∷ [])

plain_kinds : (kind : LinkKind) → IsPlain (kinds_text kind)
plain_kinds LineLink = record { lacks = refl }
plain_kinds Junctor = record { lacks = refl }
plain_kinds TrunkLink = record { lacks = refl }

kind_other : (kind : LinkKind) → IsOther (kind_row kind)
unfolding kind_row
kind_other kind = side (kinds_text kind) (plain_kinds kind)

job_other : (owner : Record) → IsOther (job_row owner)
unfolding job_row row
job_other owner = record {
  whole =
      row_whole (codes " /   ") (concat (codes "turn " ∷ decimal owner.turn ∷ codes ", job " ∷ decimal owner.job_no ∷ [])) refl
      (plain_with (codes "turn ") refl (plain_append (plain_decimal owner.turn)
      (plain_with (codes ", job ") refl (plain_append (plain_decimal owner.job_no) plain_nothing))));
  other = refl;
}

trial_other : (owner : Record) (card : Card) → IsOther (trial_row owner card)
unfolding trial_row
trial_other owner card =
    side (concat (codes "marker " ∷ decimal owner.marker ∷ codes ", trial " ∷ decimal card.trial ∷ []))
    (plain_with (codes "marker ") refl (plain_append (plain_decimal owner.marker)
    (plain_with (codes ", trial ") refl (plain_append (plain_decimal card.trial) plain_nothing))))

title_whole : (card : Card) → IsWholeLine (title_row card)
unfolding title_row
title_whole card =
    row_whole (codes "  /  ") (concat (codes "TROUBLE CARD: " ∷ link_text card.link ∷ codes " is faulty" ∷ [])) refl
    (plain_with (codes "TROUBLE CARD: ") refl (plain_append (plain_link card.link) (plain_with (codes " is faulty") refl plain_nothing)))

title_is : (card : Card) → is_title (title_row card) ≡ true
unfolding title_row row filled
title_is card = refl

titles_of_link : (link : Link) (rest : List ℕ) → filter is_title (lines (link_rows link ++ rest)) ≡ filter is_title (lines rest)
unfolding link_rows
titles_of_link link rest =
    let r1 = digit_row (codes "channel") link.channel in
    let r2 = digit_row (second_name link.kind) link.at in
    let r3 = digit_row (first_name link.kind) link.frame in
    let r4 = row (codes "|    ") (codes "                   0 1 2 3 4 5 6 7 8 9") in
    let text : link_rows link ++ rest ≡ kind_row link.kind ++ (r4 ++ (r3 ++ (r2 ++ (r1 ++ rest)))) = simp (append_assoc, append-nil) in
    ap (λ (t : List ℕ). filter is_title (lines t)) text
    ∙ past_other (kind_row link.kind) (r4 ++ (r3 ++ (r2 ++ (r1 ++ rest)))) (kind_other link.kind)
    ∙ past_other r4 (r3 ++ (r2 ++ (r1 ++ rest))) (side (codes "                   0 1 2 3 4 5 6 7 8 9") (record { lacks = refl }))
    ∙ past_other r3 (r2 ++ (r1 ++ rest)) (digit_other (first_name link.kind) link.frame (plain_first link.kind))
    ∙ past_other r2 (r1 ++ rest) (digit_other (second_name link.kind) link.at (plain_second link.kind))
    ∙ past_other r1 rest (digit_other (codes "channel") link.channel (record { lacks = refl }))

abbrev upper_edge : List ℕ
upper_edge = codes "   .---------------------------------------------.\n"

abbrev lower_edge : List ℕ
lower_edge = codes "'------------------------------------------------'\n"

blank_other : IsOther (10 ∷ [])
blank_other = record { whole = whole_feed; other = refl }

upper_other : IsOther upper_edge
upper_other = record { whole = whole_with (codes "   .---------------------------------------------.") refl whole_feed; other = refl }

lower_other : IsOther lower_edge
lower_other = record { whole = whole_with (codes "'------------------------------------------------'") refl whole_feed; other = refl }

titles_of_card : (owner : Record) (card : Card) (rest : List ℕ)
    → filter is_title (lines (card_text owner card ++ rest)) ≡ title_row card ∷ filter is_title (lines rest)
unfolding card_text
titles_of_card owner card rest =
    let r1 = lower_edge ++ rest in
    let r2 = link_rows card.link ++ r1 in
    let r3 = trial_row owner card ++ r2 in
    let r4 = job_row owner ++ r3 in
    let r5 = title_row card ++ r4 in
    let text : card_text owner card ++ rest ≡ (10 ∷ []) ++ (upper_edge ++ r5) = simp (append_assoc, append-nil) in
    let behind : filter is_title (lines r4) ≡ filter is_title (lines rest) =
    past_other (job_row owner) r3 (job_other owner) ∙ past_other (trial_row owner card) r2 (trial_other owner card) ∙ titles_of_link card.link r1
    ∙ past_other lower_edge rest lower_other in
    ap (λ (t : List ℕ). filter is_title (lines t)) text
    ∙ past_other (10 ∷ []) (upper_edge ++ r5) blank_other
    ∙ past_other upper_edge r5 upper_other
    ∙ at_title (title_row card) r4 (title_whole card) (title_is card)
    ∙ ap (λ (more : List (List ℕ)). title_row card ∷ more) behind

titles_of_cards : (owner : Record) (cards : List Card) (rest : List ℕ)
    → filter is_title (lines (flat_map (card_text owner) cards ++ rest)) ≡ map title_row cards ++ filter is_title (lines rest)
titles_of_cards owner [] rest = refl
titles_of_cards owner (card ∷ cards) rest =
    ap (λ (t : List ℕ). filter is_title (lines t)) (append_assoc (card_text owner card) (flat_map (card_text owner) cards) rest)
    ∙ titles_of_card owner card (flat_map (card_text owner) cards ++ rest)
    ∙ ap (λ (more : List (List ℕ)). title_row card ∷ more) (titles_of_cards owner cards rest)

titles_of_record : (owner : Record) (rest : List ℕ)
    → filter is_title (lines (cards_of owner ++ rest)) ≡ map title_row owner.reply.cards ++ filter is_title (lines rest)
unfolding cards_of
titles_of_record owner rest = titles_of_cards owner owner.reply.cards rest

no_titles : filter is_title (lines []) ≡ []
no_titles = ap (filter is_title) lines_of_nothing

-- the titles are those of all cards, in their order
pub titles_of_records : (records : List Record)
    → filter is_title (lines (flat_map cards_of records)) ≡ map title_row (flat_map (λ (owner : Record). owner.reply.cards) records)
titles_of_records [] = no_titles
titles_of_records (owner ∷ records) =
    titles_of_record owner (flat_map cards_of records)
    ∙ ap (λ (more : List (List ℕ)). map title_row owner.reply.cards ++ more) (titles_of_records records)
    ∙ sym (map-append title_row owner.reply.cards (flat_map (λ (other : Record). other.reply.cards) records))
