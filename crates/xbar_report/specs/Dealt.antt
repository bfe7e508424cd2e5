use Rattle.std.specs.Prelude.{◌==◌, ◌&&◌, ℕ, zero, suc, Bool, List, [], ◌∷◌, map, take, drop, if◌then◌else◌}
use Rattle.xbar_office.specs.declared.reply.Record.{Record}
use Rattle.xbar_report.specs.declared.line.TroubleLine.{TroubleLine}

-- whether a card belongs to a record: its line has the record's turn and job number
abbrev pub belongs : Record → TroubleLine → Bool
belongs r t = t.turn == r.turn && t.job_no == r.job_no

-- the number of the first cards that belong to a record, at most this many
abbrev pub own_of : ℕ → Record → List TroubleLine → ℕ
own_of zero r cards = 0
own_of (suc most) r [] = 0
own_of (suc most) r (t ∷ cards) = if belongs r t then suc (own_of most r cards) else 0

-- the number of cards that a record takes: the first ones that belong to it, at most two
abbrev pub own_count_of : Record → List TroubleLine → ℕ
own_count_of r cards = own_of 2 r cards

-- a record with these cards
abbrev pub with_cards : Record → List TroubleLine → Record
with_cards r cards = record r { reply = record r.reply { cards = map (λ t. t.card) cards } }

-- the records with their cards, which one record after another takes
unfoldable pub dealt_records : List Record → List TroubleLine → List Record
dealt_records [] cards = []
dealt_records (r ∷ records) cards =
    with_cards r (take (own_count_of r cards) cards)
    ∷ dealt_records records (drop (own_count_of r cards) cards)

-- the cards that are left after that
unfoldable pub left_of : List Record → List TroubleLine → List TroubleLine
left_of [] cards = cards
left_of (r ∷ records) cards = left_of records (drop (own_count_of r cards) cards)
