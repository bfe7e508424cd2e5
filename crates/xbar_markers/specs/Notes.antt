-- notes that go along with calls
use Rattle.std.specs.Prelude.{ℕ, ◌<◌, ◌^◌, List, [], length}
use Rattle.atomic_table.specs.Seated.{TableId}
use Rattle.xbar_office.specs.declared.reply.Record.{Record}

-- what was noted has the record's turn, if no turn number comes twice
abbrev pub IsNoted : List Record → Record → Type 0
IsNoted noted r = length noted < 2 ^ 64 → r.turn < length noted

-- the name of no shared words
abbrev pub no_table : TableId
no_table = record {
  words = 0;
  slots = 0;
  views_name = 0;
  atom = 0;
  block = 0;
  offset = 0;
  slot_names = [];
}
