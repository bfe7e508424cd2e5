use Rattle.std.specs.Prelude.{ℕ, List, Result}
use Rattle.turns.specs.Script as generic
use Rattle.turns.specs.Seen as seen_by
use Rattle.turns.specs.declared.wanted.Wanted as wanted
use Rattle.attempts.specs.WalkOnWords as live_by
use Rattle.xbar_equip.specs.Conn.{conn_eq}
use Rattle.xbar_equip.specs.Word.{ConnWord, Word, word_number}
use Rattle.xbar_equip.specs.declared.conn.Conn.{Conn}
use Rattle.xbar_jobs.specs.Closing.{value_after}
use Rattle.xbar_jobs.specs.declared.effect.Effect.{Effect}

-- what a marker does until it can decide, with the office's connectors as locks
abbrev pub Script : Type 0 → Type 0
Script A = generic.Script Conn A

-- the connectors that an attempt holds and the words that it has read
abbrev pub Seen : Type 0
Seen = seen_by.Seen Conn

-- what a walk needs next: a connector to seize, or a word to test
abbrev pub Wanted : Type 0
Wanted = wanted.Wanted Conn ℕ

-- the state of a walk that makes steps of its own: what it has seen, and how many steps are left
-- to it
abbrev pub WalkState : Type 0
WalkState = live_by.WalkState Conn

-- the outcome of a walk that makes steps of its own: what it found or needs next, its state, and
-- the words
abbrev pub WalkOutcome : Type 0 → Type 0
WalkOutcome A = live_by.WalkOutcome Conn A

-- test one of the office's words, and find its value
abbrev pub test : Word → Script ℕ
test word = generic.test (word_number word)

-- the walk of an attempt through a script: to its end, or to what it needs next
abbrev pub walk : {A : Type 0} → Seen → Script A → Result A Wanted
walk seen script = generic.walk conn_eq seen script

-- the number of a connector's own word
abbrev pub conn_word : Conn → ℕ
conn_word conn = word_number (ConnWord conn)

-- the walk that makes steps of its own as long as it may, and takes each word as effects will
-- leave it
abbrev pub walk_on_words : {A : Type 0} → List Effect → Script A → WalkState → List ℕ
    → WalkOutcome A
walk_on_words made script state words =
    live_by.walk_on_words conn_eq conn_word 42 19 (value_after made) script state words

-- a script that takes words as effects will leave them
abbrev pub as_if_made : {A : Type 0} → List Effect → Script A → Script A
as_if_made effects script = generic.read_with (value_after effects) script
