use Rattle.std.specs.Prelude.{ℕ, ◌+◌, ◌*◌, ◌<◌, Option, Some, None}
use Rattle.xbar_equip.specs.Conn.{IsConn}
use Rattle.xbar_equip.specs.declared.conn.Conn.{Conn}
use Rattle.xbar_equip.specs.declared.conn.Conn.TheVariants.{Llf, Tlf, Group}

-- the office's shared words: ten line switches and ten line junctor switches for each line link
-- frame, ten trunk switches and ten trunk junctor switches for each trunk link frame, busy bits
-- for each group, a word for each connector, and the turn word
pub data Word : Type 0 where
  LineSwitch : ℕ → ℕ → Word
  LineJunctor : ℕ → ℕ → Word
  TrunkSwitch : ℕ → ℕ → Word
  TrunkJunctor : ℕ → ℕ → Word
  GroupWord : ℕ → Word
  ConnWord : Conn → Word
  TurnWord : Word

-- the word exists: its frame, switch, channel, group or connector is in range
abbrev pub IsWord : Word → Type 0
IsWord (LineSwitch frame switch) = (frame < 10) × (switch < 10)
IsWord (LineJunctor frame channel) = (frame < 10) × (channel < 10)
IsWord (TrunkSwitch frame switch) = (frame < 10) × (switch < 10)
IsWord (TrunkJunctor frame channel) = (frame < 10) × (channel < 10)
IsWord (GroupWord group) = group < 16
IsWord (ConnWord conn) = IsConn conn
IsWord TurnWord = Unit {0}

-- the number of shared words
abbrev pub word_count : ℕ
word_count = 453

-- the index of a word in the list of all words
abbrev pub word_number : Word → ℕ
word_number (LineSwitch frame switch) = 20 * frame + switch
word_number (LineJunctor frame channel) = 20 * frame + 10 + channel
word_number (TrunkSwitch frame switch) = 200 + 20 * frame + switch
word_number (TrunkJunctor frame channel) = 200 + 20 * frame + 10 + channel
word_number (GroupWord group) = 400 + group
word_number (ConnWord (Llf frame)) = 416 + frame
word_number (ConnWord (Tlf frame)) = 426 + frame
word_number (ConnWord (Group group)) = 436 + group
word_number TurnWord = 452

-- the connector that protects a word: a marker holds it whenever it reads or changes the word
abbrev pub protector : Word → Option Conn
protector (LineSwitch frame switch) = Some (Llf frame)
protector (LineJunctor frame channel) = Some (Llf frame)
protector (TrunkSwitch frame switch) = Some (Tlf frame)
protector (TrunkJunctor frame channel) = Some (Tlf frame)
protector (GroupWord group) = Some (Group group)
protector (ConnWord conn) = None
protector TurnWord = None
