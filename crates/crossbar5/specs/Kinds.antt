use Rattle.std.specs.Prelude.{◌≡◌, ℕ, ◌==◌, ◌||◌, Bool, IsTrue, List, [], false, length, map, true}
use Rattle.xbar_moves.specs.declared.kinds.Kind.{Kind}
use Rattle.xbar_moves.specs.declared.kinds.Kind.TheVariants.{Dial, Completing, Combined}
use Rattle.crossbar5_task.specs.Tasks.{is_on_rows}
use Rattle.crossbar5_task.specs.declared.task.Task.{Task}
use Rattle.xbar_moves.specs.Kinds.{IsMarkerCount, combined_pair}

-- the letter of a marker's kind: D, C or X
abbrev pub letter_of : Kind → ℕ
letter_of Dial = 68
letter_of Completing = 67
letter_of Combined = 88

-- whether a letter names a kind
abbrev pub is_letter : ℕ → Bool
is_letter letter =
    letter == letter_of Dial || letter == letter_of Completing || letter == letter_of Combined

-- a text names the kinds of an office's markers: a letter for each, marker 0 first
pub record Names (text : List ℕ) (kinds : List Kind) : Type 0 where
  pub letters : text ≡ map letter_of kinds
  pub count : IsMarkerCount (length kinds)

-- the letters name no kinds: they aren't 1 to 48, or one of them is another
abbrev pub NamesNone : List ℕ → Type 0
NamesNone letters = (kinds : List Kind) → ¬ Names letters kinds

-- the kinds are those that the letters name if the input is rows; for records they are the default
abbrev pub NamesIf : Bool → List ℕ → List Kind → Type 0
NamesIf true letters kinds = Names letters kinds
NamesIf false letters kinds = kinds ≡ combined_pair

-- the kinds of a task's markers, by letters
abbrev pub NamesFor : Task → List ℕ → List Kind → Type 0
NamesFor task letters kinds = NamesIf (is_on_rows task) letters kinds

-- the letters of the kinds of a task's markers are refused; those of a task on records never
abbrev pub RefusesLetters : Task → List ℕ → Type 0
RefusesLetters task letters = IsTrue (is_on_rows task) × NamesNone letters
