use Rattle.std.specs.Prelude.{◌≡◌, ◌-◌, ℕ, List, drop, length, take}
use Rattle.command_rows.specs.declared.row.Expected.{Expected}
use Rattle.command_rows.specs.declared.row.Expected.TheVariants.{All, Start, End}
use Rattle.command_rows.specs.declared.row.Row.{Row}
use Rattle.command_rows.specs.declared.run.RowResult.{RowResult}

-- these bytes are what is expected on a stream: all of them, those that they begin with, or those
-- that they end with
abbrev pub IsMetBy : Expected → List ℕ → Type 0
IsMetBy (All text) bytes = bytes ≡ text.now
IsMetBy (Start text) bytes = take (length text.now) bytes ≡ text.now
IsMetBy (End text) bytes = drop (length bytes - length text.now) bytes ≡ text.now

-- what the program did with a row is what the row says, on both streams and by its status
pub record Agrees (found : RowResult) (row : Row) : Type 0 where
  pub output : IsMetBy row.output found.output.items
  pub errors : IsMetBy row.errors found.errors.items
  pub status : found.status ≡ row.status
