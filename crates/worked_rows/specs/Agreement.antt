use Rattle.std.specs.Prelude.{◌≡◌, IfSome, Some, option_map, string_bytes}
use Rattle.worked_rows.specs.declared.row.Row.{Row}
use Rattle.worked_rows.specs.declared.work.RowResult.{RowResult}

-- what the engine made of a row is what the row says: each byte of the output, the status, and the
-- sentence if the row has one
pub record Agrees (found : RowResult) (row : Row) : Type 0 where
  pub text : found.text.items ≡ row.output.now
  pub status : found.status ≡ row.status
  pub diagnostic : IfSome row.diagnostic
      (λ wanted. option_map string_bytes found.diagnostic ≡ Some wanted.now)
