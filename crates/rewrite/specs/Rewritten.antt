-- What rewrite prints of a table that was taken, which keeps the rules: its text, written back.
use Rattle.std.specs.Prelude.{List, [], ℕ, if◌then◌else◌}
use Rattle.table.specs.declared.Table.{Table}
use Rattle.table.specs.Rows.{rows_of}
use Rattle.table.specs.Rules.{table_keeps}
use Rattle.text.specs.Write.{write}

unfoldable pub rewritten : Table → List ℕ
rewritten t = if table_keeps t then write (rows_of t) else []
