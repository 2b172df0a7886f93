-- `reader::read_table` meets its contract: t holds the rows of the lines before line n, which
-- begins at `at`, so what the text says is what is said from there on. Assumes nothing.
use mathlib.Core.Path.{◌≡◌}
use Prim.Native.Nat.{◌+◌, ◌-◌, ◌≤◌}
use lib.ListN.{length, drop}
use Rattle.decimal.specs.Lines.{line_feed, split}
use Rattle.table.specs.Rows.{no_rows, rows_of}
use Rattle.text.specs.TableText.{read_lines}
use Rattle.text.specs.Read.{table_text}
use Rattle.reader.specs.Inner.{Above}
use Rattle.reader.proofs.read_table.Given as goal

abbrev pub invariant-loop-at : goal.invariant-loop-at
invariant-loop-at l =
    (l.at ≤ length l.text)
    × (l.n ≤ l.at + 1)
    × Above l.n l.t
    × (read_lines table_text 1 no_rows (split line_feed l.text) ≡
    read_lines table_text l.n (rows_of l.t) (split line_feed (drop l.at l.text)))

abbrev pub decreases-loop-at : goal.decreases-loop-at
decreases-loop-at l = length l.text - l.at
