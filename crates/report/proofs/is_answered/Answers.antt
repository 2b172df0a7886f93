-- `report::is_answered` is safe, and what it begins with stands: a table that was taken keeps the rules,
-- and zeros are the numbers of a file of which nothing was read. Assumes nothing.
use Rattle.std.proofs.Common.{◌≡◌, [], Option, Some, Result, Ok}
use Rattle.table.specs.declared.Table.{Table}
use Rattle.text.specs.declared.ReadError.{ReadError}
use Rattle.text.specs.TableText.{handed}
use Rattle.text.specs.Read.{read, shown}
use Rattle.lines.specs.declared.Held.{Held}
use Rattle.lines.specs.HeldLine.{held_of}
use Rattle.events.specs.declared.Begun.{Begun}
use Rattle.run.specs.Release.{start_of}
use Rattle.run.proofs.Refused.{start_run}
use Rattle.files.specs.Handed.{Handed}
use Rattle.files.proofs.Handed.{given_keeps, given_sized, given_taken}
use Rattle.report.specs.declared.count.Counts.{Counts}
use Rattle.report.specs.Inner.Count.{no_counts}
use Rattle.report.specs.Pieces.{AfterSome}
use Rattle.report.proofs.Pieces.{start_after, some_after}
use Rattle.report.proofs.is_answered.Goals as goal
use Rattle.run.specs.declared.Run.{Run}

-- what stands at the start
begun : (g : Option (Result Table ReadError)) → Handed (λ text. handed (shown (read text))) g → (t : Table) → g ≡ Some (Ok t) →
    (b : Begun Run) → b ≡ start_of t → (h : Held) → h ≡ held_of [] → (k : Counts) → k ≡ no_counts →
    AfterSome (record { run = b.run; held = h; counts = k })
begun g d t e b p h q k n = (
  t,
  [],
  rw (p, start_run t, q, n) (start_after t (given_sized g d t e) (given_keeps g d t e)),
)

pub count_all-requires : goal.count_all-requires
count_all-requires g c =
    begun c.take_table.result c.take_table.ensures _
    (given_taken c.in-Some-take_table.is c.say_refused.ensures c.in-Ok.is)
    c.start-started.result c.start-started.ensures c.no_line-held.result c.no_line-held.ensures
    c.no_counts-counts.result c.no_counts-counts.ensures

pub put_report-n-requires-clause-after_some : goal.put_report-n-requires-clause-after_some
put_report-n-requires-clause-after_some g c =
    some_after _
    (begun c.take_table.result c.take_table.ensures _
    (given_taken c.in-Some-take_table.is c.say_refused.ensures c.in-Ok.is)
    c.start-started.result c.start-started.ensures c.no_line-held.result c.no_line-held.ensures
    c.no_counts-counts.result c.no_counts-counts.ensures)
    c.in-Some-count_all.ensures
