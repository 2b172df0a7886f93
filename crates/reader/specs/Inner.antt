-- Only contracts of inner functions cite this file; a buyer need not read it. It says what the
-- reader's inner functions ask of the table that is being read. The reader gives it to each; nobody
-- else calls them.
pub mod Fields
pub mod Lines
pub mod Frame
use Rattle.std.specs.Prelude.{◌≡◌, Bool, true, false, not, ◌&&◌, [], ◌∷◌, ℕ, ◌≤◌, ◌<◌, ltb, eqb, Ok}
use Rattle.laws.specs.Choice.{unless◌say◌else◌}
use Rattle.laws.specs.Search.{first_failed}
use Rattle.laws.specs.RoundUp.{up}
use Rattle.units.specs.declared.Micros.{Micros}
use Rattle.table.specs.declared.Server.{Server}
use Rattle.table.specs.declared.Table.{Table}
use Rattle.table.specs.declared.Refusal.TheVariants.{Malformed, OutOfBounds, NotWhole}
use Rattle.table.specs.Rows.{rows_of, table_of}
use Rattle.table.specs.Rules.{tick_keeps}
use Rattle.table.specs.Inner.{place_in, rows_fault}
use Rattle.table.specs.declared.ByMode.{ByMode}
use Rattle.text.specs.declared.ServerLine.{ServerLine}
use Rattle.text.specs.declared.TaskLine.{TaskLine}
use Rattle.text.specs.declared.Word.{Word}
use Rattle.text.specs.declared.Word.TheVariants.{ATick, AServer, ATask, Unknown}
use Rattle.text.specs.declared.Line.{Line}
use Rattle.text.specs.declared.Line.TheVariants.{OfTick, OfServer, OfTask, Malformed as NoForm}
use Rattle.text.specs.Line.{word_of}
use Rattle.reader.specs.declared.rules.Named.{Named}
use Rattle.text.specs.Standing.{anything, server_bounds, server_whole, task_bounds, limits_of, tell◌at◌or◌}
use Rattle.table.specs.Refusals.{breaks, Standing}

-- The table holds the rows above line n and nothing else. All lines but the first stand below a
-- `tick` line.
pub record Above (n : ℕ) (t : Table) : Type 0 where
  pub whole : t ≡ table_of (rows_of t)
  pub servers : t.nservers ≤ 32
  pub tasks : t.ntasks ≤ 64
  pub first : n ≤ 1 → t.nservers ≡ 0
  pub below : 1 < n → tick_keeps t.tick.0 ≡ true

-- Limits of which each, rounded up, is a number of ticks that a row holds.
abbrev pub FewTicks : ℕ → ByMode Micros → Type 0
FewTicks t x = (up x.n.0 t ≤ 100000) × (up x.d1.0 t ≤ 100000) × (up x.d2.0 t ≤ 100000)

-- What `placed` asks of the rows above is how many there are.
abbrev pub placed_by : ℕ → ℕ → ℕ → Word → Bool
placed_by n servers tasks ATick = eqb n 1
placed_by n servers tasks AServer = ltb 1 n && eqb tasks 0
placed_by n servers tasks ATask = not (eqb servers 0)
placed_by n servers tasks Unknown = false

-- What `standing` says of each kind of line in its place, by what it asks of the rows above: how
-- many there are, and for a task what was read for the two that it names.
abbrev pub tick_standing : Micros → Standing
tick_standing u = tell OutOfBounds at first_failed (anything ∷ tick_keeps u.0 ∷ []) or (Ok tt)

abbrev pub server_standing : ℕ → ℕ → ServerLine → Standing
server_standing tick servers s =
    tell OutOfBounds at first_failed (server_bounds servers tick s)
    or tell NotWhole at first_failed (server_whole tick s)
    or (Ok tt)

abbrev pub task_standing : ℕ → Server → Server → ℕ → ℕ → TaskLine → Standing
task_standing tick h d count tasks k =
    tell OutOfBounds at first_failed (task_bounds tasks tick k)
    or rows_fault count h d k.home k.degraded (limits_of tick k.limit)

-- Where the rows that a task line names are read. Other lines name none: row 0 is read.
abbrev pub none_named : Named
none_named = record { home = 0; degraded = 0 }

abbrev pub named_rows : Line → Named
named_rows (OfTick u) = none_named
named_rows (OfServer s) = none_named
named_rows (OfTask k) = record { home = place_in k.home; degraded = place_in k.degraded }
named_rows (NoForm word field) = none_named

-- A line in its place, and a line anywhere.
abbrev pub in_place : ℕ → ℕ → ℕ → Server → Server → Line → Standing
in_place tick servers tasks h d (OfTick u) = tick_standing u
in_place tick servers tasks h d (OfServer s) = server_standing tick servers s
in_place tick servers tasks h d (OfTask k) = task_standing tick h d servers tasks k
in_place tick servers tasks h d (NoForm word field) = breaks Malformed field

abbrev pub standing_by : ℕ → ℕ → ℕ → ℕ → Server → Server → Line → Standing
standing_by n tick servers tasks h d l =
    unless placed_by n servers tasks (word_of l) say breaks Malformed 0
    else in_place tick servers tasks h d l
