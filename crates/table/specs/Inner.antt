-- Only contracts of inner functions, of `row_in` and `rows_fault`, which crate reader calls, and
-- proofs cite this file; a buyer need not read it. It says what the code asks of some rows of a
-- table, one function of it each. `specs/Rules.antt` says the rules.
use Rattle.std.specs.Prelude.{◌≡◌, Bool, List, ℕ, leb, ltb, eqb, length, if◌then◌else◌, Ok}
use Rattle.laws.specs.Choice.{unless◌say◌else◌, every}
use Rattle.std.specs.List.{list_all}
use Rattle.table.specs.declared.ByMode.{ByMode}
use Rattle.table.specs.declared.Server.{Server}
use Rattle.table.specs.declared.Task.{Task}
use Rattle.table.specs.declared.Table.{Table}
use Rattle.table.specs.declared.Refusal.TheVariants.{AbsentRow, OtherPartition, NotTimed, OtherServer, Falling}
use Rattle.table.specs.Rows.{is_timed}
use Rattle.table.specs.Rules.{server_keeps, stays_home, task_stands}
use Rattle.units.specs.declared.Ticks.{Ticks}
use Rattle.table.specs.Refusals.{breaks, Standing}

-- the place of a server row in the array, and 0 where the array has no such place
abbrev pub place_in : ℕ → ℕ
place_in row = if ltb row 32 then row else 0

-- what `task_fault` asks of the limits and of the two rows that a task names, h and d being what was
-- read for them and count how many rows there are
abbrev pub rows_fault : ℕ → Server → Server → ℕ → ℕ → ByMode Ticks → Standing
rows_fault count h d home degraded limit =
    unless ltb home count say breaks AbsentRow 1
    else unless ltb degraded count say breaks AbsentRow 2
    else unless eqb d.partition h.partition say breaks OtherPartition 2
    else unless is_timed d.kind say breaks NotTimed 2
    else unless stays_home h.kind home degraded say breaks OtherServer 2
    else unless leb limit.n.0 limit.d1.0 say breaks Falling 6
    else unless leb limit.d1.0 limit.d2.0 say breaks Falling 7
    else (Ok tt)

-- servers keep the rules of a row
abbrev pub servers_keep : List Server → Bool
servers_keep ss = list_all (λ s. every (server_keeps s)) ss

-- tasks keep the rules of a row, beside servers
abbrev pub tasks_keep : List Task → List Server → Bool
tasks_keep ks ss = list_all (λ k. task_stands ss k) ks

-- every table that code holds has its arrays' lengths; a table of the definitions, whose rows are
-- lists, is told so
pub record Sized (t : Table) : Type 0 where
  pub servers : length t.servers ≡ 32
  pub tasks : length t.tasks ≡ 64
