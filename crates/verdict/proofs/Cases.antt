-- Small tables, worked out by hand from the words of document 01 and request No. 5, and computed. A
-- slip in a definition shows here as an equation that is false. Assumes nothing.
use mathlib.Core.Path.{◌≡◌, refl}
use mathlib.Core.List.{[], ◌∷◌}
use Prim.Native.Nat.{ℕ}
use lib.ListN.{take}
use Rattle.laws.specs.Choice.{every}
use Rattle.laws.specs.Search.{least, first_of}
use Rattle.laws.specs.RoundUp.{up}
use Rattle.laws.specs.Rows.{all_below, sum_below, listed, highest}
use Rattle.table.specs.declared.Kind.{Kind}
use Rattle.table.specs.declared.Kind.TheVariants.{Event, Timed}
use Rattle.table.specs.declared.Level.TheVariants.{HI}
use Rattle.table.specs.declared.Mode.TheVariants.{N, D1, D2}
use Rattle.table.specs.declared.Refusal.TheVariants.{Unsound, NoServer}
use Rattle.table.specs.declared.ByMode.{ByMode}
use Rattle.table.specs.declared.Server.{Server}
use Rattle.table.specs.declared.Table.{Table}
use Rattle.table.specs.Rows.{table_of, no_table}
use Rattle.table.specs.Rules.{server_keeps, task_keeps, task_fault, task_stands, differ, keeps, table_keeps}
use Rattle.table.specs.Example.{by_mode, server, task, rows, example}
use Rattle.verdict.specs.declared.Verdict.{Verdict}
use Rattle.verdict.specs.declared.Verdict.TheVariants.{Response}
use Rattle.verdict.specs.declared.Fits.TheVariants.{Yes, Miss, No as NoFits}
use Rattle.verdict.specs.Verdict.{interference, meets, response_at, verdict_of}
use Rattle.verdict.specs.Fits.{verdicts_of, no_verdicts, least_row, from_verdicts, fits_of}
use Rattle.units.specs.declared.Ticks.{Ticks}

-- Servers of period 4, the higher first, with these capacities.
abbrev pub first : ByMode Ticks → Server
first c = server 0 Timed 3 4 c

abbrev pub middle : Kind → ByMode Ticks → Server
middle kind c = server 1 kind 2 4 c

abbrev pub last : ByMode Ticks → Server
last c = server 2 Timed 1 4 c

unfoldable pub three : Kind → ByMode Ticks → ByMode Ticks → ByMode Ticks → Table
three kind a b c = table_of (rows (first a ∷ middle kind b ∷ last c ∷ []) (task 0 0 1 HI (by_mode 1 1 1) ∷ []))

unfoldable computed : Unit {0}
unfolding
    every least first_of up all_below sum_below listed highest table_of server_keeps task_keeps task_fault
    task_stands differ keeps table_keeps example interference meets response_at verdict_of verdicts_of least_row from_verdicts fits_of three
computed = tt

abbrev pub ticks : ℕ → Verdict
ticks r = Response (record { 0 = r })

abbrev pub said : Verdict → Verdict → Verdict → ByMode Verdict
said a b c = record { n = a; d1 = b; d2 = c }

-- The table of document 01's example: P1 to P5 among them. It fits.
pub example_written :
    take 4 (verdicts_of example) ≡
    said (ticks 2) (ticks 0) (ticks 0)
    ∷ said (ticks 9) (ticks 7) (ticks 7)
    ∷ said (ticks 19) (ticks 15) (ticks 11)
    ∷ no_verdicts NoServer
    ∷ []
unfolding computed
example_written = refl

pub example_fits : fits_of example ≡ Yes
unfolding computed
example_fits = refl

-- Row 1 misses in D1 and D2, row 2 in N, D1 and D2: the least mode is looked for before the least
-- row. In N row 2 needs 2 + 2 + 1 of its 4 ticks.
pub mode_before_row : fits_of (three Timed (by_mode 2 2 2) (by_mode 2 3 3) (by_mode 1 1 1)) ≡ Miss N 2
unfolding computed
mode_before_row = refl

-- Rows 1 and 2 miss in D1: the first is told.
pub first_of_a_mode : fits_of (three Timed (by_mode 1 2 2) (by_mode 1 3 3) (by_mode 1 1 1)) ≡ Miss D1 1
unfolding computed
first_of_a_mode = refl

-- A miss only in D2.
pub in_d2_alone : fits_of (three Timed (by_mode 1 1 2) (by_mode 1 1 1) (by_mode 1 1 2)) ≡ Miss D2 2
unfolding computed
in_d2_alone = refl

-- A row of capacity 0 never misses. The two above it ask for more than any R of its 4 ticks, so if
-- it were searched for, there would be no response.
pub without_capacity : fits_of (three Event (by_mode 2 2 2) (by_mode 2 2 2) (by_mode 0 0 0)) ≡ Yes
unfolding computed
without_capacity = refl

-- "A table .. refused by 13 is refused here too": no rows, and none is asked.
pub unsound_table : fits_of no_table ≡ NoFits Unsound
unfolding computed
unsound_table = refl
