-- The table of document 01's example as text, and the two-row tables of its marked figures.
use Rattle.std.specs.Prelude.{List, [], ◌∷◌, ℕ}
use Prim.Native.String.{String}
use Rattle.table.specs.declared.Kind.{Kind}
use Rattle.table.specs.declared.Kind.TheVariants.{Timed}
use Rattle.table.specs.declared.Level.TheVariants.{HI}
use Rattle.table.specs.declared.Table.{Table}
use Rattle.table.specs.Rows.{table_of}
use Rattle.table.specs.Example.{by_mode, server, task, rows}

abbrev pub example_text : List String
example_text =
    "tick\t1000"
    ∷ "server\t0\tevent\t30\t10000\t2000\t0\t0"
    ∷ "server\t0\ttimed\t20\t20000\t5000\t7000\t7000"
    ∷ "server\t1\ttimed\t10\t40000\t8000\t8000\t4000"
    ∷ "task\t0\t1\t50\tHI\t1000\t2000\t3000"
    ∷ "task\t1\t1\t40\tMI\t3000\t4000\t4000"
    ∷ "task\t2\t2\t10\tLO\t2000\t2000\t2000"
    ∷ []

-- "two timed servers", "event .. above timed ..": the higher is row 0, and all modes have one capacity
unfoldable pub two : Kind → ℕ → ℕ → ℕ → ℕ → Table
two kind period capacity period' capacity' =
    table_of
    (rows
    (server 0 kind 2 period (by_mode capacity capacity capacity)
    ∷ server 1 Timed 1 period' (by_mode capacity' capacity' capacity')
    ∷ [])
    (task 1 1 1 HI (by_mode 1 1 1) ∷ []))
