-- Soundness by rows, as the code asks it: only contracts of inner functions cite this.
-- `Rattle.run.specs.Sound` says it.
use Rattle.std.specs.Prelude.{Bool, not, ◌&&◌, ◌||◌, List, [], ◌∷◌, ℕ, leb, ltb, eqb}
use Rattle.laws.specs.Choice.{every}
use Rattle.laws.specs.Rows.{all_below}
use Rattle.table.specs.declared.Mode.{Mode}
use Rattle.table.specs.declared.Server.{Server}
use Rattle.table.specs.declared.Table.{Table}
use Rattle.table.specs.declared.Task.{Task}
use Rattle.table.specs.Rows.{in_mode, largest, is_low, is_d2}
use Rattle.queues.specs.Sound.{queue_sound}
use Rattle.run.specs.declared.State.{State}
use Rattle.run.specs.Sound.{sound_server, sound_task}

-- of a server's row, the ticks taken, its used count and its elapsed count
abbrev pub server_tests : Server → ℕ → ℕ → ℕ → List Bool
server_tests s ticks used elapsed =
    leb elapsed s.period.0
    ∷ leb used elapsed
    ∷ leb used (largest s.capacity).0
    ∷ (leb s.phase.0 ticks || eqb used 0 && eqb elapsed 0)
    ∷ []

-- of a task's row, its waiting jobs, the front one's run count, and whether it is the last-run task
abbrev pub task_tests : Task → Mode → ℕ → ℕ → Bool → List Bool
task_tests k m waiting runs last =
    every (queue_sound (in_mode k.limit m).0 waiting runs last)
    ∷ not (is_d2 m && (is_low k.level && ltb 0 waiting))
    ∷ []

-- of the first n rows
abbrev pub servers_sound : Table → State → ℕ → Bool
servers_sound t s n = all_below n (λ i. every (sound_server t s i))

abbrev pub tasks_sound : Table → State → ℕ → Bool
tasks_sound t s n = all_below n (λ k. every (sound_task t s k))
