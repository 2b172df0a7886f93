-- Soundness by rows, as the code asks it, is soundness. Assumes nothing.
use Rattle.std.specs.Cmp.{first_so, second_so}
use mathlib.Core.Path.{◌≡◌, ap, sym}
use mathlib.Core.Bool.{true, false, ◌&&◌}
use mathlib.Core.List.{[], ◌∷◌}
use Prim.Native.Nat.{ℕ, ◌≤◌, ◌<◌}
use native.Mathlib.Omega.{arith}
use lib.ListN.{length, get_or, take, length-take}
use lib.Seq.{get_or-take}
use Rattle.laws.specs.Choice.{every, within}
use Rattle.laws.proofs.Choice.{within_high}
use Rattle.table.specs.declared.Server.{Server}
use Rattle.table.specs.declared.Table.{Table}
use Rattle.table.specs.declared.Task.{Task}
use Rattle.table.specs.Rows.{no_server, no_task, rows_of}
use Rattle.table.specs.Rules.{keeps, table_keeps}
use Rattle.queues.specs.Sound.{last_sound, counts_sound}
use Rattle.run.specs.declared.State.{State}
use Rattle.run.specs.State.{queues_of, used_at, elapsed_at, waiting_at, runs_at}
use Rattle.queues.specs.Queues.{is_last}
use Rattle.run.specs.Sound.{sound_server, sound_task, sound_last, sound_counts, sound_state, sound}
use Rattle.soundness.specs.Inner.{server_tests, task_tests, servers_sound, tasks_sound}

module _ (t : Table) (s : State) where
  -- a row in use, as a loop over the rows reads it
  pub server_asked : (i : ℕ) → i < length (take t.nservers t.servers) →
      every (sound_server t s i)
      ≡ every
      (server_tests (get_or (take t.nservers t.servers) i no_server) s.ticks.0 (used_at s i) (elapsed_at s i))
  unfolding sound_server
  server_asked i h =
      let e = get_or-take t.nservers t.servers i no_server (omega (arith, length-take t.nservers t.servers)) in
      ap (λ (x : Server). every (server_tests x s.ticks.0 (used_at s i) (elapsed_at s i))) (sym e)

  pub task_asked : (k : ℕ) → k < length (take t.ntasks t.tasks) →
      every (sound_task t s k)
      ≡ every
      (task_tests (get_or (take t.ntasks t.tasks) k no_task) s.mode (waiting_at s k) (runs_at s k) (is_last s.last k))
  unfolding sound_task
  task_asked k h =
      let e = get_or-take t.ntasks t.tasks k no_task (omega (arith, length-take t.ntasks t.tasks)) in
      ap (λ (x : Task). every (task_tests x s.mode (waiting_at s k) (runs_at s k) (is_last s.last k))) (sym e)

  pub table_breaks : table_keeps t ≡ false → false ≡ sound (record { table = t; state = s })
  unfolding sound
  table_breaks e = rw e

  pub state_asked : table_keeps t ≡ true →
      every
      (servers_sound t s t.nservers
      ∷ tasks_sound t s t.ntasks
      ∷ last_sound t.ntasks (queues_of s) s.ticks.0 s.last
      ∷ every (counts_sound t.ntasks (waiting_at s) s.ticks.0 s.accepted)
      ∷ [])
      ≡ sound (record { table = t; state = s })
  unfolding sound sound_state sound_last sound_counts
  state_asked e = rw e

-- a table that keeps the rules has no more rows than its arrays hold
pub servers_fit : (t : Table) → table_keeps t ≡ true → t.nservers ≤ 32
unfolding table_keeps
servers_fit t e =
    within_high 1 32 t.nservers
    (first_so (within 1 32 t.nservers) (within 1 64 t.ntasks && keeps (rows_of t)) e)

pub tasks_fit : (t : Table) → table_keeps t ≡ true → t.ntasks ≤ 64
unfolding table_keeps
tasks_fit t e =
    within_high 1 64 t.ntasks
    (first_so (within 1 64 t.ntasks) (keeps (rows_of t))
    (second_so (within 1 32 t.nservers) (within 1 64 t.ntasks && keeps (rows_of t)) e))
