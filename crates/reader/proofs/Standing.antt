-- How a line stands, by the counts of the rows above it and the two rows that it names, and what
-- the bounds mean for its row. Assumes nothing.
use mathlib.Core.Path.{◌≡◌}
use mathlib.Core.Bool.{true}
use Prim.Native.Nat.{ℕ, ◌*◌, ◌≤◌}
use native.Mathlib.Omega.{arith}
use Rattle.laws.specs.Choice.{every}
use Rattle.laws.specs.Search.{least, first_failed}
use Rattle.laws.specs.RoundUp.{up}
use Rattle.laws.proofs.Choice.{within_high, every_at}
use Rattle.table.specs.declared.Table.{Table}
use Rattle.table.specs.Rows.{rows_of, server_at}
use Rattle.table.specs.Rules.{task_keeps}
use Rattle.table.proofs.Rules.{rows_read}
use Rattle.text.specs.declared.ServerLine.{ServerLine}
use Rattle.text.specs.declared.TaskLine.{TaskLine}
use Rattle.text.specs.declared.Word.TheVariants.{ATick, AServer, ATask}
use Rattle.text.specs.declared.Line.{Line}
use Rattle.text.specs.declared.Line.TheVariants.{OfTick, OfServer, OfTask, Malformed as MalformedLine}
use Rattle.text.specs.Standing.{phase_said, server_bounds, bounds, wholes, limits_of, task_of, fault, standing}
use Rattle.reader.specs.declared.rules.Named.{Named}
use Rattle.reader.specs.Inner.{Above, FewTicks, named_rows, standing_by}
use Rattle.reader.proofs.Inner.{servers_count, tasks_count, servers_length, placed_by_lem}
use Rattle.text.proofs.Bounds.{server_within}

-- what is asked of the rows above is how many there are, and for a task the two that it names
pub standing_by_lem : (n : ℕ) (t : Table) → Above n t → (l : Line) (r : Named) → r ≡ named_rows l →
    standing_by n t.tick.0 t.nservers t.ntasks (server_at t r.home) (server_at t r.degraded) l
    ≡ standing n (rows_of t) l
unfolding standing bounds wholes fault first_failed least
standing_by_lem n t a (OfTick u) r e = rw (placed_by_lem t a.whole n ATick)
standing_by_lem n t a (OfServer s) r e =
    rw (placed_by_lem t a.whole n AServer, servers_count t a.whole)
standing_by_lem n t a (OfTask k) r e =
    rw (
      e,
      placed_by_lem t a.whole n ATask,
      tasks_count t a.whole,
      rows_read
          t.servers
          t.nservers
          t.nservers
          k.home
          k.degraded
          (limits_of t.tick.0 k.limit)
          (servers_length t a.whole a.servers a.tasks)
          (omega (arith, a.servers)),
    )
standing_by_lem n t a (MalformedLine word field) r e = rw (placed_by_lem t a.whole n word)

-- what the bounds say of the numbers of a row, in ticks
pub record ServerFits (t : ℕ) (s : ServerLine) : Type 0 where
  pub partition : s.partition ≤ 15
  pub priority : s.priority ≤ 255
  pub period : s.period.0 ≤ 1000000 * t
  pub n : s.capacity.n.0 ≤ 1000000 * t
  pub d1 : s.capacity.d1.0 ≤ 1000000 * t
  pub d2 : s.capacity.d2.0 ≤ 1000000 * t
  pub phase : (phase_said s.phase).0 ≤ 1000000 * t

pub server_fits : (m t : ℕ) (s : ServerLine) → every (server_bounds m t s) ≡ true → ServerFits t s
server_fits m t s e =
    let w = server_within m t s e in
    record {
      partition = w.partition;
      priority = w.priority_high;
      period = w.period_high;
      n = omega (arith, w.period_high, w.n);
      d1 = omega (arith, w.period_high, w.d1);
      d2 = omega (arith, w.period_high, w.d2);
      phase = omega (arith, w.period_high, w.phase);
    }

pub record TaskFits (t : ℕ) (k : TaskLine) : Type 0 where
  pub priority : k.priority ≤ 255
  pub limits : FewTicks t k.limit

pub task_fits : (t : ℕ) (k : TaskLine) → every (task_keeps (task_of t k)) ≡ true → TaskFits t k
unfolding task_keeps
task_fits t k e =
    let b = every_at (task_keeps (task_of t k)) e in
    record {
      priority = within_high 1 255 k.priority (b 0);
      limits = (
        within_high 1 100000 (up k.limit.n.0 t) (b 1),
        within_high 1 100000 (up k.limit.d1.0 t) (b 2),
        within_high 1 100000 (up k.limit.d2.0 t) (b 3),
      );
    }
