-- What a table that keeps the rules says of its counts, of each row in use and of each two rows.
-- Each is one test of the rules, at its place in the list. Assumes nothing.
use Rattle.std.proofs.Common.{Ok, Err}
use mathlib.Core.Path.{◌≡◌, refl, ap, ◌∙◌}
use mathlib.Core.Bool.{Bool, true, false, not, ◌&&◌, ◌||◌}
use mathlib.Core.List.{List}
use mathlib.Core.Logic.{inl, inr}
use Prim.Native.Nat.{ℕ, min, ◌≤◌, ◌<◌}
use native.Mathlib.Omega.{arith}
use lib.Dec.{leb, ltb, eqb}
use lib.ListN.{length, get_or, take, length-take}
use lib.Seq.{length-take-le, get_or-take}
use borrow.Author.Tests.{leb-true, ltb-true, lt-ltb, le-ltb, eqb-true}
use Rattle.laws.specs.Choice.{unless◌say◌else◌, every, within}
use Rattle.laws.specs.Rows.{all_below}
use Rattle.laws.proofs.Rows.{all_at}
use Rattle.std.specs.Cmp.{first_so, second_so}
use Rattle.laws.proofs.Choice.{clash, if_ind, every_at}
use Rattle.laws.proofs.Choice.{within_low, within_high, le_or_lt}
use Rattle.table.specs.declared.ByMode.{ByMode}
use Rattle.table.specs.declared.Refusal.{Refusal}
use Rattle.table.specs.declared.Refusal.TheVariants.{AbsentRow, OtherPartition, NotTimed, OtherServer, Falling}
use Rattle.table.specs.Refusals.{is_kept, breaks, Standing}
use Rattle.table.specs.declared.Mode.{Mode}
use Rattle.table.specs.declared.Mode.TheVariants.{N, D1, D2}
use Rattle.table.specs.declared.Server.{Server}
use Rattle.table.specs.declared.Task.{Task}
use Rattle.table.specs.declared.Table.{Table}
use Rattle.table.specs.Rows.{Rows, rows_of, no_server, no_task, server_at, task_at, in_mode, is_timed, priority_at, period_at, capacity_at, phase_at, task_priority_at, limit_at}
use Rattle.table.specs.Rules.{server_keeps, task_keeps, row_there, same_partition, degraded_timed, timed_at_home, task_fault, task_stands, differ, keeps, table_keeps}
use Rattle.table.specs.Inner.{Sized, place_in, rows_fault}
use Rattle.table.proofs.Inner.{all_in_use, column_apart}
use Rattle.units.specs.declared.Ticks.{Ticks}

pub record ServerRules (t : Table) (i : ℕ) : Type 0 where
  pub partition : (server_at t i).partition ≤ 15
  pub priority_low : 1 ≤ priority_at t i
  pub priority_high : priority_at t i ≤ 255
  pub period_low : 1 ≤ period_at t i
  pub period_high : period_at t i ≤ 1000000
  pub capacity : (m : Mode) → capacity_at t m i ≤ period_at t i
  pub phase : phase_at t i < period_at t i

pub record TaskRules (t : Table) (k : ℕ) : Type 0 where
  pub home : (task_at t k).home < t.nservers
  pub degraded : (task_at t k).degraded < t.nservers
  pub priority_low : 1 ≤ task_priority_at t k
  pub priority_high : task_priority_at t k ≤ 255
  pub timed : is_timed (server_at t (task_at t k).degraded).kind ≡ true
  pub partition : (server_at t (task_at t k).degraded).partition ≡ (server_at t (task_at t k).home).partition
  pub stays : is_timed (server_at t (task_at t k).home).kind ≡ true → (task_at t k).degraded ≡ (task_at t k).home
  pub limit_low : (m : Mode) → 1 ≤ limit_at t m k
  pub limit_high : (m : Mode) → limit_at t m k ≤ 100000
  pub rises : limit_at t N k ≤ limit_at t D1 k
  pub rises_on : limit_at t D1 k ≤ limit_at t D2 k

pub record TableRules (t : Table) : Type 0 where
  pub servers_low : 1 ≤ t.nservers
  pub servers_high : t.nservers ≤ 32
  pub tasks_low : 1 ≤ t.ntasks
  pub tasks_high : t.ntasks ≤ 64
  pub tick_low : 1 ≤ t.tick.0
  pub tick_high : t.tick.0 ≤ 10000
  pub server : (i : ℕ) → i < t.nservers → ServerRules t i
  pub task : (k : ℕ) → k < t.ntasks → TaskRules t k
  pub servers_differ : (i j : ℕ) → i < t.nservers → j < t.nservers → (i ≡ j → ⊥) → priority_at t i ≡ priority_at t j → ⊥
  pub tasks_differ : (i j : ℕ) → i < t.ntasks → j < t.ntasks → (i ≡ j → ⊥) → task_priority_at t i ≡ task_priority_at t j → ⊥

-- a server's row
pub server_rules : (t : Table) (i : ℕ) → every (server_keeps (server_at t i)) ≡ true → ServerRules t i
unfolding server_keeps
server_rules t i e =
    let s = server_at t i in
    let b = every_at (server_keeps s) e in
    record {
      partition = within_high 0 15 s.partition (b 0);
      priority_low = within_low 1 255 s.priority (b 1);
      priority_high = within_high 1 255 s.priority (b 1);
      period_low = within_low 1 1000000 s.period.0 (b 2);
      period_high = within_high 1 1000000 s.period.0 (b 2);
      capacity =
          λ m.
          each m
          (leb-true s.capacity.n.0 s.period.0 (b 3))
          (leb-true s.capacity.d1.0 s.period.0 (b 4))
          (leb-true s.capacity.d2.0 s.period.0 (b 5));
      phase = ltb-true s.phase.0 s.period.0 (b 6);
    }
  where
    each : (m : Mode) → capacity_at t N i ≤ period_at t i → capacity_at t D1 i ≤ period_at t i → capacity_at t D2 i ≤ period_at t i → capacity_at t m i ≤ period_at t i
    each N x y z = x
    each D1 x y z = y
    each D2 x y z = z

-- a limit of each mode
limits_low : (k : Task) → every (task_keeps k) ≡ true → (m : Mode) → 1 ≤ (in_mode k.limit m).0
unfolding task_keeps
limits_low k e N = within_low 1 100000 k.limit.n.0 (every_at (task_keeps k) e 1)
limits_low k e D1 = within_low 1 100000 k.limit.d1.0 (every_at (task_keeps k) e 2)
limits_low k e D2 = within_low 1 100000 k.limit.d2.0 (every_at (task_keeps k) e 3)

limits_high : (k : Task) → every (task_keeps k) ≡ true → (m : Mode) → (in_mode k.limit m).0 ≤ 100000
unfolding task_keeps
limits_high k e N = within_high 1 100000 k.limit.n.0 (every_at (task_keeps k) e 1)
limits_high k e D1 = within_high 1 100000 k.limit.d1.0 (every_at (task_keeps k) e 2)
limits_high k e D2 = within_high 1 100000 k.limit.d2.0 (every_at (task_keeps k) e 3)

task_priority_lem : (k : Task) → every (task_keeps k) ≡ true → within 1 255 k.priority ≡ true
unfolding task_keeps
task_priority_lem k e = every_at (task_keeps k) e 0

-- 41 to 45, the first that applies: what breaks nothing passes each test
unless_kept : (b : Bool) (why : Refusal) (field : ℕ) (r : Standing) → is_kept (unless b say breaks why field else r) ≡ true → (b ≡ true) × (is_kept r ≡ true)
unless_kept true why field r e = (refl, e)
unless_kept false why field r e = absurd (clash false e refl)

kept_is : (s : Standing) → is_kept s ≡ true → s ≡ Ok tt
kept_is (Ok tt) e = refl
kept_is (Err f) e = absurd (clash false e refl)

pub record Faultless (ss : List Server) (home degraded : ℕ) (limit : ByMode Ticks) : Type 0 where
  pub home_there : row_there ss home ≡ true
  pub degraded_there : row_there ss degraded ≡ true
  pub partition : same_partition ss home degraded ≡ true
  pub timed : degraded_timed ss degraded ≡ true
  pub stays : timed_at_home ss home degraded ≡ true
  pub rises : leb limit.n.0 limit.d1.0 ≡ true
  pub rises_on : leb limit.d1.0 limit.d2.0 ≡ true

module _ (ss : List Server) (home degraded : ℕ) (limit : ByMode Ticks) where
  pub faultless : is_kept (task_fault ss home degraded limit) ≡ true → Faultless ss home degraded limit
  unfolding task_fault
  faultless e =
      let h = unless_kept (row_there ss home) AbsentRow 1 _ e in
      let a = unless_kept (row_there ss degraded) AbsentRow 2 _ h.1 in
      let b = unless_kept (same_partition ss home degraded) OtherPartition 2 _ a.1 in
      let c = unless_kept (degraded_timed ss degraded) NotTimed 2 _ b.1 in
      let d = unless_kept (timed_at_home ss home degraded) OtherServer 2 _ c.1 in
      let f = unless_kept (leb limit.n.0 limit.d1.0) Falling 6 _ d.1 in
      let g = unless_kept (leb limit.d1.0 limit.d2.0) Falling 7 _ f.1 in
      record {
        home_there = h.0;
        degraded_there = a.0;
        partition = b.0;
        timed = c.0;
        stays = d.0;
        rises = f.0;
        rises_on = g.0;
      }

-- the rows that a task names are there
pub rows_there : (ss : List Server) (home degraded : ℕ) (limit : ByMode Ticks) → task_fault ss home degraded limit ≡ Ok tt →
    (home < length ss) × (degraded < length ss)
rows_there ss home degraded limit e =
    let f = faultless ss home degraded limit (ap is_kept e) in
    (ltb-true home (length ss) f.home_there, ltb-true degraded (length ss) f.degraded_there)

-- a task's row keeps the rules exactly if its own numbers do and it has no fault
pub stands : (ss : List Server) (k : Task) → every (task_keeps k) ≡ true → task_fault ss k.home k.degraded k.limit ≡ Ok tt →
    task_stands ss k ≡ true
unfolding task_stands
stands ss k e f = rw (e, f)

pub stands_keeps : (ss : List Server) (k : Task) → task_stands ss k ≡ true →
    (every (task_keeps k) ≡ true) × (task_fault ss k.home k.degraded k.limit ≡ Ok tt)
unfolding task_stands
stands_keeps ss k e =
    let x = every (task_keeps k) in
    let y = task_fault ss k.home k.degraded k.limit in
    (first_so x (is_kept y) e, kept_is y (second_so x (is_kept y) e))

-- a row below a count is the same row of the list and of its part in use
same_row : (ss : List Server) (n i : ℕ) → i < length (take n ss) → get_or (take n ss) i no_server ≡ get_or ss i no_server
same_row ss n i h = get_or-take n ss i no_server (omega (arith, length-take n ss))

-- the place of a row is in the array, and a row of the array is where it is
pub place_below : (row : ℕ) → place_in row < 32
place_below row = if_ind (λ x. x < 32) (ltb row 32) (λ e. ltb-true row 32 e) (λ e. omega arith)

place_is : (row : ℕ) → row < 32 → place_in row ≡ row
place_is row h = rw (lt-ltb row 32 h)

-- 41 to 45, by what is read for the two rows, m of the array being in use
module _ (ss : List Server) (n m home degraded : ℕ) (limit : ByMode Ticks) (whole : length ss ≡ 32)
    (e : m ≡ min n 32) where
  in_use : length (take n ss) ≡ m
  in_use = omega (arith, length-take n ss)

  pub rows_read :
      rows_fault m (get_or ss (place_in home) no_server) (get_or ss (place_in degraded) no_server) home
      degraded limit
      ≡ task_fault (take n ss) home degraded limit
  unfolding task_fault
  rows_read =
      elim (le_or_lt m home) [
        | inl h ↦ rw (in_use, le-ltb home m h)
        | inr h ↦ elim (le_or_lt m degraded) [
          | inl k ↦ rw (in_use, lt-ltb home m h, le-ltb degraded m k)
          | inr k ↦
              rw (
                in_use,
                lt-ltb home m h,
                lt-ltb degraded m k,
                place_is home (omega arith),
                place_is degraded (omega arith),
                same_row ss n home (omega (arith, in_use)),
                same_row ss n degraded (omega (arith, in_use)),
              )
        ]
      ]

-- a timed home
at_home : (timed : Bool) (d h : ℕ) → (not timed || eqb d h) ≡ true → timed ≡ true → d ≡ h
at_home true d h e q = eqb-true d h e
at_home false d h e q = absurd (clash false q refl)

-- a task's row
pub task_rules : (t : Table) (k : ℕ) → t.nservers ≤ length t.servers → task_stands (take t.nservers t.servers) (task_at t k) ≡ true → TaskRules t k
task_rules t k l e =
    let n = t.nservers in
    let ss = t.servers in
    let x = task_at t k in
    let y = stands_keeps (take n ss) x e in
    let f = faultless (take n ss) x.home x.degraded x.limit (ap is_kept y.1) in
    let r = rows_there (take n ss) x.home x.degraded x.limit y.1 in
    let u = same_row ss n x.home r.0 in
    let v = same_row ss n x.degraded r.1 in
    let p = task_priority_lem x y.0 in
    let z = x.limit in
    record {
      home = omega (arith, r.0, length-take-le n ss l);
      degraded = omega (arith, r.1, length-take-le n ss l);
      priority_low = within_low 1 255 x.priority p;
      priority_high = within_high 1 255 x.priority p;
      timed = rw v at f.timed;
      partition = eqb-true _ _ (rw (u, v) at f.partition);
      stays = at_home (is_timed (get_or ss x.home no_server).kind) x.degraded x.home
          (rw u at f.stays);
      limit_low = limits_low x y.0;
      limit_high = limits_high x y.0;
      rises = leb-true z.n.0 z.d1.0 f.rises;
      rises_on = leb-true z.d1.0 z.d2.0 f.rises_on;
    }

-- the tests of a whole table, by place
servers_held : (t : Table) → table_keeps t ≡ true → within 1 32 t.nservers ≡ true
unfolding table_keeps
servers_held t e = first_so (within 1 32 t.nservers) (within 1 64 t.ntasks && keeps (rows_of t)) e

pub few_servers : (t : Table) → table_keeps t ≡ true → t.nservers ≤ 32
few_servers t e = within_high 1 32 t.nservers (servers_held t e)

tasks_held : (t : Table) → table_keeps t ≡ true → within 1 64 t.ntasks ≡ true
unfolding table_keeps
tasks_held t e =
    first_so (within 1 64 t.ntasks) (keeps (rows_of t)) (second_so (within 1 32 t.nservers) (within 1 64 t.ntasks && keeps (rows_of t)) e)

pub rows_keep : (t : Table) → table_keeps t ≡ true → keeps (rows_of t) ≡ true
unfolding table_keeps
rows_keep t e =
    second_so (within 1 64 t.ntasks) (keeps (rows_of t)) (second_so (within 1 32 t.nservers) (within 1 64 t.ntasks && keeps (rows_of t)) e)

record Tests (a : Rows) : Type 0 where
  pub tick : within 1 10000 a.tick.0 ≡ true
  pub servers : all_below (length a.servers) (λ i. every (server_keeps (get_or a.servers i no_server))) ≡ true
  pub tasks : all_below (length a.tasks) (λ k. task_stands a.servers (get_or a.tasks k no_task)) ≡ true
  pub apart : differ (length a.servers) (λ i. (get_or a.servers i no_server).priority) ≡ true
  pub distinct : differ (length a.tasks) (λ k. (get_or a.tasks k no_task).priority) ≡ true

tests : (a : Rows) → keeps a ≡ true → Tests a
unfolding keeps
tests a e =
    let b = every_at _ e in
    record { tick = b 0; servers = b 3; tasks = b 4; apart = b 5; distinct = b 6 }

-- the rules of a table
pub table_rules : (t : Table) → Sized t → table_keeps t ≡ true → TableRules t
table_rules t z e =
    let n = servers_held t e in
    let m = tasks_held t e in
    let a = tests (rows_of t) (rows_keep t e) in
    let l : t.nservers ≤ length t.servers = omega (arith, z.servers, few_servers t e) in
    let o : t.ntasks ≤ length t.tasks = omega (arith, z.tasks, within_high 1 64 t.ntasks m) in
    let keeps-row = task_stands (take t.nservers t.servers) in
    let p = all_in_use (λ s. every (server_keeps s)) no_server t.servers t.nservers l ∙
    a.servers in
    let q = all_in_use keeps-row no_task t.tasks t.ntasks o ∙ a.tasks in
    record {
      servers_low = within_low 1 32 t.nservers n;
      servers_high = few_servers t e;
      tasks_low = within_low 1 64 t.ntasks m;
      tasks_high = within_high 1 64 t.ntasks m;
      tick_low = within_low 1 10000 t.tick.0 a.tick;
      tick_high = within_high 1 10000 t.tick.0 a.tick;
      server = λ i h. server_rules t i (all_at (λ k. every (server_keeps (server_at t k)))
          t.nservers i p h);
      task = λ k h. task_rules t k l (all_at (λ i. keeps-row (task_at t i)) t.ntasks k q h);
      servers_differ = column_apart (λ s. s.priority) no_server t.servers t.nservers l a.apart;
      tasks_differ = column_apart (λ k. k.priority) no_task t.tasks t.ntasks o a.distinct;
    }
