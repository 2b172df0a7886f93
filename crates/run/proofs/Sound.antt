-- What it says that a run is sound, clause by clause, as plain facts of its rows and counts; and
-- back: from the facts, that it is sound. So 13 is answered exactly where one of these facts is
-- broken. Assumes nothing.
use Rattle.std.proofs.Common.{Option}
use mathlib.Core.Path.{◌≡◌, refl}
use mathlib.Core.Bool.{Bool, true, false, not, ◌&&◌, ◌||◌}
use mathlib.Core.List.{[], ◌∷◌}
use mathlib.Core.Logic.{◌⊎◌, inl, inr, ◌↔◌}
use Prim.Native.Nat.{ℕ, ◌≤◌, ◌<◌}
use native.Mathlib.Omega.{arith}
use lib.Dec.{eqb}
use borrow.Author.Tests.{ltb-false, leb-true, eqb-true, le-ltb, le-leb, eq-eqb, not-true}
use Rattle.laws.specs.Choice.{every}
use Rattle.laws.specs.Rows.{all_below}
use Rattle.std.proofs.lemmas.Bool.{cases_Bool, and_from}
use Rattle.std.specs.Cmp.{first_so, second_so}
use Rattle.laws.proofs.Choice.{clash}
use Rattle.laws.proofs.Choice.{every_at}
use Rattle.laws.proofs.Rows.{all_at, all_build}
use Rattle.table.specs.declared.Table.{Table}
use Rattle.table.specs.Rows.{server_at, task_at, period_at, limit_at, is_low, largest, is_d2}
use Rattle.table.specs.Rules.{table_keeps}
use Rattle.run.specs.declared.State.{State}
use Rattle.run.specs.declared.Run.{Run}
use Rattle.queues.proofs.Sound.{QueueSound, LastSound as LastSoundIn, JobSound as JobSoundIn, CountsSound as CountsSoundIn}
use Rattle.queues.proofs.Sound.{queue_facts, queue_tests, last_facts, last_tests, counts_facts, counts_tests}
use Rattle.run.specs.State.{queues_of, used_at, elapsed_at, started, waiting_at, runs_at, task_waits}
use Rattle.queues.specs.Queues.{is_last}
use Rattle.run.specs.Sound.{sound_server, sound_task, sound_last, sound_counts, sound_state, sound}

-- a server's row
pub record ServerSound (t : Table) (s : State) (i : ℕ) : Type 0 where
  pub elapsed : elapsed_at s i ≤ period_at t i
  pub used : used_at s i ≤ elapsed_at s i
  pub room : used_at s i ≤ (largest (server_at t i).capacity).0
  pub before : started t s i ≡ false → (used_at s i ≡ 0) × (elapsed_at s i ≡ 0)

-- a task's row: its queue, and that no LO job waits in D2
pub record TaskSound (t : Table) (s : State) (k : ℕ) : Type 0 where
  pub queue : waiting_at s k ≤ 16
  pub none : waiting_at s k ≡ 0 → runs_at s k ≡ 0
  pub front : 0 < waiting_at s k →
      (runs_at s k < limit_at t s.mode k) ⊎ ((is_last s.last k ≡ true) × (runs_at s k ≡ limit_at t s.mode k))
  pub low : is_d2 s.mode ≡ true → is_low (task_at t k).level ≡ true → waiting_at s k ≡ 0

-- the last-run task, and the counts: as in every box
abbrev pub LastSound : Table → State → Option ℕ → Type 0
LastSound t s l = LastSoundIn t.ntasks (queues_of s) s.ticks.0 l

abbrev pub JobSound : Table → State → ℕ → Type 0
JobSound t s k = JobSoundIn t.ntasks (queues_of s) s.ticks.0 k

abbrev pub CountsSound : Table → State → Type 0
CountsSound t s = CountsSoundIn t.ntasks (queues_of s) s.ticks.0 s.accepted

pub record StateSound (t : Table) (s : State) : Type 0 where
  pub servers : (i : ℕ) → i < t.nservers → ServerSound t s i
  pub tasks : (k : ℕ) → k < t.ntasks → TaskSound t s k
  pub last : LastSound t s s.last
  pub counts : CountsSound t s

-- From the tests to the facts.
before_facts : (b : Bool) (u e : ℕ) → (b || eqb u 0 && eqb e 0) ≡ true → b ≡ false → (u ≡ 0) × (e ≡ 0)
before_facts true u e h q = absurd (clash true refl q)
before_facts false u e h q = (
  eqb-true u 0 (first_so (eqb u 0) (eqb e 0) h),
  eqb-true e 0 (second_so (eqb u 0) (eqb e 0) h),
)

server_facts : (t : Table) (s : State) (i : ℕ) → every (sound_server t s i) ≡ true → ServerSound t s i
unfolding sound_server
server_facts t s i e =
    let at = every_at (sound_server t s i) e in
    record {
      elapsed = leb-true (elapsed_at s i) (period_at t i) (at 0);
      used = leb-true (used_at s i) (elapsed_at s i) (at 1);
      room = leb-true (used_at s i) (largest (server_at t i).capacity).0 (at 2);
      before = before_facts (started t s i) (used_at s i) (elapsed_at s i) (at 3);
    }

low_none : (d l w : Bool) → not (d && (l && w)) ≡ true → d ≡ true → l ≡ true → w ≡ false
low_none d l w e p q = not-true w (rw (p, q) at e)

task_facts : (t : Table) (s : State) (k : ℕ) → every (sound_task t s k) ≡ true → TaskSound t s k
unfolding sound_task
task_facts t s k e =
    let at = every_at (sound_task t s k) e in
    let q = queue_facts (limit_at t s.mode k) (waiting_at s k) (runs_at s k) (is_last s.last k) (at 0) in
    record {
      queue = q.queue;
      none = q.none;
      front = q.front;
      low =
          λ d l.
          let z = low_none (is_d2 s.mode) (is_low (task_at t k).level) (task_waits s k) (at 1) d l in
          omega (arith, ltb-false 0 (waiting_at s k) z);
    }

-- the state's tests, row by row and in all
abbrev servers : Table → State → Bool
servers t s = all_below t.nservers (λ i. every (sound_server t s i))

abbrev tasks : Table → State → Bool
tasks t s = all_below t.ntasks (λ k. every (sound_task t s k))

pub state_facts : (t : Table) (s : State) → sound_state t s ≡ true → StateSound t s
unfolding sound_state sound_last sound_counts
state_facts t s e =
    let at = every_at (servers t s ∷ tasks t s ∷ sound_last t s s.last ∷ every (sound_counts t s) ∷ []) e in
    record {
      servers = λ i h. server_facts t s i (all_at (λ i. every (sound_server t s i)) t.nservers i (at 0) h);
      tasks = λ k h. task_facts t s k (all_at (λ k. every (sound_task t s k)) t.ntasks k (at 1) h);
      last = last_facts t.ntasks (queues_of s) s.ticks.0 s.last (at 2);
      counts = counts_facts t.ntasks (queues_of s) s.ticks.0 s.accepted (at 3);
    }

-- From the facts to the tests.
before_tests : (b : Bool) (u e : ℕ) → (b ≡ false → (u ≡ 0) × (e ≡ 0)) → (b || eqb u 0 && eqb e 0) ≡ true
before_tests true u e f = refl
before_tests false u e f =
    let z = f refl in
    and_from (eqb u 0) (eqb e 0) (eq-eqb u 0 z.0) (eq-eqb e 0 z.1)

server_tests_lem : (t : Table) (s : State) (i : ℕ) → ServerSound t s i → every (sound_server t s i) ≡ true
unfolding sound_server every
server_tests_lem t s i f =
    rw (
      le-leb (elapsed_at s i) (period_at t i) f.elapsed,
      le-leb (used_at s i) (elapsed_at s i) f.used,
      le-leb (used_at s i) (largest (server_at t i).capacity).0 f.room,
      before_tests (started t s i) (used_at s i) (elapsed_at s i) f.before,
    )

low_test : (d l w : Bool) → (d ≡ true → l ≡ true → w ≡ false) → not (d && (l && w)) ≡ true
low_test true true w f = rw (f refl refl)
low_test true false w f = refl
low_test false l w f = refl

pub task_queue : (t : Table) (s : State) (k : ℕ) → TaskSound t s k →
    QueueSound (limit_at t s.mode k) (waiting_at s k) (runs_at s k) (is_last s.last k)
task_queue t s k f = record { queue = f.queue; none = f.none; front = f.front }

task_tests_lem : (t : Table) (s : State) (k : ℕ) → TaskSound t s k → every (sound_task t s k) ≡ true
unfolding sound_task every
task_tests_lem t s k f =
    rw (
      queue_tests (limit_at t s.mode k) (waiting_at s k) (runs_at s k) (is_last s.last k) (task_queue t s k f),
      low_test (is_d2 s.mode) (is_low (task_at t k).level) (task_waits s k)
          (λ d l. le-ltb 0 (waiting_at s k) (omega (arith, f.low d l))),
    )

pub state_tests : (t : Table) (s : State) → StateSound t s → sound_state t s ≡ true
unfolding sound_state sound_last sound_counts every
state_tests t s f =
    rw (
      all_build (λ i. every (sound_server t s i)) t.nservers (λ i h. server_tests_lem t s i (f.servers i h)),
      all_build (λ k. every (sound_task t s k)) t.ntasks (λ k h. task_tests_lem t s k (f.tasks k h)),
      last_tests t.ntasks (queues_of s) s.ticks.0 s.last f.last,
      counts_tests t.ntasks (queues_of s) s.ticks.0 s.accepted f.counts,
    )

-- A run is sound exactly if its table keeps the rules and its state the clauses.
pub sound_table : (r : Run) → sound r ≡ true → table_keeps r.table ≡ true
unfolding sound
sound_table r e = first_so (table_keeps r.table) (sound_state r.table r.state) e

pub sound_state_lem : (r : Run) → sound r ≡ true → StateSound r.table r.state
unfolding sound
sound_state_lem r e =
    state_facts r.table r.state (second_so (table_keeps r.table) (sound_state r.table r.state) e)

pub sound_build : (r : Run) → table_keeps r.table ≡ true → StateSound r.table r.state → sound r ≡ true
unfolding sound
sound_build r e f =
    and_from (table_keeps r.table) (sound_state r.table r.state) e (state_tests r.table r.state f)

pub sound_exactly : (r : Run) → (sound r ≡ true) ↔ ((table_keeps r.table ≡ true) × StateSound r.table r.state)
sound_exactly r = (λ e. (sound_table r e, sound_state_lem r e), λ p. sound_build r p.0 p.1)

-- and unsound, which 13 tells, exactly if one of them is broken
pub unsound_exactly : (r : Run) →
    (sound r ≡ false) ↔ ((table_keeps r.table ≡ true) × StateSound r.table r.state → ⊥)
unsound_exactly r = (
  λ e p. clash (sound r) (sound_build r p.0 p.1) e,
  λ n. elim (cases_Bool (sound r)) [ inl e ↦ absurd (n ((sound_exactly r).0 e)) | inr e ↦ e ],
)
