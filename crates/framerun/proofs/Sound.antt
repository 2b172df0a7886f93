-- What it says that a frame box's run is sound, clause by clause, as plain facts; and back: from the
-- facts, that it is sound. So 13 is answered exactly where one of these facts is broken. The clauses
-- are those of crate queues. Assumes nothing.
use mathlib.Core.Path.{◌≡◌}
use mathlib.Core.Bool.{true, false}
use mathlib.Core.List.{[], ◌∷◌}
use mathlib.Core.Logic.{inl, inr, ◌↔◌}
use Prim.Native.Nat.{ℕ, ◌<◌}
use Rattle.laws.specs.Choice.{every}
use Rattle.laws.specs.Rows.{all_below}
use Rattle.std.proofs.lemmas.Bool.{cases_Bool, and_from}
use Rattle.std.specs.Cmp.{first_so, second_so}
use Rattle.laws.proofs.Choice.{clash, every_at}
use Rattle.laws.proofs.Rows.{all_at, all_build}
use Rattle.queues.specs.Queues.{is_last}
use Rattle.queues.specs.Sound.{last_sound, counts_sound}
use Rattle.queues.proofs.Sound.{QueueSound, LastSound, CountsSound, queue_facts, queue_tests, last_facts, last_tests}
use Rattle.queues.proofs.Sound.{counts_facts, counts_tests}
use Rattle.frametable.specs.declared.FrameTable.{FrameTable}
use Rattle.frametable.specs.Rows.{frame_limit_at}
use Rattle.frametable.specs.Rules.{frame_table_keeps}
use Rattle.framerun.specs.declared.FrameState.{FrameState}
use Rattle.framerun.specs.declared.FrameRun.{FrameRun}
use Rattle.framerun.specs.State.{queues_of, waiting_at, runs_at}
use Rattle.framerun.specs.Sound.{sound_task, sound_state, frame_sound}

abbrev pub TaskSound : FrameTable → FrameState → ℕ → Type 0
TaskSound t s k = QueueSound (frame_limit_at t k) (waiting_at s k) (runs_at s k) (is_last s.last k)

pub record StateSound (t : FrameTable) (s : FrameState) : Type 0 where
  pub tasks : (k : ℕ) → k < t.ntasks → TaskSound t s k
  pub last : LastSound t.ntasks (queues_of s) s.ticks.0 s.last
  pub counts : CountsSound t.ntasks (queues_of s) s.ticks.0 s.accepted

pub state_facts : (t : FrameTable) (s : FrameState) → sound_state t s ≡ true → StateSound t s
unfolding sound_state sound_task
state_facts t s e =
    let n = t.ntasks in
    let q = queues_of s in
    let at =
    every_at
    (all_below n (λ k. every (sound_task t s k))
    ∷ last_sound n q s.ticks.0 s.last
    ∷ every (counts_sound n (waiting_at s) s.ticks.0 s.accepted)
    ∷ [])
    e in
    record {
      tasks =
          λ k l.
          queue_facts (frame_limit_at t k) (waiting_at s k) (runs_at s k) (is_last s.last k)
          (all_at (λ k. every (sound_task t s k)) n k (at 0) l);
      last = last_facts n q s.ticks.0 s.last (at 1);
      counts = counts_facts n q s.ticks.0 s.accepted (at 2);
    }

pub state_tests : (t : FrameTable) (s : FrameState) → StateSound t s → sound_state t s ≡ true
unfolding sound_state sound_task every
state_tests t s f =
    let n = t.ntasks in
    let q = queues_of s in
    rw (
      all_build (λ k. every (sound_task t s k)) n
          (λ k l. queue_tests (frame_limit_at t k) (waiting_at s k) (runs_at s k) (is_last s.last k) (f.tasks k l)),
      last_tests n q s.ticks.0 s.last f.last,
      counts_tests n q s.ticks.0 s.accepted f.counts,
    )

-- A run is sound exactly if its table keeps the rules and its state the clauses.
pub sound_table : (r : FrameRun) → frame_sound r ≡ true → frame_table_keeps r.table ≡ true
unfolding frame_sound
sound_table r e = first_so (frame_table_keeps r.table) (sound_state r.table r.state) e

pub sound_state_lem : (r : FrameRun) → frame_sound r ≡ true → StateSound r.table r.state
unfolding frame_sound
sound_state_lem r e =
    state_facts r.table r.state (second_so (frame_table_keeps r.table) (sound_state r.table r.state) e)

pub sound_build : (r : FrameRun) → frame_table_keeps r.table ≡ true → StateSound r.table r.state →
    frame_sound r ≡ true
unfolding frame_sound
sound_build r e f =
    and_from (frame_table_keeps r.table) (sound_state r.table r.state) e (state_tests r.table r.state f)

pub sound_exactly : (r : FrameRun) →
    (frame_sound r ≡ true) ↔ ((frame_table_keeps r.table ≡ true) × StateSound r.table r.state)
sound_exactly r = (λ e. (sound_table r e, sound_state_lem r e), λ p. sound_build r p.0 p.1)

-- and unsound, which 13 tells, exactly if one of them is broken
pub unsound_exactly : (r : FrameRun) →
    (frame_sound r ≡ false) ↔ ((frame_table_keeps r.table ≡ true) × StateSound r.table r.state → ⊥)
unsound_exactly r = (
  λ e p. clash (frame_sound r) (sound_build r p.0 p.1) e,
  λ n. elim (cases_Bool (frame_sound r)) [ inl e ↦ absurd (n ((sound_exactly r).0 e)) | inr e ↦ e ],
)
