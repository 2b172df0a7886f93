-- Only contracts of inner functions cite this file; a buyer need not read it. It says what a step makes
-- of a frame box's run in parts: its table, its head and its queues. `Rattle.framerun.specs` says the
-- steps.
use Rattle.std.specs.Prelude.{◌≡◌, Bool, true, ◌&&◌, List, ℕ, ◌+◌, ◌≤◌, ◌<◌, ltb, eqb, length, get_or, set, None, Option, Some}
use Rattle.laws.specs.Choice.{every}
use Rattle.laws.specs.Rows.{all_below, highest}
use Rattle.units.specs.declared.Ticks.{Ticks}
use Rattle.events.specs.declared.Left.{Left}
use Rattle.events.specs.declared.Turn.{Turn}
use Rattle.events.specs.declared.Turn.TheVariants.{Run as Ran, Empty, Idle}
use Rattle.frametable.specs.declared.FrameTable.{FrameTable}
use Rattle.frametable.specs.Rows.{partition_at, frame_priority_at}
use Rattle.framerun.specs.declared.FrameState.{FrameState}
use Rattle.framerun.specs.declared.FrameRun.{FrameRun}
use Rattle.framerun.specs.Sound.{sound_task, frame_sound}
use Rattle.framerun.specs.Tick.{settle}

-- the first n tasks' queues are sound
abbrev pub tasks_sound : FrameTable → FrameState → ℕ → Bool
tasks_sound t s n = all_below n (λ k. every (sound_task t s k))

-- a run in parts: what stands beside its table and its queues
pub record Head : Type 0 where
  pub last : Option ℕ
  pub ticks : Ticks
  pub accepted : ℕ

abbrev pub state_of : Head → List ℕ → List ℕ → FrameState
state_of h waiting runs =
    record { waiting = waiting; runs = runs; last = h.last; ticks = h.ticks; accepted = h.accepted }

abbrev pub head_of : FrameState → Head
head_of s = record { last = s.last; ticks = s.ticks; accepted = s.accepted }

abbrev pub run_of : FrameTable → Head → List ℕ → List ℕ → FrameRun
run_of t h waiting runs = record { table = t; state = state_of h waiting runs }

-- the last-run task has a row in the arrays
abbrev pub LastLow : Option ℕ → Type 0
LastLow None = Unit {0}
LastLow (Some k) = k < 64

-- the mark, on the queues w and c
abbrev pub Settles : FrameTable → Head → Bool → List ℕ → List ℕ → List ℕ → List ℕ → Left → Type 0
Settles t h mark w c w' c' r =
    settle t (state_of h w c) mark h.last ≡ record { state = state_of h w' c'; left = r }

-- rows in use have their places, and priorities at least 1
pub record Numbered (t : FrameTable) : Type 0 where
  pub few : t.ntasks ≤ 64
  pub least : (k : ℕ) → k < t.ntasks → 1 ≤ frame_priority_at t k

-- the highest task of partition p with a job waiting in w
abbrev pub highest_in : FrameTable → List ℕ → ℕ → Option ℕ
highest_in t w p = highest t.ntasks (λ k. ltb 0 (get_or w k 0) && eqb (partition_at t k) p) (frame_priority_at t)

-- the job that runs has a row, and its count may rise by 1
abbrev pub TurnLow : Turn → List ℕ → Type 0
TurnLow (Ran p k) c = (k < 64) × (get_or c k 0 ≤ 1000000)
TurnLow (Empty p) c = Unit {0}
TurnLow Idle c = Unit {0}

abbrev pub RunsOn : Turn → List ℕ → List ℕ → Type 0
RunsOn (Ran p k) c c' = c' ≡ set c k (get_or c k 0 + 1)
RunsOn (Empty p) c c' = c' ≡ c
RunsOn Idle c c' = c' ≡ c

-- a sound run, whose rows stand in arrays
pub record SoundRun (r : FrameRun) : Type 0 where
  pub sized : length r.table.tasks ≡ 64
  pub sound : frame_sound r ≡ true
  pub waiting : length r.state.waiting ≡ 64
  pub runs : length r.state.runs ≡ 64
