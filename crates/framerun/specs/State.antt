-- A frame box's state: its queues, a state with some of its parts changed, and a fresh one.
use Rattle.std.specs.Prelude.{ℕ, None, Option}
use Rattle.units.specs.declared.Ticks.{Ticks}
use Rattle.queues.specs.Queues.{Queues, waiting_in, runs_in, no_jobs}
use Rattle.framerun.specs.declared.FrameState.{FrameState}

-- the tasks' queues
abbrev pub queues_of : FrameState → Queues
queues_of s = record { waiting = s.waiting; runs = s.runs }

abbrev pub waiting_at : FrameState → ℕ → ℕ
waiting_at s k = waiting_in (queues_of s) k

-- the run count of the front job
abbrev pub runs_at : FrameState → ℕ → ℕ
runs_at s k = runs_in (queues_of s) k

abbrev pub with_queues : FrameState → Queues → FrameState
with_queues s q =
    record { waiting = q.waiting; runs = q.runs; last = s.last; ticks = s.ticks; accepted = s.accepted }

abbrev pub with_last : FrameState → Option ℕ → FrameState
with_last s l =
    record { waiting = s.waiting; runs = s.runs; last = l; ticks = s.ticks; accepted = s.accepted }

-- the counts of taken ticks and of accepted releases
abbrev pub with_counts : FrameState → Ticks → ℕ → FrameState
with_counts s ticks accepted =
    record { waiting = s.waiting; runs = s.runs; last = s.last; ticks = ticks; accepted = accepted }

-- "A fresh run is in N, all counts 0."
abbrev pub fresh : FrameState
fresh =
    record {
      waiting = no_jobs.waiting;
      runs = no_jobs.runs;
      last = None;
      ticks = record { 0 = 0 };
      accepted = 0;
    }
