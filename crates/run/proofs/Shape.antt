-- The arrays of a state are lists here: they have 32 and 64 rows in a fresh state, and every event
-- keeps their lengths, since rows are only set or made anew. Beside it, what steps 1 to 3 leave as
-- it was. Assumes nothing.
use Rattle.std.proofs.Common.{None, Option, Some}
use mathlib.Core.Path.{◌≡◌, refl, ap, sym, subst, ◌∙◌}
use mathlib.Core.Bool.{Bool, true, false}
use Prim.Native.Nat.{ℕ}
use lib.ListN.{length, length-set, length-replicate}
use Rattle.laws.proofs.Choice.{if_ind}
use Rattle.laws.proofs.Anew.{length_anew}
use Rattle.table.specs.declared.Mode.{Mode}
use Rattle.table.specs.declared.Mode.TheVariants.{N}
use Rattle.table.specs.declared.Table.{Table}
use Rattle.table.specs.Rows.{task_at}
use Rattle.table.specs.Inner.{Sized}
use Rattle.run.specs.declared.State.{State}
use Rattle.run.specs.declared.Run.{Run}
use Rattle.events.specs.declared.Turn.{Turn}
use Rattle.events.specs.declared.Event.{Event}
use Rattle.events.specs.declared.Event.TheVariants.{Release, Tick}
use Rattle.events.specs.declared.Answered.{Answered}
use Rattle.queues.specs.Queues.{Queues, front_gone}
use Rattle.run.specs.State.{queues_of, runs_at, some_waits, fresh, with_mode, with_queues}
use Rattle.run.specs.Release.{with_job, fresh_run, release_of}
use Rattle.run.specs.Tick.{Marked, judge, without_front, step1, step2, step3, step4, settle, choose, advance, tick_taken, tick_of}
use Rattle.run.specs.Events.{event_of}
use Rattle.run.proofs.Taken.{release_ind, tick_ind}

pub record Shaped (s : State) : Type 0 where
  pub used : length s.used ≡ 32
  pub elapsed : length s.elapsed ≡ 32
  pub waiting : length s.waiting ≡ 64
  pub runs : length s.runs ≡ 64

-- what steps 1 to 3 leave alone: the servers' counts, the last-run job, the counts of ticks and
-- releases, and the arrays' lengths
pub record Alike (s z : State) : Type 0 where
  pub used : z.used ≡ s.used
  pub elapsed : z.elapsed ≡ s.elapsed
  pub last : z.last ≡ s.last
  pub ticks : z.ticks ≡ s.ticks
  pub accepted : z.accepted ≡ s.accepted
  pub waiting : length z.waiting ≡ length s.waiting
  pub runs : length z.runs ≡ length s.runs

-- another mode and other queues of the same length, and all else as it was
queues_alike : (s : State) (m : Mode) (qs : Queues) → length qs.waiting ≡ length s.waiting →
    length qs.runs ≡ length s.runs → Alike s (with_queues (with_mode s m) qs)
queues_alike s m qs p q =
    record {
      used = refl;
      elapsed = refl;
      last = refl;
      ticks = refl;
      accepted = refl;
      waiting = p;
      runs = q;
    }

pub mode_alike : (s : State) (m : Mode) → Alike s (with_mode s m)
mode_alike s m = queues_alike s m (queues_of s) refl refl

front_alike : (s : State) (m : Mode) (k : ℕ) → Alike s (without_front (with_mode s m) k)
front_alike s m k =
    queues_alike s m (front_gone (queues_of s) k) (length-set s.waiting k _) (length-set s.runs k _)

pub alike_then : {s y z : State} → Alike s y → Alike y z → Alike s z
alike_then a b =
    record {
      used = b.used ∙ a.used;
      elapsed = b.elapsed ∙ a.elapsed;
      last = b.last ∙ a.last;
      ticks = b.ticks ∙ a.ticks;
      accepted = b.accepted ∙ a.accepted;
      waiting = b.waiting ∙ a.waiting;
      runs = b.runs ∙ a.runs;
    }

pub alike_shaped : {s z : State} → Alike s z → Shaped s → Shaped z
alike_shaped a h =
    record {
      used = ap length a.used ∙ h.used;
      elapsed = ap length a.elapsed ∙ h.elapsed;
      waiting = a.waiting ∙ h.waiting;
      runs = a.runs ∙ h.runs;
    }

pub step1_alike : (t : Table) (s : State) (mark : Bool) (l : Option ℕ) → Alike s (step1 t s mark l).state
unfolding step1
step1_alike t s mark None = mode_alike s s.mode
step1_alike t s true (Some k) = front_alike s s.mode k
step1_alike t s false (Some k) =
    let j = judge 3 (task_at t k) (runs_at s k) s.mode in
    if_ind (λ (m : Marked). Alike s m.state) j.cut (λ e. front_alike s j.mode k) (λ e. mode_alike s j.mode)

pub step2_alike : (t : Table) (before : Mode) (s : State) → Alike s (step2 t before s)
unfolding step2
step2_alike t before s =
    queues_alike s s.mode (queues_of (step2 t before s)) (length_anew _ _ s.waiting) (length_anew _ _ s.runs)

pub step3_alike : (t : Table) (s : State) → Alike s (step3 t s)
unfolding step3
step3_alike t s = if_ind (Alike s) (some_waits t s) (λ e. mode_alike s s.mode) (λ e. mode_alike s N)

-- the state after steps 1 to 3
unfoldable pub step123 : Table → State → Bool → State
step123 t s mark = step3 t (step2 t s.mode (step1 t s mark s.last).state)

pub step123_alike : (t : Table) (s : State) (mark : Bool) → Alike s (step123 t s mark)
unfolding step123
step123_alike t s mark =
    let one = (step1 t s mark s.last).state in
    alike_then
    (alike_then (step1_alike t s mark s.last) (step2_alike t s.mode one))
    (step3_alike t (step2 t s.mode one))

pub settle_is : (t : Table) (s : State) (mark : Bool) → (settle t s mark).state ≡ step4 t (step123 t s mark)
unfolding settle step123
settle_is t s mark = refl

-- settling leaves the counts of taken ticks and accepted releases alone
pub settle_counts : (t : Table) (s : State) (mark : Bool) →
    ((settle t s mark).state.ticks ≡ s.ticks) × ((settle t s mark).state.accepted ≡ s.accepted)
unfolding step4
settle_counts t s mark =
    let a = step123_alike t s mark in (
      ap (λ (z : State). z.ticks) (settle_is t s mark) ∙ a.ticks,
      ap (λ (z : State). z.accepted) (settle_is t s mark) ∙ a.accepted,
    )

pub fresh_shaped : Shaped fresh
fresh_shaped =
    record {
      used = length-replicate {A = ℕ} 32 0;
      elapsed = length-replicate {A = ℕ} 32 0;
      waiting = length-replicate {A = ℕ} 64 0;
      runs = length-replicate {A = ℕ} 64 0;
    }

pub job_shaped : (s : State) (k : ℕ) → Shaped s → Shaped (with_job s k)
job_shaped s k h =
    record {
      used = h.used;
      elapsed = h.elapsed;
      waiting = length-set s.waiting k _ ∙ h.waiting;
      runs = h.runs;
    }

step4_shaped : (t : Table) (s : State) → Shaped s → Shaped (step4 t s)
unfolding step4
step4_shaped t s h =
    record {
      used = length_anew _ _ s.used ∙ h.used;
      elapsed = length_anew _ _ s.elapsed ∙ h.elapsed;
      waiting = h.waiting;
      runs = h.runs;
    }

pub settle_shaped : (t : Table) (s : State) (mark : Bool) → Shaped s → Shaped (settle t s mark).state
settle_shaped t s mark h =
    rw (settle_is t s mark) (step4_shaped t (step123 t s mark) (alike_shaped (step123_alike t s mark) h))

pub advance_shaped : (t : Table) (s : State) (turn : Turn) → Shaped s → Shaped (advance t s turn)
unfolding advance
advance_shaped t s turn h =
    record {
      used = length_anew _ _ s.used ∙ h.used;
      elapsed = length_anew _ _ s.elapsed ∙ h.elapsed;
      waiting = h.waiting;
      runs = length_anew _ _ s.runs ∙ h.runs;
    }

pub tick_shaped : (t : Table) (s : State) (mark : Bool) → Shaped s → Shaped (tick_taken t s mark).state
unfolding tick_taken
tick_shaped t s mark h =
    advance_shaped t (settle t s mark).state (choose t (settle t s mark).state) (settle_shaped t s mark h)

-- refused or taken, an event keeps the lengths
pub release_shaped : (r : Run) (k : ℕ) → Shaped r.state → Shaped (release_of r k).run.state
release_shaped r k h = release_ind (λ a. Shaped a.run.state) r k (λ why. h) (λ y. job_shaped r.state k h)

pub ticked_shaped : (r : Run) (mark : Bool) → Shaped r.state → Shaped (tick_of r mark).run.state
ticked_shaped r mark h =
    tick_ind (λ a. Shaped a.run.state) r mark (λ why. h) (λ y. tick_shaped r.table r.state mark h)

-- no event changes the table
pub event_table : (r : Run) (e : Event) → (event_of r e).run.table ≡ r.table
event_table r (Release k) =
    release_ind (λ (a : Answered Run). a.run.table ≡ r.table) r k (λ why. refl) (λ y. refl)
event_table r (Tick mark) =
    tick_ind (λ (a : Answered Run). a.run.table ≡ r.table) r mark (λ why. refl) (λ y. refl)

pub event_shaped : (r : Run) (e : Event) → Shaped r.state → Shaped (event_of r e).run.state
event_shaped r (Release k) h = release_shaped r k h
event_shaped r (Tick mark) h = ticked_shaped r mark h

-- a run whose table and state have their arrays' lengths, as every run that code holds
pub record RunShaped (r : Run) : Type 0 where
  pub table : Sized r.table
  pub state : Shaped r.state

pub fresh_run_shaped : (t : Table) → Sized t → RunShaped (fresh_run t)
fresh_run_shaped t z = record { table = z; state = fresh_shaped }

pub event_run_shaped : (r : Run) (e : Event) → RunShaped r → RunShaped (event_of r e).run
event_run_shaped r e h =
    record { table = subst Sized (sym (event_table r e)) h.table; state = event_shaped r e h.state }
