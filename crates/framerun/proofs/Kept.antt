-- Soundness is kept: a fresh run of a table that keeps the rules is sound, and a release or a tick
-- that is taken leaves a sound state, of the same shape and with the same table. So every state that a
-- run hands out may be handed in again. Assumes nothing.
use Rattle.std.proofs.Common.{Option}
use mathlib.Core.Path.{◌≡◌, refl, ap, ◌∙◌}
use mathlib.Core.Bool.{Bool, true}
use mathlib.Core.List.{List}
use Prim.Native.Nat.{ℕ, ◌<◌}
use native.Mathlib.Omega.{arith}
use lib.ListN.{length, length-set, length-replicate, get_or-replicate}
use borrow.Author.Tests.{ltb-true}
use Rattle.laws.proofs.Anew.{length_anew}
use Rattle.laws.proofs.Rows.{sum_le, sum_zero}
use Rattle.units.specs.declared.Ticks.{Ticks}
use Rattle.events.specs.declared.Turn.{Turn}
use Rattle.events.specs.declared.Turn.TheVariants.{Run as Ran, Empty, Idle}
use Rattle.events.specs.declared.Event.{Event}
use Rattle.events.specs.declared.Event.TheVariants.{Release, Tick}
use Rattle.events.specs.Answers.{ran}
use Rattle.events.specs.Boxes.{after_in, after_lines_in}
use Rattle.events.proofs.Answers.{one_same}
use Rattle.events.proofs.Boxes.{after_keeps, lines_keep}
use Rattle.queues.specs.Queues.{last_of}
use Rattle.queues.proofs.Sound.{LastSound, CountsSound, joined_queue, joined_last, joined_counts, ran_queue}
use Rattle.frametable.specs.declared.FrameTable.{FrameTable}
use Rattle.frametable.specs.Inner.{FrameSized}
use Rattle.frametable.specs.Rows.{frame_limit_at}
use Rattle.frametable.specs.Rules.{frame_table_keeps}
use Rattle.frametable.proofs.Rules.{FrameTableRules, frame_table_rules}
use Rattle.framerun.specs.declared.FrameState.{FrameState}
use Rattle.framerun.specs.declared.FrameRun.{FrameRun}
use Rattle.events.specs.declared.Answered.{Answered}
use Rattle.framerun.specs.State.{queues_of, waiting_at, runs_at, fresh}
use Rattle.framerun.specs.Sound.{frame_sound}
use Rattle.framerun.specs.Release.{with_job, fresh_frame}
use Rattle.framerun.specs.Tick.{settle, turn_at, advance, tick_taken}
use Rattle.framerun.specs.Events.{event_of, frame_box}
use Rattle.framerun.proofs.Taken.{release_ind, tick_ind}
use Rattle.framerun.proofs.Sound.{StateSound, TaskSound, sound_table, sound_state_lem, sound_build}
use Rattle.framerun.proofs.Tick.{Shaped, settle_alike, settle_waiting, settled_row, ran_front, runs_after}

-- a run's arrays have their rows
pub record FrameShaped (r : FrameRun) : Type 0 where
  pub table : FrameSized r.table
  pub state : Shaped r.state

pub fresh_shaped : (t : FrameTable) → FrameSized t → FrameShaped (fresh_frame t)
fresh_shaped t z =
    record { table = z; state = record { waiting = length-replicate {A = ℕ} 64 0; runs = length-replicate {A = ℕ} 64 0 } }

-- A fresh state: all counts are 0.
fresh_waiting : (k : ℕ) → k < 64 → waiting_at fresh k ≡ 0
fresh_waiting k l = get_or-replicate {A = ℕ} 64 k 0 0 l

pub fresh_sound : (t : FrameTable) → FrameTableRules t → StateSound t fresh
fresh_sound t rules =
    record {
      tasks =
          λ k l.
          let w = fresh_waiting k (omega (arith, rules.tasks_high)) in
          record { queue = omega arith; none = λ e. w; front = λ p. absurd (omega arith) };
      last = tt;
      counts =
          record {
            ticks = omega arith;
            accepted = omega arith;
            waiting =
                omega (
                  arith,
                  sum_zero (waiting_at fresh) t.ntasks (λ k l. fresh_waiting k (omega (arith, rules.tasks_high))),
                );
          };
    }

-- A release.
module _ (t : FrameTable) (s : FrameState) (k : ℕ) (rules : FrameTableRules t) (h : Shaped s) (f : StateSound t s)
    (below : k < t.ntasks) (room : waiting_at s k < 16) (count : s.accepted < 4000000000) where
  long : k < length s.waiting
  long = omega (arith, h.waiting, rules.tasks_high)

  pub release_sound : StateSound t (with_job s k)
  release_sound =
      record {
        tasks = λ j l. joined_queue (queues_of s) k j _ _ _ long room (rules.task j l).limit_low (f.tasks j l);
        last = joined_last t.ntasks (queues_of s) k s.ticks.0 long s.last f.last;
        counts = joined_counts t.ntasks (queues_of s) k s.ticks.0 s.accepted long below count f.counts;
      }

-- A tick.
module _ (t : FrameTable) (s : FrameState) (mark : Bool) (rules : FrameTableRules t) (h : Shaped s) (f : StateSound t s)
    (count : s.ticks.0 < 4000000000) where
  tick_task : (k : ℕ) → k < t.ntasks → TaskSound t (tick_taken t s mark).state k
  unfolding tick_taken advance
  tick_task k l =
      let z = (settle t s mark s.last).state in
      ran_queue (turn_at t z) k (frame_limit_at t k) (waiting_at z k) (runs_at z k) (runs_at (tick_taken t s mark).state k)
      (settled_row t s rules h f mark s.last refl f.last k l) (λ r. (ran_front t z k r).waits)
      (runs_after t s mark rules.tasks_high h k l)

  tick_last : (turn : Turn) → turn_at t (settle t s mark s.last).state ≡ turn →
      LastSound t.ntasks (queues_of (tick_taken t s mark).state) (tick_taken t s mark).state.ticks.0 (last_of turn)
  unfolding tick_taken advance
  tick_last (Ran p k) e =
      let z = (settle t s mark s.last).state in
      let r : ran (turn_at t z) k ≡ 1 = ap (λ u. ran u k) e ∙ one_same k in
      let d = ran_front t z k r in
      record {
        below = d.below;
        waits = d.waits;
        ran = omega (arith, r, runs_after t s mark rules.tasks_high h k d.below);
        tick = omega arith;
      }
  tick_last (Empty p) e = tt
  tick_last Idle e = tt

  tick_counts : CountsSound t.ntasks (queues_of (tick_taken t s mark).state) (tick_taken t s mark).state.ticks.0
      (tick_taken t s mark).state.accepted
  unfolding tick_taken advance
  tick_counts =
      let a = settle_alike t s mark s.last in
      record {
        ticks = omega (arith, ap (λ (n : Ticks). n.0) a.ticks);
        accepted = omega (arith, a.accepted, f.counts.accepted);
        waiting =
            omega (
              arith,
              sum_le
                  (waiting_at (settle t s mark s.last).state)
                  (waiting_at s)
                  t.ntasks
                  (λ k l. omega (arith, settle_waiting t s mark s.last rules.tasks_high h f.last k)),
              a.accepted,
              f.counts.waiting,
            );
      }

  pub tick_sound : StateSound t (tick_taken t s mark).state
  unfolding tick_taken advance
  tick_sound =
      record {
        tasks = tick_task;
        last = tick_last (turn_at t (settle t s mark s.last).state) refl;
        counts = tick_counts;
      }

  pub tick_shaped : Shaped (tick_taken t s mark).state
  unfolding tick_taken advance
  tick_shaped =
      let a = settle_alike t s mark s.last in
      record {
        waiting = a.waiting ∙ h.waiting;
        runs = length_anew _ _ (settle t s mark s.last).state.runs ∙ (a.runs ∙ h.runs);
      }

-- Hence every event keeps a run sound and in shape, and so does every list of events and of lines.
abbrev pub Good : FrameRun → Type 0
Good r = FrameShaped r × (frame_sound r ≡ true)

pub run_rules : (r : FrameRun) → Good r → FrameTableRules r.table
run_rules r g = frame_table_rules r.table g.0.table (sound_table r g.1)

pub event_keeps : (r : FrameRun) (e : Event) → Good r → Good (event_of r e).run
event_keeps r (Release k) g =
    let rules = run_rules r g in
    release_ind (λ (a : Answered FrameRun). Good a.run) r k (λ why. g)
    (λ y.
    let l = ltb-true k r.table.ntasks y.task in (
      record {
        table = g.0.table;
        state = record { waiting = length-set r.state.waiting k _ ∙ g.0.state.waiting; runs = g.0.state.runs };
      },
      sound_build (record { table = r.table; state = with_job r.state k }) (sound_table r g.1)
          (release_sound r.table r.state k rules g.0.state (sound_state_lem r g.1) l
          (ltb-true (waiting_at r.state k) 16 y.queue) (ltb-true r.state.accepted 4000000000 y.count)),
    ))
event_keeps r (Tick mark) g =
    let rules = run_rules r g in
    tick_ind (λ (a : Answered FrameRun). Good a.run) r mark (λ why. g)
    (λ y.
    let n = ltb-true r.state.ticks.0 4000000000 y.count in (
      record {
        table = g.0.table;
        state = tick_shaped r.table r.state mark rules g.0.state (sound_state_lem r g.1) n;
      },
      sound_build (record { table = r.table; state = (tick_taken r.table r.state mark).state })
          (sound_table r g.1) (tick_sound r.table r.state mark rules g.0.state (sound_state_lem r g.1) n),
    ))

pub fresh_keeps : (t : FrameTable) → FrameSized t → frame_table_keeps t ≡ true → Good (fresh_frame t)
fresh_keeps t z e =
    (fresh_shaped t z, sound_build (fresh_frame t) e (fresh_sound t (frame_table_rules t z e)))

-- so every run that is reached from a fresh start is sound
pub reached_sound : (t : FrameTable) (es : List Event) → FrameSized t → frame_table_keeps t ≡ true →
    Good (after_in frame_box (fresh_frame t) es)
reached_sound t es z e = after_keeps frame_box Good event_keeps (fresh_frame t) es (fresh_keeps t z e)

pub frame_lines_keep : (r : FrameRun) (ls : List (Option Event)) → FrameShaped r → frame_sound r ≡ true →
    FrameShaped (after_lines_in frame_box r ls) × (frame_sound (after_lines_in frame_box r ls) ≡ true)
frame_lines_keep r ls h q = lines_keep frame_box Good event_keeps r ls (h, q)

-- an event leaves the table alone
pub event_table : (r : FrameRun) (e : Event) → (event_of r e).run.table ≡ r.table
event_table r (Release k) = release_ind (λ (a : Answered FrameRun). a.run.table ≡ r.table) r k (λ why. refl) (λ y. refl)
event_table r (Tick mark) = tick_ind (λ (a : Answered FrameRun). a.run.table ≡ r.table) r mark (λ why. refl) (λ y. refl)
