-- Soundness is kept: a fresh run of a table that keeps the rules is sound, and a release or a tick
-- that is taken leaves a sound state. So every state that a run hands out may be handed in again.
-- Assumes nothing.
use Rattle.std.specs.Prelude.{if◌then◌else◌}
use mathlib.Core.Path.{◌≡◌, refl, ap, ◌∙◌}
use mathlib.Core.Bool.{Bool, true, false, not, ◌&&◌}
use mathlib.Core.List.{List}
use mathlib.Core.Logic.{◌⊎◌, inl, inr}
use Prim.Native.Nat.{ℕ, ◌+◌, ◌≤◌, ◌<◌}
use native.Mathlib.Omega.{arith}
use lib.Dec.{eqb}
use lib.ListN.{length, get_or-replicate}
use borrow.Author.Tests.{eqb-false, ltb-true}
use Rattle.laws.specs.Choice.{larger}
use Rattle.laws.proofs.Choice.{clash, larger_left, larger_right}
use Rattle.laws.proofs.Rows.{sum_le, sum_zero}
use Rattle.units.specs.declared.Ticks.{Ticks}
use Rattle.table.specs.declared.ByMode.{ByMode}
use Rattle.table.specs.declared.Mode.{Mode}
use Rattle.table.specs.declared.Mode.TheVariants.{N, D1, D2}
use Rattle.table.specs.declared.Table.{Table}
use Rattle.table.specs.Rows.{server_at, task_at, period_at, limit_at, in_mode, is_low, largest, is_d2}
use Rattle.table.specs.Inner.{Sized}
use Rattle.table.specs.Rules.{table_keeps}
use Rattle.table.proofs.Rules.{TableRules, table_rules}
use Rattle.run.specs.declared.State.{State}
use Rattle.run.specs.declared.Run.{Run}
use Rattle.events.specs.declared.Event.{Event}
use Rattle.events.specs.declared.Event.TheVariants.{Release, Tick}
use Rattle.events.specs.declared.Answered.{Answered}
use Rattle.events.specs.declared.Turn.{Turn}
use Rattle.events.specs.declared.Turn.TheVariants.{Run as Ran, Empty, Idle}
use Rattle.run.specs.State.{queues_of, used_at, elapsed_at, waiting_at, runs_at, fresh}
use Rattle.queues.specs.Queues.{is_last}
use Rattle.run.specs.Sound.{sound}
use Rattle.events.specs.Answers.{one, ran}
use Rattle.events.proofs.Answers.{one_past_lem, one_same, same_or_not, charged_is}
use Rattle.queues.proofs.Queues.{joined_waiting_lem}
use Rattle.queues.proofs.Sound.{joined_queue, joined_last, joined_counts, ran_queue}
use Rattle.run.specs.Release.{with_job, fresh_run, release_of}
use Rattle.queues.specs.Queues.{last_of}
use Rattle.run.specs.Tick.{settle, choose, advance, tick_taken, tick_of}
use Rattle.events.proofs.Boxes.{after_keeps as after-keeps-in}
use Rattle.run.specs.Events.{event_of, the_box, after}
use Rattle.run.proofs.Taken.{ReleaseTaken, release_taken, ticked_taken, release_ind, tick_ind}
use Rattle.run.proofs.Shape.{Shaped, RunShaped, event_run_shaped, settle_counts, fresh_run_shaped}
use Rattle.run.proofs.Tick.{used_settled, elapsed_settled, used_after, elapsed_after, charged_able, able_room}
use Rattle.run.proofs.Tick.{force_low, charged_passes, passes_most, passes_late, late_before, started_settled}
use Rattle.run.proofs.Tick.{ran_front}
use Rattle.run.proofs.Sound.{ServerSound, TaskSound, LastSound, CountsSound, StateSound, sound_table, sound_state_lem}
use Rattle.run.proofs.Sound.{sound_build, task_queue}
use Rattle.run.proofs.Steps.{settled_row, settled_low}
use Rattle.run.proofs.Steps.{waiting_settled, runs_after}

-- a capacity is at most the largest
pub in_largest : (x : ByMode Ticks) (m : Mode) → (in_mode x m).0 ≤ (largest x).0
in_largest x N =
    let ab : ℕ = larger x.n.0 x.d1.0 in
    omega (arith, larger_left x.n.0 x.d1.0, larger_left ab x.d2.0)
in_largest x D1 =
    let ab : ℕ = larger x.n.0 x.d1.0 in
    omega (arith, larger_right x.n.0 x.d1.0, larger_left ab x.d2.0)
in_largest x D2 = larger_right (larger x.n.0 x.d1.0) x.d2.0

-- A fresh state: all counts are 0.
fresh_task : (t : Table) → TableRules t → (k : ℕ) → k < t.ntasks → TaskSound t fresh k
fresh_task t rules k l =
    let w : waiting_at fresh k ≡ 0 = get_or-replicate {A = ℕ} 64 k 0 0 (omega (arith, rules.tasks_high)) in
    record {
      queue = omega arith;
      none = λ e. w;
      front = λ p. absurd (omega arith);
      low = λ d e. w;
    }

fresh_server : (t : Table) → TableRules t → (i : ℕ) → i < t.nservers → ServerSound t fresh i
fresh_server t rules i l =
    let u : used_at fresh i ≡ 0 = get_or-replicate {A = ℕ} 32 i 0 0 (omega (arith, rules.servers_high)) in
    let e : elapsed_at fresh i ≡ 0 = u in
    record { elapsed = omega arith; used = omega arith; room = omega arith; before = λ q. (u, e) }

pub fresh_sound : (t : Table) → TableRules t → StateSound t fresh
fresh_sound t rules =
    record {
      servers = fresh_server t rules;
      tasks = fresh_task t rules;
      last = tt;
      counts =
          record {
            ticks = omega arith;
            accepted = omega arith;
            waiting =
                omega (
                  arith,
                  sum_zero
                      (waiting_at fresh)
                      t.ntasks
                      (λ k l. get_or-replicate {A = ℕ} 64 k 0 0 (omega (arith, rules.tasks_high))),
                );
          };
    }

-- A release: one job more of task k, and of no other task.
pub waiting_released : (s : State) (k j : ℕ) → k < length s.waiting →
    waiting_at (with_job s k) j ≡ waiting_at s j + one k j
waiting_released s k j l = joined_waiting_lem (queues_of s) k j l

pub waiting_taken : (r : Run) (k j : ℕ) → RunShaped r → ReleaseTaken r k →
    waiting_at (release_taken r k).run.state j ≡ waiting_at r.state j + one k j
waiting_taken r k j h y =
    let rules = table_rules r.table h.table (sound_table r y.sound) in
    let l : k < r.table.ntasks = ltb-true k r.table.ntasks y.task in
    waiting_released r.state k j (omega (arith, h.state.waiting, rules.tasks_high))

module _ (t : Table) (s : State) (k : ℕ) (rules : TableRules t) (h : Shaped s) (f : StateSound t s)
    (below : k < t.ntasks) (room : waiting_at s k < 16)
    (level : not (is_d2 s.mode && is_low (task_at t k).level) ≡ true) (count : s.accepted < 4000000000) where
  long : k < length s.waiting
  long = omega (arith, h.waiting, rules.tasks_high)

  job_waiting : (j : ℕ) → waiting_at (with_job s k) j ≡ waiting_at s j + one k j
  job_waiting j = waiting_released s k j long

  -- where a job is released, the level forbids none
  job_low : (j : ℕ) → j < t.ntasks → is_d2 s.mode ≡ true → is_low (task_at t j).level ≡ true →
      waiting_at (with_job s k) j ≡ 0
  job_low j l d e = go (same_or_not k j)
    where
      never : (a b : Bool) → not (a && b) ≡ true → a ≡ true → b ≡ true → ⊥
      never a b n p q = clash false (rw (p, q) at n) refl

      go : (k ≡ j) ⊎ (k ≡ j → ⊥) → waiting_at (with_job s k) j ≡ 0
      go (inl q) = absurd (never (is_d2 s.mode) (is_low (task_at t k).level) level d (rw q e))
      go (inr n) = omega (arith, job_waiting j, one_past_lem k j n, (f.tasks j l).low d e)

  job_task : (j : ℕ) → j < t.ntasks → TaskSound t (with_job s k) j
  job_task j l =
      let q =
      joined_queue (queues_of s) k j (limit_at t s.mode j) (runs_at s j) (is_last s.last j) long room
      ((rules.task j l).limit_low s.mode) (task_queue t s j (f.tasks j l)) in
      record { queue = q.queue; none = q.none; front = q.front; low = job_low j l }

  pub release_sound : StateSound t (with_job s k)
  release_sound =
      record {
        servers =
            λ i l.
            record {
              elapsed = (f.servers i l).elapsed;
              used = (f.servers i l).used;
              room = (f.servers i l).room;
              before = (f.servers i l).before;
            };
        tasks = job_task;
        last = joined_last t.ntasks (queues_of s) k s.ticks.0 long s.last f.last;
        counts = joined_counts t.ntasks (queues_of s) k s.ticks.0 s.accepted long below count f.counts;
      }

-- A tick: the servers by T1 and T2, the tasks by what steps 1 to 3 leave and by whose job runs.
refilled : (u e p : ℕ) → u ≤ e → e ≤ p → 1 ≤ p →
    ((if eqb e p then 0 else u) ≤ (if eqb e p then 0 else e)) × ((if eqb e p then 0 else e) + 1 ≤ p) ×
    ((if eqb e p then 0 else u) ≤ u) × ((if eqb e p then 0 else e) ≤ e)
refilled u e p h g o = go (eqb e p) refl
  where
    go : (b : Bool) → eqb e p ≡ b →
        ((if b then 0 else u) ≤ (if b then 0 else e)) × ((if b then 0 else e) + 1 ≤ p) × ((if b then 0 else u) ≤ u) ×
        ((if b then 0 else e) ≤ e)
    go true q = (omega arith, omega arith, omega arith, omega arith)
    go false q = (omega arith, omega (arith, eqb-false e p q), omega arith, omega arith)

module _ (t : Table) (s : State) (mark : Bool) (rules : TableRules t) (h : Shaped s) (f : StateSound t s)
    (count : s.ticks.0 < 4000000000) where
  tick_server : (i : ℕ) → i < t.nservers → ServerSound t (tick_taken t s mark).state i
  tick_server i l =
      let z = (settle t s mark).state in
      let p = f.servers i l in
      let r = refilled (used_at s i) (elapsed_at s i) (period_at t i) p.used p.elapsed (rules.server i l).period_low in
      let uz = used_settled t s mark i l rules.servers_high h in
      let ez = elapsed_settled t s mark i l rules.servers_high h in
      let ua = used_after t s mark i l rules.servers_high h in
      let ea = elapsed_after t s mark i l rules.servers_high h in
      record {
        elapsed = omega (arith, r.1, passes_most t z i);
        used = omega (arith, r.0, charged_passes t z i);
        room =
            elim (charged_is (choose t z) i) [
              | inl c ↦ omega (arith, r.2, p.room)
              | inr c ↦
                  omega (
                    arith,
                    able_room t z i (charged_able t z i c).1,
                    force_low t z i,
                    in_largest (server_at t i).capacity z.mode,
                  )
            ];
        before =
            λ q.
            let b = late_before t s mark i q in
            let none = passes_late t z i (started_settled t s mark i ∙ b) in
            let n = p.before b in
            (omega (arith, r.2, charged_passes t z i), omega (arith, r.3));
      }

  -- a job that runs waits
  ran_waits : (k : ℕ) → ran (choose t (settle t s mark).state) k ≡ 1 → 0 < waiting_at (settle t s mark).state k
  ran_waits k r =
      let z = (settle t s mark).state in
      ltb-true 0 (waiting_at z k) (ran_front t z k r).1.waits

  tick_task : (k : ℕ) → k < t.ntasks → TaskSound t (tick_taken t s mark).state k
  unfolding tick_taken advance
  tick_task k l =
      let z = (settle t s mark).state in
      let q =
      ran_queue (choose t z) k (limit_at t z.mode k) (waiting_at z k) (runs_at z k) (runs_at (tick_taken t s mark).state k)
      (settled_row t s mark rules h f k l) (ran_waits k) (runs_after t s mark rules.tasks_high h k l) in
      record { queue = q.queue; none = q.none; front = q.front; low = settled_low t s mark rules h f k l }

  tick_last : (turn : Turn) → choose t (settle t s mark).state ≡ turn →
      LastSound t (tick_taken t s mark).state (last_of turn)
  unfolding tick_taken advance
  tick_last (Ran i k) e =
      let z = (settle t s mark).state in
      let r : ran (choose t z) k ≡ 1 = ap (λ u. ran u k) e ∙ one_same k in
      let below = (ran_front t z k r).1.below in
      record {
        below = below;
        waits = ran_waits k r;
        ran = omega (arith, r, runs_after t s mark rules.tasks_high h k below);
        tick = omega arith;
      }
  tick_last (Empty i) e = tt
  tick_last Idle e = tt

  tick_counts : CountsSound t (tick_taken t s mark).state
  unfolding tick_taken advance
  tick_counts =
      let a = settle_counts t s mark in
      record {
        ticks = omega (arith, ap (λ (n : Ticks). n.0) a.0);
        accepted = omega (arith, a.1, f.counts.accepted);
        waiting =
            omega (
              arith,
              sum_le
                  (waiting_at (settle t s mark).state)
                  (waiting_at s)
                  t.ntasks
                  (λ k l. omega (arith, waiting_settled t s mark rules h f k l)),
              a.1,
              f.counts.waiting,
            );
      }

  pub tick_sound : StateSound t (tick_taken t s mark).state
  unfolding tick_taken advance
  tick_sound =
      record {
        servers = tick_server;
        tasks = tick_task;
        last = tick_last (choose t (settle t s mark).state) refl;
        counts = tick_counts;
      }

-- Hence every event keeps a run sound, and so does every list of events.
pub release_keeps : (r : Run) (k : ℕ) → RunShaped r → sound r ≡ true → sound (release_of r k).run ≡ true
release_keeps r k h e =
    let rules = table_rules r.table h.table (sound_table r e) in
    release_ind (λ (a : Answered Run). sound a.run ≡ true) r k (λ why. e)
    (λ y.
    sound_build (release_taken r k).run (sound_table r e)
    (release_sound r.table r.state k rules h.state (sound_state_lem r e)
    (ltb-true k r.table.ntasks y.task)
    (ltb-true (waiting_at r.state k) 16 y.queue)
    y.level
    (ltb-true r.state.accepted 4000000000 y.count)))

pub tick_keeps_lem : (r : Run) (mark : Bool) → RunShaped r → sound r ≡ true → sound (tick_of r mark).run ≡ true
tick_keeps_lem r mark h e =
    let rules = table_rules r.table h.table (sound_table r e) in
    tick_ind (λ (a : Answered Run). sound a.run ≡ true) r mark (λ why. e)
    (λ y.
    sound_build (ticked_taken r mark).run (sound_table r e)
    (tick_sound r.table r.state mark rules h.state (sound_state_lem r e)
    (ltb-true r.state.ticks.0 4000000000 y.count)))

pub event_keeps : (r : Run) (e : Event) → RunShaped r → sound r ≡ true → sound (event_of r e).run ≡ true
event_keeps r (Release k) h q = release_keeps r k h q
event_keeps r (Tick mark) h q = tick_keeps_lem r mark h q

pub after_keeps : (r : Run) (es : List Event) → RunShaped r → sound r ≡ true → sound (after r es) ≡ true
after_keeps r es h q =
    (after-keeps-in the_box (λ (r : Run). RunShaped r × (sound r ≡ true))
    (λ (r : Run) (e : Event) (p : RunShaped r × (sound r ≡ true)).
    (event_run_shaped r e p.0, event_keeps r e p.0 p.1))
    r
    es
    (h, q)
    ).1

pub fresh_keeps : (t : Table) → Sized t → table_keeps t ≡ true → sound (fresh_run t) ≡ true
fresh_keeps t z e = sound_build (fresh_run t) e (fresh_sound t (table_rules t z e))

-- so every run that is reached from a fresh start is sound
pub reached_sound : (t : Table) (es : List Event) → Sized t → table_keeps t ≡ true → sound (after (fresh_run t) es) ≡ true
reached_sound t es z e = after_keeps (fresh_run t) es (fresh_run_shaped t z) (fresh_keeps t z e)
