-- Every job that was released was finished or cut, or waits still: in all, counted from the answers
-- alone, and task by task. Each event keeps the sum; that every list of events then does is a law of
-- every box (crate events). Assumes nothing.
use Rattle.std.proofs.Common.{None, Option, Some}
use mathlib.Core.Path.{◌≡◌, refl, ap, subst, ◌∙◌}
use mathlib.Core.Bool.{Bool, true, false}
use mathlib.Core.List.{List, [], ◌∷◌}
use Prim.Native.Nat.{ℕ, ◌+◌, ◌≤◌, ◌<◌}
use native.Mathlib.Omega.{arith}
use lib.Dec.{eqb}
use lib.ListN.{get_or-replicate}
use borrow.Author.Tests.{ltb-true}
use Rattle.laws.specs.Rows.{sum_below}
use Rattle.laws.proofs.Choice.{if_ind}
use Rattle.laws.proofs.Rows.{sum_cong, sum_add, sum_zero}
use Rattle.events.specs.declared.Event.{Event}
use Rattle.events.specs.declared.Event.TheVariants.{Release, Tick}
use Rattle.events.specs.Answers.{finished_by, cut_by}
use Rattle.events.specs.Count.{over_all, by_left, release, release_by, released_in, released_of, any_finished, finished_in, finished_of}
use Rattle.events.specs.Count.{any_cut, cut_in, cut_of, discarded, discarded_in}
use Rattle.events.specs.Boxes.{after_in, answers_in}
use Rattle.events.proofs.Count.{LeftBelow, sum_finished, sum_cut, jobs_in}
use Rattle.queues.proofs.Queues.{joined_waiting_lem, joined_sum}
use Rattle.queues.proofs.Sound.{LastSound}
use Rattle.frametable.specs.declared.FrameTable.{FrameTable}
use Rattle.frametable.specs.Inner.{FrameSized}
use Rattle.frametable.specs.Rows.{frame_limit_at}
use Rattle.frametable.specs.Rules.{frame_table_keeps}
use Rattle.framerun.specs.declared.FrameState.{FrameState}
use Rattle.framerun.specs.declared.FrameRun.{FrameRun}
use Rattle.events.specs.declared.Answered.{Answered}
use Rattle.framerun.specs.State.{queues_of, waiting_at, runs_at, fresh}
use Rattle.framerun.specs.Release.{fresh_frame}
use Rattle.framerun.specs.Tick.{Settled, settle, tick_taken}
use Rattle.framerun.specs.Events.{event_of, frame_box}
use Rattle.framerun.proofs.Taken.{release_ind, tick_ind}
use Rattle.framerun.proofs.Sound.{sound_state_lem}
use Rattle.framerun.proofs.Tick.{Shaped, settle_waiting, waiting_after}
use Rattle.framerun.proofs.Kept.{Good, run_rules, event_keeps, event_table, fresh_keeps}

-- The job that left is of a row in use, so that the rows' counts sum up to what the answer says.
left_below : (t : FrameTable) (s : FrameState) (mark : Bool) (l : Option ℕ) →
    LastSound t.ntasks (queues_of s) s.ticks.0 l → LeftBelow t.ntasks (settle t s mark l).left
unfolding settle
left_below t s mark None q = tt
left_below t s true (Some j) q = q.below
left_below t s false (Some j) q =
    if_ind
    (λ (z : Settled). LeftBelow t.ntasks z.left)
    (eqb (runs_at s j) (frame_limit_at t j))
    (λ e. q.below)
    (λ e. tt)

-- A taken tick: of each task, and in all.
module _ (t : FrameTable) (s : FrameState) (mark : Bool) (many : t.ntasks ≤ 64) (h : Shaped s)
    (q : LastSound t.ntasks (queues_of s) s.ticks.0 s.last) where
  tick_jobs_of : (k : ℕ) →
      waiting_at (tick_taken t s mark).state k +
      (finished_by (tick_taken t s mark).answer.left k + cut_by (tick_taken t s mark).answer.left k)
      ≡ waiting_at s k
  unfolding tick_taken
  tick_jobs_of k = omega (arith, settle_waiting t s mark s.last many h q k, waiting_after t s mark k)

  tick-jobs :
      sum_below t.ntasks (waiting_at (tick_taken t s mark).state) +
      (any_finished (tick_taken t s mark).answer.left + any_cut (tick_taken t s mark).answer.left)
      ≡ sum_below t.ntasks (waiting_at s)
  unfolding tick_taken
  tick-jobs =
      let n = t.ntasks in
      let w : ℕ → ℕ = waiting_at (tick_taken t s mark).state in
      let l = (settle t s mark s.last).left in
      let b = left_below t s mark s.last q in
      omega (
        arith,
        sum_cong (λ k. w k + (finished_by l k + cut_by l k)) (waiting_at s) n (λ k m. tick_jobs_of k),
        sum_add w (λ k. finished_by l k + cut_by l k) n,
        sum_add (finished_by l) (cut_by l) n,
        sum_finished n l b,
        sum_cut n l b,
      )

  -- "in mode N only": nothing is discarded
  none_discarded : (tick_taken t s mark).answer.discarded ≡ 0
  unfolding tick_taken
  none_discarded = refl

-- One event, taken or refused. `JobsOf` counts task k alone.
abbrev JobsOf : FrameRun → ℕ → Answered FrameRun → Type 0
JobsOf r k a =
    waiting_at a.run.state k +
    (by_left (λ l. finished_by l k) a.answer + by_left (λ l. cut_by l k) a.answer) +
    discarded a.answer
    ≡ waiting_at r.state k + release_by k a.answer

abbrev Jobs : FrameRun → Answered FrameRun → Type 0
Jobs r a =
    sum_below r.table.ntasks (waiting_at a.run.state) +
    (by_left any_finished a.answer + by_left any_cut a.answer) +
    discarded a.answer
    ≡ sum_below r.table.ntasks (waiting_at r.state) + release a.answer

event_jobs_of : (r : FrameRun) (e : Event) → Good r → (k : ℕ) → k < r.table.ntasks → JobsOf r k (event_of r e)
event_jobs_of r (Release j) g k l =
    let rules = run_rules r g in
    release_ind (JobsOf r k) r j (λ why. omega arith)
    (λ y.
    let b : j < r.table.ntasks = ltb-true j r.table.ntasks y.task in
    omega (arith, joined_waiting_lem (queues_of r.state) j k (omega (arith, g.0.state.waiting, rules.tasks_high))))
event_jobs_of r (Tick mark) g k l =
    let many = (run_rules r g).tasks_high in
    let q = (sound_state_lem r g.1).last in
    tick_ind (JobsOf r k) r mark (λ why. omega arith)
    (λ y.
    omega (
      arith,
      tick_jobs_of r.table r.state mark many g.0.state q k,
      none_discarded r.table r.state mark many g.0.state q,
    ))

event_jobs : (r : FrameRun) (e : Event) → Good r → Jobs r (event_of r e)
event_jobs r (Release j) g =
    let rules = run_rules r g in
    release_ind (Jobs r) r j (λ why. omega arith)
    (λ y.
    let b : j < r.table.ntasks = ltb-true j r.table.ntasks y.task in
    omega (
      arith,
      joined_sum (queues_of r.state) r.table.ntasks j (omega (arith, g.0.state.waiting, rules.tasks_high)) b,
    ))
event_jobs r (Tick mark) g =
    let many = (run_rules r g).tasks_high in
    let q = (sound_state_lem r g.1).last in
    tick_ind (Jobs r) r mark (λ why. omega arith)
    (λ y.
    omega (
      arith,
      tick-jobs r.table r.state mark many g.0.state q,
      none_discarded r.table r.state mark many g.0.state q,
    ))

-- Any events, from a sound run of a table of n tasks.
record GoodOf (n : ℕ) (r : FrameRun) : Type 0 where
  tasks : r.table.ntasks ≡ n
  good : Good r

good_of_keeps : (n : ℕ) (r : FrameRun) (e : Event) → GoodOf n r → GoodOf n (event_of r e).run
good_of_keeps n r e h =
    record {
      tasks = ap (λ (t : FrameTable). t.ntasks) (event_table r e) ∙ h.tasks;
      good = event_keeps r e h.good;
    }

-- no answer tells of a discarded job
none_gone : (r : FrameRun) (es : List Event) → Good r → discarded_in (answers_in frame_box r es) ≡ 0
unfolding answers_in over_all
none_gone r [] g = refl
none_gone r (e ∷ es) g = omega (arith, one r e g, none_gone (event_of r e).run es (event_keeps r e g))
  where
    one : (r : FrameRun) (e : Event) → Good r → discarded (event_of r e).answer ≡ 0
    one r (Release k) g = release_ind (λ (a : Answered FrameRun). discarded a.answer ≡ 0) r k (λ why. refl) (λ y. refl)
    one r (Tick mark) g =
        tick_ind (λ (a : Answered FrameRun). discarded a.answer ≡ 0) r mark (λ why. refl)
        (λ y.
        none_discarded r.table r.state mark (run_rules r g).tasks_high g.0.state (sound_state_lem r g.1).last)

pub frame_discards_none : (t : FrameTable) (es : List Event) → FrameSized t → frame_table_keeps t ≡ true →
    discarded_in (answers_in frame_box (fresh_frame t) es) ≡ 0
frame_discards_none t es z e = none_gone (fresh_frame t) es (fresh_keeps t z e)

-- From a fresh start of a table that keeps the rules, whatever the events.
pub jobs_balance : (t : FrameTable) (es : List Event) → FrameSized t → frame_table_keeps t ≡ true →
    released_in (answers_in frame_box (fresh_frame t) es) ≡
    finished_in (answers_in frame_box (fresh_frame t) es) + cut_in (answers_in frame_box (fresh_frame t) es) +
    sum_below t.ntasks (waiting_at (after_in frame_box (fresh_frame t) es).state)
jobs_balance t es z e =
    let g = fresh_keeps t z e in
    let n = t.ntasks in
    omega (
      arith,
      jobs_in frame_box (GoodOf n) (good_of_keeps n) (λ (r : FrameRun). sum_below n (waiting_at r.state))
          (by_left any_finished) (by_left any_cut) discarded release
          (λ (r : FrameRun) (x : Event) (h : GoodOf n r).
          subst
          (λ m.
          sum_below m (waiting_at (event_of r x).run.state) +
          (by_left any_finished (event_of r x).answer + by_left any_cut (event_of r x).answer) +
          discarded (event_of r x).answer
          ≡ sum_below m (waiting_at r.state) + release (event_of r x).answer)
          h.tasks
          (event_jobs r x h.good))
          (fresh_frame t)
          es
          (record { tasks = refl; good = g }),
      frame_discards_none t es z e,
      sum_zero (waiting_at fresh) n
          (λ k l. get_or-replicate {A = ℕ} 64 k 0 0 (omega (arith, (run_rules (fresh_frame t) g).tasks_high))),
    )

pub jobs_balance_of : (t : FrameTable) (es : List Event) → FrameSized t → frame_table_keeps t ≡ true → (k : ℕ) →
    k < t.ntasks →
    released_of k (answers_in frame_box (fresh_frame t) es) ≡
    finished_of k (answers_in frame_box (fresh_frame t) es) + cut_of k (answers_in frame_box (fresh_frame t) es) +
    waiting_at (after_in frame_box (fresh_frame t) es).state k
jobs_balance_of t es z e k l =
    let g = fresh_keeps t z e in
    omega (
      arith,
      jobs_in frame_box (GoodOf t.ntasks) (good_of_keeps t.ntasks) (λ (r : FrameRun). waiting_at r.state k)
          (by_left (λ l. finished_by l k)) (by_left (λ l. cut_by l k)) discarded (release_by k)
          (λ (r : FrameRun) (x : Event) (h : GoodOf t.ntasks r).
          event_jobs_of r x h.good k (omega (arith, h.tasks)))
          (fresh_frame t)
          es
          (record { tasks = refl; good = g }),
      frame_discards_none t es z e,
      get_or-replicate {A = ℕ} 64 k 0 0 (omega (arith, (run_rules (fresh_frame t) g).tasks_high)),
    )
