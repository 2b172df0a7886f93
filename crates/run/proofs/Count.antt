-- Every job that was released was finished, cut or discarded, or waits still: in all, counted from
-- the answers alone, and task by task. Each event keeps the sum, since in a sound state the job
-- that leaves was waiting. Assumes nothing.
use Rattle.std.proofs.Common.{None, Option, Some}
use mathlib.Core.Path.{◌≡◌, refl, ap, sym, subst, ◌∙◌}
use mathlib.Core.Bool.{Bool, true, false, ◌&&◌}
use mathlib.Core.List.{List, [], ◌∷◌}
use Prim.Native.Nat.{ℕ, ◌+◌, ◌<◌}
use native.Mathlib.Omega.{arith}
use lib.ListN.{get_or-replicate}
use borrow.Author.Tests.{ltb-true}
use Rattle.laws.specs.Rows.{sum_below}
use Rattle.laws.proofs.Choice.{if_ind}
use Rattle.laws.proofs.Rows.{sum_cong, sum_add, sum_zero}
use Rattle.table.specs.declared.Mode.{Mode}
use Rattle.table.specs.declared.Table.{Table}
use Rattle.table.specs.Inner.{Sized}
use Rattle.table.specs.Rows.{task_at, is_low}
use Rattle.table.specs.Rules.{table_keeps}
use Rattle.table.proofs.Rules.{TableRules, table_rules}
use Rattle.run.specs.declared.State.{State}
use Rattle.run.specs.declared.Run.{Run}
use Rattle.events.specs.declared.Event.{Event}
use Rattle.events.specs.declared.Event.TheVariants.{Release, Tick}
use Rattle.events.specs.declared.Answered.{Answered}
use Rattle.run.specs.State.{queues_of, waiting_at, runs_at, fresh}
use Rattle.run.specs.Sound.{sound}
use Rattle.events.specs.Answers.{finished_by, cut_by}
use Rattle.run.specs.Release.{fresh_run}
use Rattle.run.specs.Tick.{Marked, judge, step1, enters, drops, discards, settle, tick_taken}
use Rattle.run.specs.Events.{event_of, the_box, after, answers}
use Rattle.events.specs.Boxes.{after_in, answers_in}
use Rattle.events.proofs.Count.{LeftBelow, sum_finished, sum_cut, jobs_in}
use Rattle.queues.proofs.Queues.{joined_sum}
use Rattle.events.specs.Count.{over_all, by_left, release, release_by, released_in, released_of, any_finished, finished_in}
use Rattle.events.specs.Count.{finished_of, any_cut, cut_in, cut_of, discarded, discarded_in, if_ticked}
use Rattle.run.specs.Count.{discarded_by, discarded_of}
use Rattle.run.proofs.Taken.{release_ind, tick_ind}
use Rattle.run.proofs.Shape.{Shaped, RunShaped, fresh_run_shaped, event_run_shaped, event_table}
use Rattle.run.proofs.Sound.{LastSound, StateSound, sound_table, sound_state_lem}
use Rattle.run.proofs.Steps.{waiting_settled, waiting_after}
use Rattle.run.proofs.Kept.{waiting_released, event_keeps, fresh_keeps}

pub left_below : (t : Table) (s : State) (mark : Bool) (l : Option ℕ) → LastSound t s l →
    LeftBelow t.ntasks (step1 t s mark l).left
unfolding step1
left_below t s mark None q = tt
left_below t s true (Some j) q = q.below
left_below t s false (Some j) q =
    if_ind
    (λ (m : Marked). LeftBelow t.ntasks m.left)
    (judge 3 (task_at t j) (runs_at s j) s.mode).cut
    (λ e. q.below)
    (λ e. tt)

-- A taken tick, and a taken release: the sum over the rows, task by task and in all.
module _ (t : Table) (s : State) (mark : Bool) (rules : TableRules t) (h : Shaped s) (f : StateSound t s) where
  pub tick_jobs_of : (k : ℕ) → k < t.ntasks →
      waiting_at (tick_taken t s mark).state k +
      (finished_by (tick_taken t s mark).answer.left k + cut_by (tick_taken t s mark).answer.left k) +
      (settle t s mark).discarded k ≡
      waiting_at s k
  unfolding tick_taken
  tick_jobs_of k l = omega (arith, waiting_settled t s mark rules h f k l, waiting_after t s mark k)

  pub tick-jobs :
      sum_below t.ntasks (waiting_at (tick_taken t s mark).state) +
      (any_finished (tick_taken t s mark).answer.left + any_cut (tick_taken t s mark).answer.left) +
      (tick_taken t s mark).answer.discarded ≡
      sum_below t.ntasks (waiting_at s)
  unfolding tick_taken settle
  tick-jobs =
      let n = t.ntasks in
      let w : ℕ → ℕ = waiting_at (tick_taken t s mark).state in
      let l = (settle t s mark).left in
      let d : ℕ → ℕ = (settle t s mark).discarded in
      let b = left_below t s mark s.last f.last in
      omega (
        arith,
        sum_cong (λ k. w k + (finished_by l k + cut_by l k) + d k) (waiting_at s) n tick_jobs_of,
        sum_add (λ k. w k + (finished_by l k + cut_by l k)) d n,
        sum_add w (λ k. finished_by l k + cut_by l k) n,
        sum_add (finished_by l) (cut_by l) n,
        sum_finished n l b,
        sum_cut n l b,
      )

-- One event, taken or refused.
event_jobs : (r : Run) (e : Event) → RunShaped r → sound r ≡ true →
    sum_below r.table.ntasks (waiting_at (event_of r e).run.state) +
    (by_left any_finished (event_of r e).answer + by_left any_cut (event_of r e).answer) +
    discarded (event_of r e).answer ≡
    sum_below r.table.ntasks (waiting_at r.state) + release (event_of r e).answer
event_jobs r (Release k) h q =
    let rules = table_rules r.table h.table (sound_table r q) in
    release_ind
    (λ (a : Answered Run).
    sum_below r.table.ntasks (waiting_at a.run.state) +
    (by_left any_finished a.answer + by_left any_cut a.answer) +
    discarded a.answer ≡
    sum_below r.table.ntasks (waiting_at r.state) + release a.answer)
    r
    k
    (λ why. omega arith)
    (λ y.
    omega (
      arith,
      joined_sum (queues_of r.state) r.table.ntasks k
          (omega (arith, h.state.waiting, rules.tasks_high, ltb-true k r.table.ntasks y.task))
          (ltb-true k r.table.ntasks y.task),
    ))
event_jobs r (Tick mark) h q =
    let rules = table_rules r.table h.table (sound_table r q) in
    tick_ind
    (λ (a : Answered Run).
    sum_below r.table.ntasks (waiting_at a.run.state) +
    (by_left any_finished a.answer + by_left any_cut a.answer) +
    discarded a.answer ≡
    sum_below r.table.ntasks (waiting_at r.state) + release a.answer)
    r
    mark
    (λ why. omega arith)
    (λ y. omega (arith, tick-jobs r.table r.state mark rules h.state (sound_state_lem r q)))

event_jobs_of : (r : Run) (e : Event) → RunShaped r → sound r ≡ true → (k : ℕ) → k < r.table.ntasks →
    waiting_at (event_of r e).run.state k +
    (by_left (λ l. finished_by l k) (event_of r e).answer + by_left (λ l. cut_by l k) (event_of r e).answer) +
    discarded_by r e k ≡
    waiting_at r.state k + release_by k (event_of r e).answer
event_jobs_of r (Release j) h q k l =
    let rules = table_rules r.table h.table (sound_table r q) in
    release_ind
    (λ (a : Answered Run).
    waiting_at a.run.state k +
    (by_left (λ l. finished_by l k) a.answer + by_left (λ l. cut_by l k) a.answer) +
    0 ≡
    waiting_at r.state k + release_by k a.answer)
    r
    j
    (λ why. omega arith)
    (λ y.
    let b : j < r.table.ntasks = ltb-true j r.table.ntasks y.task in
    omega (arith, waiting_released r.state j k (omega (arith, h.state.waiting, rules.tasks_high))))
event_jobs_of r (Tick mark) h q k l =
    let rules = table_rules r.table h.table (sound_table r q) in
    tick_ind
    (λ (a : Answered Run).
    waiting_at a.run.state k +
    (by_left (λ l. finished_by l k) a.answer + by_left (λ l. cut_by l k) a.answer) +
    if_ticked a.answer ((settle r.table r.state mark).discarded k) ≡
    waiting_at r.state k + release_by k a.answer)
    r
    mark
    (λ why. omega arith)
    (λ y. omega (arith, tick_jobs_of r.table r.state mark rules h.state (sound_state_lem r q) k l))

-- Any events, from a sound run of a table of n tasks: what waited and what was released is finished,
-- cut, discarded, or waits.
pub record SoundOf (n : ℕ) (r : Run) : Type 0 where
  pub tasks : r.table.ntasks ≡ n
  pub shaped : RunShaped r
  pub sound : sound r ≡ true

sound_of_keeps : (n : ℕ) (r : Run) (e : Event) → SoundOf n r → SoundOf n (event_of r e).run
sound_of_keeps n r e h =
    record {
      tasks = ap (λ (t : Table). t.ntasks) (event_table r e) ∙ h.tasks;
      shaped = event_run_shaped r e h.shaped;
      sound = event_keeps r e h.shaped h.sound;
    }

pub jobs_from : (r : Run) (es : List Event) (n : ℕ) → r.table.ntasks ≡ n → RunShaped r → sound r ≡ true →
    sum_below n (waiting_at (after r es).state) +
    (finished_in (answers r es) + cut_in (answers r es)) +
    discarded_in (answers r es) ≡
    sum_below n (waiting_at r.state) + released_in (answers r es)
jobs_from r es n e h q =
    jobs_in the_box (SoundOf n) (sound_of_keeps n) (λ (r : Run). sum_below n (waiting_at r.state)) (by_left any_finished)
    (by_left any_cut) discarded release
    (λ (r : Run) (x : Event) (h : SoundOf n r).
    subst
    (λ m.
    sum_below m (waiting_at (event_of r x).run.state) +
    (by_left any_finished (event_of r x).answer + by_left any_cut (event_of r x).answer) +
    discarded (event_of r x).answer ≡
    sum_below m (waiting_at r.state) + release (event_of r x).answer)
    h.tasks
    (event_jobs r x h.shaped h.sound))
    r
    es
    (record { tasks = e; shaped = h; sound = q })

pub jobs_from_of : (r : Run) (es : List Event) (k : ℕ) → k < r.table.ntasks → RunShaped r → sound r ≡ true →
    waiting_at (after r es).state k + (finished_of k (answers r es) + cut_of k (answers r es)) + discarded_of r es k ≡
    waiting_at r.state k + released_of k (answers r es)
unfolding after_in answers_in over_all discarded_of
jobs_from_of r [] k l h q = omega arith
jobs_from_of r (x ∷ es) k l h q =
    let same = ap (λ (t : Table). t.ntasks) (event_table r x) in
    omega (
      arith,
      event_jobs_of r x h q k l,
      jobs_from_of (event_of r x).run es k (omega arith) (event_run_shaped r x h) (event_keeps r x h q),
    )

-- From a fresh start of a table that keeps the rules, whatever the events.
pub jobs_balance : (t : Table) (es : List Event) → Sized t → table_keeps t ≡ true →
    released_in (answers (fresh_run t) es) ≡
    finished_in (answers (fresh_run t) es) + cut_in (answers (fresh_run t) es) + discarded_in (answers (fresh_run t) es) +
    sum_below t.ntasks (waiting_at (after (fresh_run t) es).state)
jobs_balance t es z e =
    let many = (table_rules t z e).tasks_high in
    omega (
      arith,
      jobs_from (fresh_run t) es t.ntasks refl (fresh_run_shaped t z) (fresh_keeps t z e),
      sum_zero (waiting_at fresh) t.ntasks (λ k l. get_or-replicate {A = ℕ} 64 k 0 0 (omega arith)),
    )

pub jobs_balance_of : (t : Table) (es : List Event) → Sized t → table_keeps t ≡ true → (k : ℕ) → k < t.ntasks →
    released_of k (answers (fresh_run t) es) ≡
    finished_of k (answers (fresh_run t) es) + cut_of k (answers (fresh_run t) es) + discarded_of (fresh_run t) es k +
    waiting_at (after (fresh_run t) es).state k
jobs_balance_of t es z e k l =
    let many = (table_rules t z e).tasks_high in
    omega (
      arith,
      jobs_from_of (fresh_run t) es k l (fresh_run_shaped t z) (fresh_keeps t z e),
      get_or-replicate {A = ℕ} 64 k 0 0 (omega arith),
    )

-- What was discarded task by task is what the answers tell in all, and of a MI or HI task nothing
-- is.
discarded_event : (r : Run) (e : Event) →
    discarded (event_of r e).answer ≡ sum_below r.table.ntasks (discarded_by r e)
unfolding tick_taken
discarded_event r (Release k) =
    release_ind (λ (a : Answered Run). discarded a.answer ≡ 0) r k (λ why. refl) (λ y. refl) ∙
    sym (sum_zero (λ k. 0) r.table.ntasks (λ k l. refl))
discarded_event r (Tick mark) =
    tick_ind
    (λ (a : Answered Run).
    discarded a.answer ≡
    sum_below r.table.ntasks (λ k. if_ticked a.answer ((settle r.table r.state mark).discarded k)))
    r
    mark
    (λ why. sym (sum_zero (λ k. 0) r.table.ntasks (λ k l. refl)))
    (λ y. refl)

pub discarded_by_task : (r : Run) (es : List Event) (n : ℕ) → r.table.ntasks ≡ n →
    discarded_in (answers r es) ≡ sum_below n (discarded_of r es)
unfolding answers_in over_all discarded_of
discarded_by_task r [] n e = sym (sum_zero (discarded_of r []) n (λ k l. refl))
discarded_by_task r (x ∷ es) n e =
    omega (
      arith,
      subst (λ m. discarded (event_of r x).answer ≡ sum_below m (discarded_by r x)) e (discarded_event r x),
      discarded_by_task (event_of r x).run es n (ap (λ (t : Table). t.ntasks) (event_table r x) ∙ e),
      sum_cong (discarded_of r (x ∷ es)) (λ k. discarded_by r x k + discarded_of (event_of r x).run es k) n (λ k l. refl),
      sum_add (discarded_by r x) (discarded_of (event_of r x).run es) n,
    )

pub discards_low : (t : Table) (m : Mode) (s : State) (k : ℕ) → is_low (task_at t k).level ≡ false → discards t m s k ≡ 0
unfolding discards drops
discards_low t m s k e = rw (e, and_no (enters m s.mode))
  where
    and_no : (b : Bool) → (b && false) ≡ false
    and_no true = refl
    and_no false = refl

pub discarded_low : (r : Run) (es : List Event) (k : ℕ) → is_low (task_at r.table k).level ≡ false →
    discarded_of r es k ≡ 0
unfolding discarded_of settle
discarded_low r [] k e = refl
discarded_low r (x ∷ es) k e =
    omega (
      arith,
      now x,
      discarded_low (event_of r x).run es k
          (ap (λ (t : Table). is_low (task_at t k).level) (event_table r x) ∙ e),
    )
  where
    now : (x : Event) → discarded_by r x k ≡ 0
    now (Release j) = refl
    now (Tick mark) =
        tick_ind
        (λ (a : Answered Run). if_ticked a.answer ((settle r.table r.state mark).discarded k) ≡ 0)
        r
        mark
        (λ why. refl)
        (λ y.
        discards_low r.table r.state.mode (step1 r.table r.state mark r.state.last).state k e)

-- So of a MI or HI task every job released is finished, cut or waiting, as the answers alone tell.
pub jobs_balance_kept : (t : Table) (es : List Event) → Sized t → table_keeps t ≡ true → (k : ℕ) → k < t.ntasks →
    is_low (task_at t k).level ≡ false →
    released_of k (answers (fresh_run t) es) ≡
    finished_of k (answers (fresh_run t) es) + cut_of k (answers (fresh_run t) es) +
    waiting_at (after (fresh_run t) es).state k
jobs_balance_kept t es z e k l low =
    omega (arith, jobs_balance_of t es z e k l, discarded_low (fresh_run t) es k low)
