-- The tasks' rows through a tick. Steps 1 to 3 only take jobs away, each counted; after them no job
-- is at its limit, and no LO job waits in D2. Steps 4 to 7 leave the queues alone but for the run
-- count of the job that runs. Assumes nothing.
use Rattle.std.specs.Prelude.{if◌then◌else◌, if◌then◌else◌, None, Option, Some}
use mathlib.Core.Path.{◌≡◌, refl, ap, sym, subst, ◌∙◌}
use mathlib.Core.Bool.{Bool, true, false, not, ◌&&◌}
use mathlib.Core.Logic.{◌⊎◌, inl, inr, ◌↔◌}
use Prim.Native.Nat.{ℕ, ◌+◌, ◌≤◌, ◌<◌}
use native.Mathlib.Omega.{arith}
use lib.ListN.{length}
use borrow.Author.Tests.{eqb-true, lt-ltb, not-true}
use Rattle.std.specs.Cmp.{first_so, second_so}
use Rattle.std.proofs.lemmas.Bool.{and_from}
use Rattle.laws.proofs.Choice.{clash, if_ind}
use Rattle.laws.proofs.Rows.{any_none}
use Rattle.laws.proofs.Anew.{anew_at}
use Rattle.table.specs.declared.Level.TheVariants.{LO}
use Rattle.table.specs.declared.Mode.{Mode}
use Rattle.table.specs.declared.Mode.TheVariants.{D2}
use Rattle.table.specs.declared.Table.{Table}
use Rattle.table.specs.Rows.{task_at, limit_at, is_low, is_d2}
use Rattle.table.proofs.Rows.{d2_exactly, low_exactly}
use Rattle.table.proofs.Rules.{TableRules}
use Rattle.run.specs.declared.State.{State}
use Rattle.run.specs.State.{queues_of, waiting_at, runs_at, task_waits, some_waits, with_mode}
use Rattle.queues.specs.Queues.{is_last}
use Rattle.events.specs.Answers.{ran, finished_by, cut_by}
use Rattle.events.proofs.Answers.{one_here, same_or_not}
use Rattle.queues.proofs.Queues.{set_past, front_gone_lem, front_ran_lem}
use Rattle.queues.proofs.Sound.{JudgedQueue, stays_judged, other_below, within_limit, gone_judged, other_judged}
use Rattle.run.specs.declared.Judged.{Judged}
use Rattle.run.specs.Tick.{Marked, judge, without_front, judged, step1, drops, discards, step2, step3, step4, settle, choose}
use Rattle.run.specs.Tick.{advance, tick_taken}
use Rattle.run.proofs.Shape.{Shaped, alike_shaped, step1_alike, settle_shaped}
use Rattle.run.proofs.Sound.{TaskSound, JobSound, LastSound, StateSound, task_queue}
use Rattle.run.proofs.Judge.{Rises, JudgedRight, judged_right}

-- limits do not fall
pub limits_rise : (t : Table) → TableRules t → (k : ℕ) → k < t.ntasks → Rises (task_at t k).limit
limits_rise t rules k l = record { first = (rules.task k l).rises; next = (rules.task k l).rises_on }

-- "Mark 1: that job leaves, finished"; judged, it stays or is cut. Every other queue is as it was.
judged_waiting : (s : State) (j : ℕ) (v : Judged) (k : ℕ) → j < length s.waiting → 0 < waiting_at s j →
    waiting_at (judged s j v).state k + (finished_by (judged s j v).left k + cut_by (judged s j v).left k)
    ≡ waiting_at s k
judged_waiting s j v k l w =
    if_ind
    (λ (m : Marked). waiting_at m.state k + (finished_by m.left k + cut_by m.left k) ≡ waiting_at s k)
    v.cut
    (λ e. omega (arith, front_gone_lem (queues_of s) j k l w))
    (λ e. omega arith)

pub step1_waiting : (t : Table) (s : State) (mark : Bool) (l : Option ℕ) → t.ntasks ≤ 64 → Shaped s → LastSound t s l →
    (k : ℕ) →
    waiting_at (step1 t s mark l).state k +
    (finished_by (step1 t s mark l).left k + cut_by (step1 t s mark l).left k) ≡
    waiting_at s k
unfolding step1
step1_waiting t s mark None many h q k = omega arith
step1_waiting t s true (Some j) many h q k =
    omega (arith, front_gone_lem (queues_of s) j k (omega (arith, h.waiting, q.below)) q.waits)
step1_waiting t s false (Some j) many h q k =
    judged_waiting s j (judge 3 (task_at t j) (runs_at s j) s.mode) k (omega (arith, h.waiting, q.below)) q.waits

-- a front job that stays has run as many ticks
pub runs_stay : (t : Table) (s : State) (mark : Bool) (l : Option ℕ) (k : ℕ) →
    finished_by (step1 t s mark l).left k + cut_by (step1 t s mark l).left k ≡ 0 →
    runs_at (step1 t s mark l).state k ≡ runs_at s k
unfolding step1
runs_stay t s mark None k = λ e. refl
runs_stay t s true (Some j) k = λ e. set_past s.runs j 0 k (λ q. omega (arith, one_here j k q))
runs_stay t s false (Some j) k =
    if_ind
    (λ (z : Marked). finished_by z.left k + cut_by z.left k ≡ 0 → runs_at z.state k ≡ runs_at s k)
    (judge 3 (task_at t j) (runs_at s j) s.mode).cut
    (λ c e. set_past s.runs j 0 k (λ q. omega (arith, one_here j k q)))
    (λ c e. refl)

-- "On entering D2 every waiting LO job"
pub drops_exactly : (t : Table) (before : Mode) (s : State) (k : ℕ) →
    (drops t before s k ≡ true) ↔ ((s.mode ≡ D2) × (before ≡ D2 → ⊥) × ((task_at t k).level ≡ LO))
unfolding drops
drops_exactly t before s k = (
  λ e.
      let f = first_so (a && b) l e in (
        (d2_exactly s.mode).0 (first_so a b f),
        λ q. clash (is_d2 before) (ap is_d2 q) (not-true (is_d2 before) (second_so a b f)),
        (low_exactly (task_at t k).level).0 (second_so (a && b) l e),
      ),
  λ p. and_from (a && b) l (and_from a b (ap is_d2 p.0) (out p (is_d2 before) refl)) (ap is_low p.2),
)
  where
    a : Bool
    a = is_d2 s.mode

    b : Bool
    b = not (is_d2 before)

    l : Bool
    l = is_low (task_at t k).level

    out : (s.mode ≡ D2) × (before ≡ D2 → ⊥) × ((task_at t k).level ≡ LO) → (d : Bool) → is_d2 before ≡ d →
        not d ≡ true
    out p true e = absurd (p.1 ((d2_exactly before).0 e))
    out p false e = refl

-- Step 2: what is discarded of a task and what still waits are what waited.
pub step2_waiting : (t : Table) (m : Mode) (s : State) → t.ntasks ≤ 64 → Shaped s → (k : ℕ) → k < t.ntasks →
    waiting_at (step2 t m s) k ≡ (if drops t m s k then 0 else waiting_at s k)
unfolding step2
step2_waiting t m s many h k l = anew_at t.ntasks _ s.waiting k 0 l (omega (arith, h.waiting))

pub step2_runs : (t : Table) (m : Mode) (s : State) → t.ntasks ≤ 64 → Shaped s → (k : ℕ) → k < t.ntasks →
    runs_at (step2 t m s) k ≡ (if drops t m s k then 0 else runs_at s k)
unfolding step2
step2_runs t m s many h k l = anew_at t.ntasks _ s.runs k 0 l (omega (arith, h.runs))

pub step2_counted : (t : Table) (m : Mode) (s : State) → t.ntasks ≤ 64 → Shaped s → (k : ℕ) → k < t.ntasks →
    waiting_at (step2 t m s) k + discards t m s k ≡ waiting_at s k
unfolding discards
step2_counted t m s many h k l = rw (step2_waiting t m s many h k l) (go (drops t m s k))
  where
    go : (b : Bool) → (if b then 0 else waiting_at s k) + (if b then waiting_at s k else 0) ≡ waiting_at s k
    go true = omega arith
    go false = omega arith

-- Step 3 changes no queue.
step3_waiting : (t : Table) (s : State) (k : ℕ) → waiting_at (step3 t s) k ≡ waiting_at s k
unfolding step3
step3_waiting t s k = if_ind (λ (z : State). waiting_at z k ≡ waiting_at s k) (some_waits t s) (λ e. refl) (λ e. refl)

pub step3_runs : (t : Table) (s : State) (k : ℕ) → runs_at (step3 t s) k ≡ runs_at s k
unfolding step3
step3_runs t s k = if_ind (λ (z : State). runs_at z k ≡ runs_at s k) (some_waits t s) (λ e. refl) (λ e. refl)

-- A task's row as steps 1 to 3 leave it: no front job at its limit.
abbrev pub JudgedRow : Table → State → ℕ → Type 0
JudgedRow t s k = JudgedQueue (limit_at t s.mode k) (waiting_at s k) (runs_at s k)

-- in a mode in which its limit is no smaller
risen_row : (t : Table) (s : State) (m : Mode) (k : ℕ) → TaskSound t s k →
    (0 < waiting_at s k → runs_at s k < limit_at t m k) → JudgedRow t (with_mode s m) k
risen_row t s m k f b = stays_judged (limit_at t m k) (waiting_at s k) (runs_at s k) true (record { queue = f.queue; none = f.none; front = λ w. inl (b w) }) b

-- in a sound state a task that is not the last-run one is below its limit
below_unless_last : (t : Table) (s : State) (k : ℕ) → TaskSound t s k → (is_last s.last k ≡ true → ⊥) →
    0 < waiting_at s k → runs_at s k < limit_at t s.mode k
below_unless_last t s k f =
    other_below (limit_at t s.mode k) (waiting_at s k) (runs_at s k) (is_last s.last k) (task_queue t s k f)

judged_row : (t : Table) (s : State) (j : ℕ) (v : Judged) → s.last ≡ Some j → TableRules t → Shaped s → j < t.ntasks →
    JudgedRight (task_at t j) (runs_at s j) s.mode v → (k : ℕ) → k < t.ntasks → TaskSound t s k →
    JudgedRow t (judged s j v).state k
judged_row t s j v last rules h below right k l f = go (same_or_not j k)
  where
    up : limit_at t s.mode k ≤ limit_at t v.mode k
    up = right.up (task_at t k).limit (limits_rise t rules k l)

    other : (j ≡ k → ⊥) → JudgedRow t (with_mode s v.mode) k
    other n =
        risen_row t s v.mode k f
        (λ w. omega (arith, up, below_unless_last t s k f (λ e. n (eqb-true j k (rw last at e))) w))

    go : (j ≡ k) ⊎ (j ≡ k → ⊥) → JudgedRow t (judged s j v).state k
    go (inl e) =
        if_ind
        (λ (m : Marked). JudgedRow t m.state k)
        v.cut
        (λ c.
        gone_judged (queues_of s) j k (limit_at t v.mode k)
        (omega (arith, rules.tasks_high, h.waiting))
        (omega (arith, rules.tasks_high, h.runs))
        e
        f.queue
        ((rules.task k l).limit_low v.mode))
        (λ c. risen_row t s v.mode k f (λ w. rw e at (right.stays c)))
    go (inr n) =
        if_ind
        (λ (m : Marked). JudgedRow t m.state k)
        v.cut
        (λ c. other_judged (queues_of s) j k (limit_at t v.mode k) n (other n))
        (λ c. other n)

finished_row : (t : Table) (s : State) (j : ℕ) → s.last ≡ Some j → TableRules t → Shaped s → j < t.ntasks →
    (k : ℕ) → k < t.ntasks → TaskSound t s k → (j ≡ k) ⊎ (j ≡ k → ⊥) → JudgedRow t (without_front s j) k
finished_row t s j last rules h below k l f (inl e) =
    gone_judged (queues_of s) j k (limit_at t s.mode k) (omega (arith, rules.tasks_high, h.waiting))
    (omega (arith, rules.tasks_high, h.runs)) e f.queue ((rules.task k l).limit_low s.mode)
finished_row t s j last rules h below k l f (inr n) =
    other_judged (queues_of s) j k (limit_at t s.mode k) n
    (risen_row t s s.mode k f (below_unless_last t s k f (λ e. n (eqb-true j k (rw last at e)))))

pub step1_row : (t : Table) (s : State) (mark : Bool) (l : Option ℕ) → s.last ≡ l → TableRules t → Shaped s →
    StateSound t s →
    (k : ℕ) → k < t.ntasks → JudgedRow t (step1 t s mark l).state k
unfolding step1
step1_row t s mark None last rules h f k l =
    risen_row t s s.mode k (f.tasks k l)
    (below_unless_last t s k (f.tasks k l) (λ e. clash false (rw last at e) refl))
step1_row t s true (Some j) last rules h f k l =
    finished_row t s j last rules h (subst (LastSound t s) last f.last).below k l (f.tasks k l) (same_or_not j k)
step1_row t s false (Some j) last rules h f k l =
    let q : JobSound t s j = subst (LastSound t s) last f.last in
    judged_row t s j (judge 3 (task_at t j) (runs_at s j) s.mode) last rules h q.below
    (judged_right (task_at t j) (runs_at s j) s.mode (limits_rise t rules j q.below)
    (within_limit (limit_at t s.mode j) (waiting_at s j) (runs_at s j) (is_last s.last j)
    (task_queue t s j (f.tasks j q.below)) q.waits))
    k
    l
    (f.tasks k l)

-- Step 2: the row of a task whose jobs are discarded is empty, any other stays.
step2_row : (t : Table) (m : Mode) (s : State) → t.ntasks ≤ 64 → Shaped s → (k : ℕ) → k < t.ntasks → JudgedRow t s k →
    JudgedRow t (step2 t m s) k
unfolding step2
step2_row t m s many h k l f = go (drops t m s k) (step2_waiting t m s many h k l) (step2_runs t m s many h k l)
  where
    go : (b : Bool) → waiting_at (step2 t m s) k ≡ (if b then 0 else waiting_at s k) →
        runs_at (step2 t m s) k ≡ (if b then 0 else runs_at s k) → JudgedRow t (step2 t m s) k
    go true w c = record { queue = omega arith; none = λ z. c; front = λ z. absurd (omega arith) }
    go false w c =
        record {
          queue = omega (arith, f.queue);
          none = λ z. c ∙ f.none (sym w ∙ z);
          front = λ z. omega (arith, f.front (omega arith));
        }

-- In D2 no LO job waits after it: they were discarded on entering, or there were none.
step2_low : (t : Table) (m : Mode) (s : State) → t.ntasks ≤ 64 → Shaped s → (k : ℕ) → k < t.ntasks →
    (is_d2 m ≡ true → waiting_at s k ≡ 0) → is_d2 s.mode ≡ true → is_low (task_at t k).level ≡ true →
    waiting_at (step2 t m s) k ≡ 0
unfolding drops
step2_low t m s many h k l before d low =
    step2_waiting t m s many h k l ∙ go (is_d2 m) refl
  where
    either : (b : Bool) → waiting_at s k ≡ 0 → (if b then 0 else waiting_at s k) ≡ 0
    either true e = refl
    either false e = e

    go : (b : Bool) → is_d2 m ≡ b → (if drops t m s k then 0 else waiting_at s k) ≡ 0
    go true e = either (drops t m s k) (before e)
    go false e = rw (d, e, low)

pub step2_mode : (t : Table) (m : Mode) (s : State) → (step2 t m s).mode ≡ s.mode
unfolding step2
step2_mode t m s = refl

-- Step 3: where no job waits, no front job has a limit to be below.
step3_row : (t : Table) (s : State) (k : ℕ) → k < t.ntasks → JudgedRow t s k → JudgedRow t (step3 t s) k
unfolding step3 some_waits
step3_row t s k l f =
    if_ind
    (λ (z : State). JudgedRow t z k)
    (some_waits t s)
    (λ e. f)
    (λ e.
    record {
      queue = f.queue;
      none = f.none;
      front =
          λ w. absurd (clash (task_waits s k) (lt-ltb 0 (waiting_at s k) w) (any_none (task_waits s) t.ntasks k e l));
    })

step3_low : (t : Table) (s : State) (k : ℕ) → (is_d2 s.mode ≡ true → waiting_at s k ≡ 0) →
    is_d2 (step3 t s).mode ≡ true → waiting_at (step3 t s) k ≡ 0
unfolding step3
step3_low t s k f =
    if_ind
    (λ (z : State). is_d2 z.mode ≡ true → waiting_at z k ≡ 0)
    (some_waits t s)
    (λ e. f)
    (λ e d. absurd (clash false d refl))

-- Step 4 leaves mode and queues alone, so what step 5 finds of the tasks is what steps 1 to 3 left.
step4_row : (t : Table) (s : State) (k : ℕ) → JudgedRow t s k → JudgedRow t (step4 t s) k
unfolding step4
step4_row t s k f = record { queue = f.queue; none = f.none; front = f.front }

step4_low : (t : Table) (s : State) (k : ℕ) → (is_d2 s.mode ≡ true → waiting_at s k ≡ 0) →
    is_d2 (step4 t s).mode ≡ true → waiting_at (step4 t s) k ≡ 0
unfolding step4
step4_low t s k f = f

module _ (t : Table) (s : State) (mark : Bool) (rules : TableRules t) (h : Shaped s) (f : StateSound t s) where
  pub settled_row : (k : ℕ) → k < t.ntasks → JudgedRow t (settle t s mark).state k
  unfolding settle
  settled_row k l =
      let one = (step1 t s mark s.last).state in
      let two = step2 t s.mode one in
      let h1 = alike_shaped (step1_alike t s mark s.last) h in
      step4_row t (step3 t two) k
      (step3_row t two k l
      (step2_row t s.mode one rules.tasks_high h1 k l (step1_row t s mark s.last refl rules h f k l)))

  pub settled_low : (k : ℕ) → k < t.ntasks → is_d2 (settle t s mark).state.mode ≡ true →
      is_low (task_at t k).level ≡ true → waiting_at (settle t s mark).state k ≡ 0
  unfolding settle
  settled_low k l d low =
      let one = (step1 t s mark s.last).state in
      let two = step2 t s.mode one in
      let h1 = alike_shaped (step1_alike t s mark s.last) h in
      let fewer = step1_waiting t s mark s.last rules.tasks_high h f.last k in
      step4_low t (step3 t two) k
      (step3_low t two k
      (λ e.
      step2_low t s.mode one rules.tasks_high h1 k l (λ b. omega (arith, (f.tasks k l).low b low))
      (sym (ap is_d2 (step2_mode t s.mode one)) ∙ e)
      low))
      d

  -- what waited of a task waits still, left, or was discarded
  pub waiting_settled : (k : ℕ) → k < t.ntasks →
      waiting_at (settle t s mark).state k +
      (finished_by (settle t s mark).left k + cut_by (settle t s mark).left k) +
      (settle t s mark).discarded k ≡
      waiting_at s k
  unfolding settle step4
  waiting_settled k l =
      let one = (step1 t s mark s.last).state in
      let h1 = alike_shaped (step1_alike t s mark s.last) h in
      omega (
        arith,
        step1_waiting t s mark s.last rules.tasks_high h f.last k,
        step2_counted t s.mode one rules.tasks_high h1 k l,
        step3_waiting t (step2 t s.mode one) k,
      )

-- Steps 5 to 7: no queue changes, and the job that runs has run one tick more.
pub waiting_after : (t : Table) (s : State) (mark : Bool) (k : ℕ) →
    waiting_at (tick_taken t s mark).state k ≡ waiting_at (settle t s mark).state k
unfolding tick_taken advance
waiting_after t s mark k = refl

pub runs_after : (t : Table) (s : State) (mark : Bool) → t.ntasks ≤ 64 → Shaped s → (k : ℕ) → k < t.ntasks →
    runs_at (tick_taken t s mark).state k ≡
    runs_at (settle t s mark).state k + ran (choose t (settle t s mark).state) k
unfolding tick_taken advance
runs_after t s mark many h k l =
    front_ran_lem t.ntasks (queues_of (settle t s mark).state) (choose t (settle t s mark).state) k
    (omega (arith, (settle_shaped t s mark h).runs)) l
