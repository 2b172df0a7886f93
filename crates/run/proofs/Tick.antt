-- The laws of one tick, T1 to T6: what it does to a server's counts, who is charged, and whose job
-- runs. In them z is the state that step 5 finds, `(settle t s mark).state`, and the turn is `choose
-- t z`. Each is read off the steps and off the law of the highest row. Assumes nothing.
use Rattle.std.specs.Prelude.{if◌then◌else◌, None, Option, Some}
use mathlib.Core.Path.{◌≡◌, refl, ap, sym, ◌∙◌}
use mathlib.Core.Bool.{Bool, true, false, ◌||◌}
use mathlib.Core.Logic.{◌⊎◌, inl, inr, ◌↔◌}
use Prim.Native.Nat.{ℕ, ◌+◌, ◌≤◌, ◌<◌}
use native.Mathlib.Omega.{arith}
use lib.Dec.{leb, ltb, eqb}
use borrow.Author.Tests.{leb-false, lt-leb, ltb-true, lt-ltb, eqb-true}
use Rattle.std.specs.Cmp.{first_so, second_so}
use Rattle.std.proofs.lemmas.Bool.{and_from, or_left, or_right, or_cases, cases_Bool}
use Rattle.laws.proofs.Choice.{clash, le_or_lt}
use Rattle.laws.proofs.Rows.{any_found, any_at}
use Rattle.laws.proofs.Anew.{anew_at}
use Rattle.laws.proofs.Highest.{highest_at, highest_none}
use Rattle.units.specs.declared.Ticks.{Ticks}
use Rattle.table.specs.declared.Mode.{Mode}
use Rattle.table.specs.declared.Mode.TheVariants.{N, D1, D2}
use Rattle.table.specs.declared.Task.{Task}
use Rattle.table.specs.declared.Table.{Table}
use Rattle.table.specs.Rows.{server_at, task_at, period_at, priority_at, phase_at, capacity_at, task_priority_at, is_timed}
use Rattle.run.specs.declared.State.{State}
use Rattle.events.specs.declared.Turn.{Turn}
use Rattle.events.specs.declared.Turn.TheVariants.{Run as Ran, Empty, Idle}
use Rattle.run.specs.State.{used_at, elapsed_at, started, in_force, passes, owner, task_waits, waits_for, waits}
use Rattle.events.specs.Answers.{one, charged, ran}
use Rattle.events.proofs.Answers.{one_same, one_eq, charged_is}
use Rattle.run.specs.Release.{with_job}
use Rattle.queues.specs.Queues.{last_of}
use Rattle.queues.specs.Queues.{turn_of}
use Rattle.run.specs.Tick.{step4, settle, able, highest_able, highest_task, turn_for, choose}
use Rattle.run.specs.Tick.{advance, tick_taken}
use Rattle.run.proofs.Shape.{Shaped, alike_shaped, step123, step123_alike, settle_is, settle_shaped, settle_counts}

-- T1. The servers' counts: step 4 starts them afresh where the period ended, steps 5 and 7 raise
-- them. Nothing else changes them.
step4_used : (t : Table) (s : State) (i : ℕ) → i < t.nservers → t.nservers ≤ 32 → Shaped s →
    used_at (step4 t s) i ≡ (if eqb (elapsed_at s i) (period_at t i) then 0 else used_at s i)
unfolding step4
step4_used t s i l few h = anew_at t.nservers _ s.used i 0 l (omega (arith, h.used))

step4_elapsed : (t : Table) (s : State) (i : ℕ) → i < t.nservers → t.nservers ≤ 32 → Shaped s →
    elapsed_at (step4 t s) i ≡ (if eqb (elapsed_at s i) (period_at t i) then 0 else elapsed_at s i)
unfolding step4
step4_elapsed t s i l few h = anew_at t.nservers _ s.elapsed i 0 l (omega (arith, h.elapsed))

pub used_settled : (t : Table) (s : State) (mark : Bool) (i : ℕ) → i < t.nservers → t.nservers ≤ 32 → Shaped s →
    used_at (settle t s mark).state i ≡ (if eqb (elapsed_at s i) (period_at t i) then 0 else used_at s i)
used_settled t s mark i l few h =
    let a = step123_alike t s mark in
    rw (settle_is t s mark, step4_used t (step123 t s mark) i l few (alike_shaped a h), a.used, a.elapsed)

pub elapsed_settled : (t : Table) (s : State) (mark : Bool) (i : ℕ) → i < t.nservers → t.nservers ≤ 32 → Shaped s →
    elapsed_at (settle t s mark).state i ≡ (if eqb (elapsed_at s i) (period_at t i) then 0 else elapsed_at s i)
elapsed_settled t s mark i l few h =
    let a = step123_alike t s mark in
    rw (settle_is t s mark, step4_elapsed t (step123 t s mark) i l few (alike_shaped a h), a.elapsed)

pub used_after : (t : Table) (s : State) (mark : Bool) (i : ℕ) → i < t.nservers → t.nservers ≤ 32 → Shaped s →
    used_at (tick_taken t s mark).state i ≡
    used_at (settle t s mark).state i + charged (choose t (settle t s mark).state) i
unfolding tick_taken advance
used_after t s mark i l few h =
    anew_at t.nservers _ (settle t s mark).state.used i 0 l (omega (arith, (settle_shaped t s mark h).used))

pub elapsed_after : (t : Table) (s : State) (mark : Bool) (i : ℕ) → i < t.nservers → t.nservers ≤ 32 → Shaped s →
    elapsed_at (tick_taken t s mark).state i ≡
    elapsed_at (settle t s mark).state i + passes t (settle t s mark).state i
unfolding tick_taken advance
elapsed_after t s mark i l few h =
    anew_at t.nservers _ (settle t s mark).state.elapsed i 0 l (omega (arith, (settle_shaped t s mark h).elapsed))

pub mode_after : (t : Table) (s : State) (mark : Bool) → (tick_taken t s mark).state.mode ≡ (settle t s mark).state.mode
unfolding tick_taken advance
mode_after t s mark = refl

-- "the tick number" rises by 1, and no release is counted
pub ticks_after : (t : Table) (s : State) (mark : Bool) → (tick_taken t s mark).state.ticks.0 ≡ s.ticks.0 + 1
unfolding tick_taken advance
ticks_after t s mark = ap (λ (n : Ticks). n.0 + 1) (settle_counts t s mark).0

-- so a server that has not started after a tick had not before it
pub late_before : (t : Table) (s : State) (mark : Bool) (i : ℕ) → started t (tick_taken t s mark).state i ≡ false →
    started t s i ≡ false
late_before t s mark i e =
    lt-leb
    (phase_at t i)
    s.ticks.0
    (omega (arith, leb-false (phase_at t i) (tick_taken t s mark).state.ticks.0 e, ticks_after t s mark))

-- and step 5 finds it as it was
pub started_settled : (t : Table) (s : State) (mark : Bool) (i : ℕ) →
    started t (settle t s mark).state i ≡ started t s i
started_settled t s mark i = ap (λ (n : Ticks). leb (phase_at t i) n.0) (settle_counts t s mark).0

pub accepted_after : (t : Table) (s : State) (mark : Bool) → (tick_taken t s mark).state.accepted ≡ s.accepted
unfolding tick_taken advance
accepted_after t s mark = (settle_counts t s mark).1

-- the last-run job is the one that this tick ran
pub last_after : (t : Table) (s : State) (mark : Bool) →
    (tick_taken t s mark).state.last ≡ last_of (choose t (settle t s mark).state)
unfolding tick_taken advance
last_after t s mark = refl

-- what the tick says of its mode and its turn is what step 5 found
pub answer_mode : (t : Table) (s : State) (mark : Bool) →
    (tick_taken t s mark).answer.mode ≡ (settle t s mark).state.mode
unfolding tick_taken
answer_mode t s mark = refl

pub answer_tick : (t : Table) (s : State) (mark : Bool) → (tick_taken t s mark).answer.tick ≡ s.ticks
unfolding tick_taken
answer_tick t s mark = refl

pub answer_turn : (t : Table) (s : State) (mark : Bool) →
    (tick_taken t s mark).answer.turn ≡ choose t (settle t s mark).state
unfolding tick_taken
answer_turn t s mark = refl

-- a release changes neither used nor elapsed nor the mode
pub used_released : (s : State) (k i : ℕ) → used_at (with_job s k) i ≡ used_at s i
used_released s k i = refl

pub elapsed_released : (s : State) (k i : ℕ) → elapsed_at (with_job s k) i ≡ elapsed_at s i
elapsed_released s k i = refl

pub mode_released : (s : State) (k : ℕ) → (with_job s k).mode ≡ s.mode
mode_released s k = refl

-- Who is charged is the highest able server.
charged_turn : (j : ℕ) (a : Option ℕ) (i : ℕ) → charged (turn_of j a) i ≡ one j i
charged_turn j (Some k) i = refl
charged_turn j None i = refl

pub highest_charged : (t : Table) (z : State) (j i : ℕ) → highest_able t z ≡ Some j → charged (choose t z) i ≡ one j i
unfolding choose
highest_charged t z j i e = rw e (charged_turn j (highest_task t z j) i)

pub none_charged : (t : Table) (z : State) (i : ℕ) → highest_able t z ≡ None → charged (choose t z) i ≡ 0
unfolding choose
none_charged t z i e = rw e

pub charged_highest : (t : Table) (z : State) (i : ℕ) → charged (choose t z) i ≡ 1 → highest_able t z ≡ Some i
charged_highest t z i c = go (highest_able t z) refl
  where
    go : (a : Option ℕ) → highest_able t z ≡ a → highest_able t z ≡ Some i
    go (Some j) e = e ∙ ap Some (one_eq j i (sym (highest_charged t z j i e) ∙ c))
    go None e = absurd (omega (arith, none_charged t z i e))

-- T2
pub charged_able : (t : Table) (z : State) (i : ℕ) → charged (choose t z) i ≡ 1 →
    (i < t.nservers) × (able t z i ≡ true)
unfolding highest_able
charged_able t z i c =
    let h = highest_at (able t z) (priority_at t) t.nservers i (charged_highest t z i c) in
    (h.below, h.is)

-- T3
pub able_charged : (t : Table) (z : State) (i : ℕ) → i < t.nservers → able t z i ≡ true →
    ((a b : ℕ) → a < t.nservers → b < t.nservers → priority_at t a ≡ priority_at t b → a ≡ b) →
    (charged (choose t z) i ≡ 1) ⊎
    ((j : ℕ) × (j < t.nservers) × (priority_at t i < priority_at t j) × (charged (choose t z) j ≡ 1))
unfolding highest_able
able_charged t z i l a d = go (highest_able t z) refl
  where
    by : (j : ℕ) → highest_able t z ≡ Some j → j < t.nservers → priority_at t i ≤ priority_at t j →
        (priority_at t j ≤ priority_at t i) ⊎ (priority_at t i < priority_at t j) →
        (charged (choose t z) i ≡ 1) ⊎
        ((j : ℕ) × (j < t.nservers) × (priority_at t i < priority_at t j) × (charged (choose t z) j ≡ 1))
    by j e m p (inl q) =
        let same : i ≡ j = d i j l m (omega arith) in
        inl (highest_charged t z j i e ∙ rw same (one_same j))
    by j e m p (inr q) = inr (j, m, q, highest_charged t z j j e ∙ one_same j)

    go : (f : Option ℕ) → highest_able t z ≡ f →
        (charged (choose t z) i ≡ 1) ⊎
        ((j : ℕ) × (j < t.nservers) × (priority_at t i < priority_at t j) × (charged (choose t z) j ≡ 1))
    go (Some j) e =
        let h = highest_at (able t z) (priority_at t) t.nservers j e in
        by j e h.below (h.top i l a) (le_or_lt (priority_at t j) (priority_at t i))
    go None e =
        absurd (clash (able t z i) a (highest_none (able t z) (priority_at t) t.nservers e i l))

-- T4
pub timed_able : (t : Table) (z : State) (i : ℕ) → is_timed (server_at t i).kind ≡ true →
    used_at z i < in_force t z i → able t z i ≡ true
unfolding able
timed_able t z i k u =
    and_from
    (ltb (used_at z i) (in_force t z i))
    (is_timed (server_at t i).kind || waits t z i)
    (lt-ltb (used_at z i) (in_force t z i) u)
    (or_left (is_timed (server_at t i).kind) (waits t z i) k)

pub waiting_able : (t : Table) (z : State) (i : ℕ) → waits t z i ≡ true → used_at z i < in_force t z i →
    able t z i ≡ true
unfolding able
waiting_able t z i w u =
    and_from
    (ltb (used_at z i) (in_force t z i))
    (is_timed (server_at t i).kind || waits t z i)
    (lt-ltb (used_at z i) (in_force t z i) u)
    (or_right (is_timed (server_at t i).kind) (waits t z i) w)

pub able_room : (t : Table) (z : State) (i : ℕ) → able t z i ≡ true → used_at z i < in_force t z i
unfolding able
able_room t z i a =
    ltb-true
    (used_at z i)
    (in_force t z i)
    (first_so
    (ltb (used_at z i) (in_force t z i))
    (is_timed (server_at t i).kind || waits t z i)
    a)

-- 02, No. 7. A server that has started has the capacity of its mode and a tick of its period passes;
-- one that has not has neither.
pub force_started : (t : Table) (z : State) (i : ℕ) → started t z i ≡ true → in_force t z i ≡ capacity_at t z.mode i
unfolding in_force
force_started t z i e = rw e

pub force_late : (t : Table) (z : State) (i : ℕ) → started t z i ≡ false → in_force t z i ≡ 0
unfolding in_force
force_late t z i e = rw e

pub force_low : (t : Table) (z : State) (i : ℕ) → in_force t z i ≤ capacity_at t z.mode i
force_low t z i =
    elim (cases_Bool (started t z i)) [
      | inl e ↦ omega (arith, force_started t z i e)
      | inr e ↦ omega (arith, force_late t z i e)
    ]

-- so an able server has started
pub able_started : (t : Table) (z : State) (i : ℕ) → able t z i ≡ true → started t z i ≡ true
able_started t z i a =
    elim (cases_Bool (started t z i)) [
      | inl e ↦ e
      | inr e ↦ absurd (omega (arith, able_room t z i a, force_late t z i e))
    ]

-- and of a period passes at least what is charged in it, and at most a tick
pub charged_passes : (t : Table) (z : State) (i : ℕ) → charged (choose t z) i ≤ passes t z i
charged_passes t z i =
    elim (charged_is (choose t z) i) [
      | inl c ↦ omega arith
      | inr c ↦ rw (c, able_started t z i (charged_able t z i c).1) (omega arith)
    ]

pub passes_most : (t : Table) (z : State) (i : ℕ) → passes t z i ≤ 1
passes_most t z i = go (started t z i)
  where
    go : (b : Bool) → (if b then 1 else 0) ≤ 1
    go true = omega arith
    go false = omega arith

pub passes_late : (t : Table) (z : State) (i : ℕ) → started t z i ≡ false → passes t z i ≡ 0
passes_late t z i e = rw e

pub able_cause : (t : Table) (z : State) (i : ℕ) → able t z i ≡ true →
    (is_timed (server_at t i).kind ≡ true) ⊎ (waits t z i ≡ true)
unfolding able
able_cause t z i a =
    or_cases
    (is_timed (server_at t i).kind)
    (waits t z i)
    (second_so
    (ltb (used_at z i) (in_force t z i))
    (is_timed (server_at t i).kind || waits t z i)
    a)

-- T6. Server i is charged and runs the front job of its highest task with a waiting job, task k.
pub record RunsFront (t : Table) (z : State) (i k : ℕ) : Type 0 where
  pub found : highest_task t z i ≡ Some k
  pub turn : choose t z ≡ Ran i k
  pub ran : ran (choose t z) k ≡ 1
  pub below : k < t.ntasks
  pub waits : task_waits z k ≡ true
  pub belongs : owner z.mode (task_at t k) ≡ i
  pub top : (j : ℕ) → j < t.ntasks → waits_for t z i j ≡ true → task_priority_at t j ≤ task_priority_at t k

pub found_front : (t : Table) (z : State) (i k : ℕ) → charged (choose t z) i ≡ 1 → highest_task t z i ≡ Some k →
    RunsFront t z i k
unfolding highest_task choose
found_front t z i k c e =
    let h = highest_at (waits_for t z i) (task_priority_at t) t.ntasks k e in
    let w : Bool = task_waits z k in
    let o : Bool = eqb (owner z.mode (task_at t k)) i in
    let says : choose t z ≡ Ran i k = rw (charged_highest t z i c, e) in
    record {
      found = e;
      turn = says;
      ran = ap (λ u. ran u k) says ∙ one_same k;
      below = h.below;
      waits = first_so w o h.is;
      belongs = eqb-true (owner z.mode (task_at t k)) i (second_so w o h.is);
      top = h.top;
    }

pub charged_runs : (t : Table) (z : State) (i : ℕ) → charged (choose t z) i ≡ 1 → waits t z i ≡ true →
    (k : ℕ) × RunsFront t z i k
unfolding waits highest_task
charged_runs t z i c w = go (highest_task t z i) refl
  where
    go : (a : Option ℕ) → highest_task t z i ≡ a → (k : ℕ) × RunsFront t z i k
    go (Some k) e = (k, found_front t z i k c e)
    go None e =
        let f = any_found (waits_for t z i) t.ntasks w in
        absurd
        (clash
        (waits_for t z i f.0)
        f.2
        (highest_none (waits_for t z i) (task_priority_at t) t.ntasks e f.0 f.1))

-- whose job runs is that task of the server charged
pub ran_front : (t : Table) (z : State) (k : ℕ) → ran (choose t z) k ≡ 1 → (i : ℕ) × RunsFront t z i k
unfolding choose
ran_front t z k r = go (highest_able t z) refl
  where
    task : (i : ℕ) → highest_able t z ≡ Some i → (a : Option ℕ) → highest_task t z i ≡ a → (i : ℕ) × RunsFront t z i k
    task i e (Some j) q =
        let says : choose t z ≡ Ran i j = rw (e, q) in
        let same : j ≡ k = one_eq j k (sym (ap (λ u. ran u k) says) ∙ r) in
        (i, found_front t z i k (highest_charged t z i i e ∙ one_same i) (q ∙ ap Some same))
    task i e None q =
        let says : choose t z ≡ Empty i = rw (e, q) in
        absurd (omega (arith, ap (λ u. ran u k) says, r))

    go : (a : Option ℕ) → highest_able t z ≡ a → (i : ℕ) × RunsFront t z i k
    go (Some i) e = task i e (highest_task t z i) refl
    go None e =
        let says : choose t z ≡ Idle = rw e in
        absurd (omega (arith, ap (λ u. ran u k) says, r))

pub charged_empty : (t : Table) (z : State) (i : ℕ) → charged (choose t z) i ≡ 1 → waits t z i ≡ false →
    (choose t z ≡ Empty i) × (is_timed (server_at t i).kind ≡ true)
unfolding waits highest_task choose
charged_empty t z i c n = (go (highest_task t z i) refl, kind (able_cause t z i (charged_able t z i c).1))
  where
    go : (a : Option ℕ) → highest_task t z i ≡ a → choose t z ≡ Empty i
    go (Some k) e =
        let h = highest_at (waits_for t z i) (task_priority_at t) t.ntasks k e in
        absurd (clash (waits t z i) (any_at (waits_for t z i) t.ntasks k h.below h.is) n)
    go None e = rw (charged_highest t z i c, e)

    kind : (is_timed (server_at t i).kind ≡ true) ⊎ (waits t z i ≡ true) → is_timed (server_at t i).kind ≡ true
    kind (inl k) = k
    kind (inr w) = absurd (clash (waits t z i) w n)

-- What a tick says, by the highest able server and its highest task with a waiting job.
pub turn_run : (f : ℕ → Option ℕ) (a : Option ℕ) (i k : ℕ) → turn_for f a ≡ Ran i k → (a ≡ Some i) × (f i ≡ Some k)
turn_run f None i k e = let z : ◌≡◌ {A = ℕ} 0 1 = cc in absurd (omega arith)
turn_run f (Some j) i k e = go (f j) refl e
  where
    go : (b : Option ℕ) → f j ≡ b → turn_of j b ≡ Ran i k → (Some j ≡ Some i) × (f i ≡ Some k)
    go (Some m) q d = let p : j ≡ i = cc in let o : m ≡ k = cc in (ap Some p, rw (← p) (q ∙ ap Some o))
    go None q d = let z : ◌≡◌ {A = ℕ} 0 1 = cc in absurd (omega arith)

pub turn_empty : (f : ℕ → Option ℕ) (a : Option ℕ) (i : ℕ) → turn_for f a ≡ Empty i → (a ≡ Some i) × (f i ≡ None)
turn_empty f None i e = let z : ◌≡◌ {A = ℕ} 0 1 = cc in absurd (omega arith)
turn_empty f (Some j) i e = go (f j) refl e
  where
    go : (b : Option ℕ) → f j ≡ b → turn_of j b ≡ Empty i → (Some j ≡ Some i) × (f i ≡ None)
    go (Some m) q d = let z : ◌≡◌ {A = ℕ} 0 1 = cc in absurd (omega arith)
    go None q d = let p : j ≡ i = cc in (ap Some p, rw (← p) q)

pub turn_idle : (f : ℕ → Option ℕ) (a : Option ℕ) → turn_for f a ≡ Idle → a ≡ None
turn_idle f None e = refl
turn_idle f (Some j) e = go (f j) e
  where
    go : (b : Option ℕ) → turn_of j b ≡ Idle → Some j ≡ None
    go (Some m) d = let z : ◌≡◌ {A = ℕ} 0 1 = cc in absurd (omega arith)
    go None d = let z : ◌≡◌ {A = ℕ} 0 1 = cc in absurd (omega arith)

pub turn_last : (u : Turn) (k : ℕ) → (last_of u ≡ Some k) ↔ ((i : ℕ) × (u ≡ Ran i k))
turn_last u k = (to u, λ p. ap last_of p.1)
  where
    to : (u : Turn) → last_of u ≡ Some k → (i : ℕ) × (u ≡ Ran i k)
    to (Ran i j) e = let q : j ≡ k = cc in (i, ap (Ran i) q)
    to (Empty i) e = let z : ◌≡◌ {A = ℕ} 0 1 = cc in absurd (omega arith)
    to Idle e = let z : ◌≡◌ {A = ℕ} 0 1 = cc in absurd (omega arith)

-- "In N a task belongs to its home, else to its degraded server."
pub owner_exactly : (m : Mode) (k : Task) (i : ℕ) →
    (owner m k ≡ i) ↔ ((m ≡ N → k.home ≡ i) × ((m ≡ N → ⊥) → k.degraded ≡ i))
owner_exactly N k i = (λ e. (λ q. e, λ n. absurd (n refl)), λ p. p.0 refl)
owner_exactly D1 k i = (λ e. (λ q. let z : ◌≡◌ {A = ℕ} 0 1 = cc in absurd (omega arith), λ n. e), λ p. p.1 (λ q. let z : ◌≡◌ {A = ℕ} 0 1 = cc in omega arith))
owner_exactly D2 k i = (λ e. (λ q. let z : ◌≡◌ {A = ℕ} 0 1 = cc in absurd (omega arith), λ n. e), λ p. p.1 (λ q. let z : ◌≡◌ {A = ℕ} 0 1 = cc in omega arith))
