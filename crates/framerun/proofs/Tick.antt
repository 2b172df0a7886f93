-- One tick of a frame box: what the mark leaves of the queues, whose slot it is, and whose job runs.
-- The queues' part is crate queues'. Assumes nothing.
use Rattle.std.proofs.Common.{None, Option, Some}
use mathlib.Core.Path.{◌≡◌, refl, ap, ◌∙◌}
use mathlib.Core.Bool.{Bool, true, false, ◌&&◌}
use mathlib.Core.Logic.{◌⊎◌, inl, inr, ◌↔◌}
use Prim.Native.Nat.{ℕ, ◌+◌, ◌≤◌, ◌<◌}
use native.Mathlib.Omega.{arith}
use lib.Dec.{eqb}
use lib.ListN.{length, length-set}
use borrow.Author.Tests.{ltb-true, lt-ltb, eqb-true, eq-eqb, eqb-false}
use Rattle.std.specs.Cmp.{first_so, second_so}
use Rattle.std.proofs.lemmas.Bool.{and_from}
use Rattle.laws.proofs.Choice.{clash, if_ind}
use Rattle.laws.proofs.Highest.{highest_at, highest_none}
use Rattle.slots.specs.Frame.{owner_at}
use Rattle.events.specs.Answers.{ran, charged, finished_by, cut_by}
use Rattle.events.proofs.Answers.{one_same, one_eq, same_or_not}
use Rattle.queues.specs.Queues.{waits_in, turn_of, is_last}
use Rattle.queues.proofs.Queues.{front_gone_lem, front_ran_lem}
use Rattle.queues.proofs.Sound.{LastSound, JobSound, JudgedQueue, stays_judged, other_below, within_limit, gone_judged}
use Rattle.queues.proofs.Sound.{other_judged}
use Rattle.frametable.specs.declared.FrameTable.{FrameTable}
use Rattle.frametable.specs.Rows.{partition_at, frame_priority_at, frame_limit_at}
use Rattle.frametable.proofs.Rules.{FrameTableRules}
use Rattle.framerun.specs.declared.FrameState.{FrameState}
use Rattle.framerun.specs.State.{queues_of, waiting_at, runs_at}
use Rattle.framerun.specs.Tick.{Settled, without_front, settle, highest_task, turn_at, advance, tick_taken}
use Rattle.framerun.proofs.Sound.{StateSound}

-- the arrays of a state are lists here: they have 64 rows
pub record Shaped (s : FrameState) : Type 0 where
  pub waiting : length s.waiting ≡ 64
  pub runs : length s.runs ≡ 64

-- The mark changes the queues alone, and keeps their lengths.
pub record Alike (s z : FrameState) : Type 0 where
  pub last : z.last ≡ s.last
  pub ticks : z.ticks ≡ s.ticks
  pub accepted : z.accepted ≡ s.accepted
  pub waiting : length z.waiting ≡ length s.waiting
  pub runs : length z.runs ≡ length s.runs

alike : (s : FrameState) → Alike s s
alike s = record { last = refl; ticks = refl; accepted = refl; waiting = refl; runs = refl }

gone_alike : (s : FrameState) (k : ℕ) → Alike s (without_front s k)
gone_alike s k =
    record {
      last = refl;
      ticks = refl;
      accepted = refl;
      waiting = length-set s.waiting k _;
      runs = length-set s.runs k _;
    }

pub settle_alike : (t : FrameTable) (s : FrameState) (mark : Bool) (l : Option ℕ) → Alike s (settle t s mark l).state
unfolding settle
settle_alike t s mark None = alike s
settle_alike t s true (Some k) = gone_alike s k
settle_alike t s false (Some k) =
    if_ind (λ (z : Settled). Alike s z.state) (eqb (runs_at s k) (frame_limit_at t k)) (λ e. gone_alike s k) (λ e. alike s)

-- What waited of a task waits still, or left.
pub settle_waiting : (t : FrameTable) (s : FrameState) (mark : Bool) (l : Option ℕ) → t.ntasks ≤ 64 → Shaped s →
    LastSound t.ntasks (queues_of s) s.ticks.0 l → (k : ℕ) →
    waiting_at (settle t s mark l).state k +
    (finished_by (settle t s mark l).left k + cut_by (settle t s mark l).left k)
    ≡ waiting_at s k
unfolding settle
settle_waiting t s mark None many h q k = omega arith
settle_waiting t s true (Some j) many h q k =
    omega (arith, front_gone_lem (queues_of s) j k (omega (arith, h.waiting, q.below)) q.waits)
settle_waiting t s false (Some j) many h q k =
    if_ind
    (λ (z : Settled). waiting_at z.state k + (finished_by z.left k + cut_by z.left k) ≡ waiting_at s k)
    (eqb (runs_at s j) (frame_limit_at t j))
    (λ e. omega (arith, front_gone_lem (queues_of s) j k (omega (arith, h.waiting, q.below)) q.waits))
    (λ e. omega arith)

-- A task's row as the mark leaves it: no front job at its limit.
abbrev pub JudgedRow : FrameTable → FrameState → ℕ → Type 0
JudgedRow t s k = JudgedQueue (frame_limit_at t k) (waiting_at s k) (runs_at s k)

module _ (t : FrameTable) (s : FrameState) (rules : FrameTableRules t) (h : Shaped s) (f : StateSound t s) where
  -- a task that is not the last-run one is below its limit
  other_stays : (k : ℕ) → k < t.ntasks → (is_last s.last k ≡ true → ⊥) → JudgedRow t s k
  other_stays k l n =
      stays_judged (frame_limit_at t k) (waiting_at s k) (runs_at s k) (is_last s.last k) (f.tasks k l)
      (other_below (frame_limit_at t k) (waiting_at s k) (runs_at s k) (is_last s.last k) (f.tasks k l) n)

  -- the row of task k, where the front job of task j leaves
  gone_row : (j k : ℕ) → s.last ≡ Some j → j < t.ntasks → k < t.ntasks → (j ≡ k) ⊎ (j ≡ k → ⊥) →
      JudgedRow t (without_front s j) k
  gone_row j k e b l (inl q) =
      gone_judged (queues_of s) j k (frame_limit_at t k) (omega (arith, rules.tasks_high, h.waiting))
      (omega (arith, rules.tasks_high, h.runs)) q (f.tasks k l).queue (rules.task k l).limit_low
  gone_row j k e b l (inr n) =
      other_judged (queues_of s) j k (frame_limit_at t k) n (other_stays k l (λ p. n (eqb-true j k (rw e at p))))

  -- the row of task k, where the last-run job, of task j, is not at its limit
  stay_row : (j k : ℕ) → s.last ≡ Some j → JobSound t.ntasks (queues_of s) s.ticks.0 j → k < t.ntasks →
      eqb (runs_at s j) (frame_limit_at t j) ≡ false → (j ≡ k) ⊎ (j ≡ k → ⊥) → JudgedRow t s k
  stay_row j k e b l n (inl q) =
      stays_judged (frame_limit_at t k) (waiting_at s k) (runs_at s k) (is_last s.last k) (f.tasks k l)
      (λ w.
      let high = within_limit (frame_limit_at t k) (waiting_at s k) (runs_at s k) (is_last s.last k) (f.tasks k l) w in
      let apart : runs_at s k ≡ frame_limit_at t k → ⊥ = λ p. eqb-false (runs_at s j) (frame_limit_at t j) n (rw q p) in
      below (runs_at s k) (frame_limit_at t k) high apart)
    where
      below : (a b : ℕ) → a ≤ b → (a ≡ b → ⊥) → a < b
      below a b p q = omega arith
  stay_row j k e b l n (inr m) = other_stays k l (λ p. m (eqb-true j k (rw e at p)))

  pub settled_row : (mark : Bool) (last : Option ℕ) → s.last ≡ last →
      LastSound t.ntasks (queues_of s) s.ticks.0 last → (k : ℕ) → k < t.ntasks →
      JudgedRow t (settle t s mark last).state k
  unfolding settle
  settled_row mark None e q k l = other_stays k l (λ p. clash false (rw e at p) refl)
  settled_row true (Some j) e q k l = gone_row j k e q.below l (same_or_not j k)
  settled_row false (Some j) e q k l =
      if_ind
      (λ (z : Settled). JudgedRow t z.state k)
      (eqb (runs_at s j) (frame_limit_at t j))
      (λ c. gone_row j k e q.below l (same_or_not j k))
      (λ c. stay_row j k e q l c (same_or_not j k))

-- Whose slot the tick is, and whose job runs.
pub charged_owner : (t : FrameTable) (s : FrameState) (p : ℕ) →
    (charged (turn_at t s) p ≡ 1) ↔ (owner_at s.ticks.0 ≡ p)
unfolding turn_at
charged_owner t s p = go (highest_task t s (owner_at s.ticks.0))
  where
    go : (a : Option ℕ) → (charged (turn_of (owner_at s.ticks.0) a) p ≡ 1) ↔ (owner_at s.ticks.0 ≡ p)
    go (Some k) = (one_eq (owner_at s.ticks.0) p, λ e. rw e (one_same p))
    go None = (one_eq (owner_at s.ticks.0) p, λ e. rw e (one_same p))

-- The front job of task k runs: k is a task of the slot's partition with a waiting job, and no such
-- task stands above it.
pub record RunsFront (t : FrameTable) (s : FrameState) (k : ℕ) : Type 0 where
  pub found : highest_task t s (owner_at s.ticks.0) ≡ Some k
  pub below : k < t.ntasks
  pub waits : 0 < waiting_at s k
  pub belongs : partition_at t k ≡ owner_at s.ticks.0
  pub top : (j : ℕ) → j < t.ntasks → 0 < waiting_at s j → partition_at t j ≡ owner_at s.ticks.0 →
      frame_priority_at t j ≤ frame_priority_at t k

pub found_front : (t : FrameTable) (s : FrameState) (k : ℕ) → highest_task t s (owner_at s.ticks.0) ≡ Some k →
    RunsFront t s k
unfolding highest_task
found_front t s k e =
    let p = owner_at s.ticks.0 in
    let marked : ℕ → Bool = λ j. waits_in (queues_of s) j && eqb (partition_at t j) p in
    let h = highest_at marked (frame_priority_at t) t.ntasks k e in
    record {
      found = e;
      below = h.below;
      waits = ltb-true 0 (waiting_at s k) (first_so (waits_in (queues_of s) k) (eqb (partition_at t k) p) h.is);
      belongs = eqb-true (partition_at t k) p (second_so (waits_in (queues_of s) k) (eqb (partition_at t k) p) h.is);
      top =
          λ j l w o.
          h.top j l
          (and_from (waits_in (queues_of s) j) (eqb (partition_at t j) p) (lt-ltb 0 (waiting_at s j) w)
          (eq-eqb (partition_at t j) p o));
    }

-- a partition without a waiting job has no such task, and the other way round
pub none_waits : (t : FrameTable) (s : FrameState) (p : ℕ) → highest_task t s p ≡ None → (k : ℕ) → k < t.ntasks →
    partition_at t k ≡ p → 0 < waiting_at s k → ⊥
unfolding highest_task
none_waits t s p e k l o w =
    let marked : ℕ → Bool = λ j. waits_in (queues_of s) j && eqb (partition_at t j) p in
    clash (marked k)
    (and_from (waits_in (queues_of s) k) (eqb (partition_at t k) p) (lt-ltb 0 (waiting_at s k) w) (eq-eqb (partition_at t k) p o))
    (highest_none marked (frame_priority_at t) t.ntasks e k l)

pub ran_front : (t : FrameTable) (s : FrameState) (k : ℕ) → ran (turn_at t s) k ≡ 1 → RunsFront t s k
unfolding turn_at
ran_front t s k = go (highest_task t s (owner_at s.ticks.0)) refl
  where
    go : (a : Option ℕ) → highest_task t s (owner_at s.ticks.0) ≡ a →
        ran (turn_of (owner_at s.ticks.0) a) k ≡ 1 → RunsFront t s k
    go (Some j) e r = found_front t s k (e ∙ ap Some (one_eq j k r))
    go None e r = absurd (omega arith)

-- What the tick leaves of the counts.
pub waiting_after : (t : FrameTable) (s : FrameState) (mark : Bool) (k : ℕ) →
    waiting_at (tick_taken t s mark).state k ≡ waiting_at (settle t s mark s.last).state k
unfolding tick_taken advance
waiting_after t s mark k = refl

pub runs_after : (t : FrameTable) (s : FrameState) (mark : Bool) → t.ntasks ≤ 64 → Shaped s → (k : ℕ) →
    k < t.ntasks →
    runs_at (tick_taken t s mark).state k
    ≡ runs_at (settle t s mark s.last).state k + ran (turn_at t (settle t s mark s.last).state) k
unfolding tick_taken advance
runs_after t s mark many h k l =
    let z = (settle t s mark s.last).state in
    front_ran_lem t.ntasks (queues_of z) (turn_at t z) k
    (omega (arith, (settle_alike t s mark s.last).runs, h.runs)) l

pub ticks_after : (t : FrameTable) (s : FrameState) (mark : Bool) → (tick_taken t s mark).state.ticks.0 ≡ s.ticks.0 + 1
unfolding tick_taken advance
ticks_after t s mark = rw (settle_alike t s mark s.last).ticks
