-- 2, "a number or row count out of bounds", as inequalities. "These bounds are compared in
-- microseconds", and a limit that is rounded up to a tick is from 1 to 100,000 ticks exactly if it
-- is from 1 microsecond to 100,000 ticks. The place of a test is the field it is about. Assumes
-- nothing.
use mathlib.Core.Path.{◌≡◌, refl, sym, ◌∙◌}
use mathlib.Core.Bool.{Bool, true, false}
use mathlib.Core.List.{List, [], ◌∷◌}
use mathlib.Core.Logic.{◌↔◌}
use Prim.Native.Nat.{ℕ, ◌+◌, ◌*◌, ◌≤◌, ◌<◌}
use native.Mathlib.Omega.{arith}
use native.Mathlib.Nat.{mul-le-mul_left, mul-le-mul_right}
use borrow.Author.Tests.{ltb-true, lt-ltb, leb-true, le-leb}
use Rattle.laws.specs.Choice.{every, within}
use Rattle.laws.specs.RoundUp.{up}
use Rattle.std.proofs.lemmas.Bool.{and_from}
use Rattle.laws.proofs.Choice.{every_at, within_low, within_high, is_within}
use Rattle.laws.proofs.RoundUp.{up_le, le_up, lt_up}
use Rattle.units.specs.declared.Micros.{Micros}
use Rattle.table.specs.Rows.{Rows}
use Rattle.text.specs.declared.ServerLine.{ServerLine}
use Rattle.text.specs.declared.TaskLine.{TaskLine}
use Rattle.text.specs.declared.Line.TheVariants.{OfTick}
use Rattle.text.specs.Standing.{phase_said, server_bounds, task_bounds, bounds}

-- every test of a list holds if each does
infixr 5 ◌also◌
data Hold : List Bool → Type 0 where
  none : Hold []
  ◌also◌ : {b : Bool} {bs : List Bool} → b ≡ true → Hold bs → Hold (b ∷ bs)

all_hold : {bs : List Bool} → Hold bs → every bs ≡ true
unfolding every
all_hold none = refl
all_hold (◌also◌ {b} {bs} e p) = and_from b (every bs) e (all_hold p)

-- a `tick` line
pub tick_within : (a : Rows) (u : Micros) → every (bounds a (OfTick u)) ≡ true → (1 ≤ u.0) × (u.0 ≤ 10000)
unfolding bounds
tick_within a u e =
    let b = every_at (bounds a (OfTick u)) e 1 in
    (within_low 1 10000 u.0 b, within_high 1 10000 u.0 b)

pub within_tick : (a : Rows) (u : Micros) → 1 ≤ u.0 → u.0 ≤ 10000 → every (bounds a (OfTick u)) ≡ true
unfolding bounds
within_tick a u l h = all_hold (refl also is_within 1 10000 u.0 l h also none)

pub tick_bounds_exactly : (a : Rows) (u : Micros) →
    (every (bounds a (OfTick u)) ≡ true) ↔ ((1 ≤ u.0) × (u.0 ≤ 10000))
tick_bounds_exactly a u = (tick_within a u, λ p. within_tick a u p.0 p.1)

-- a server's line below `rows` others, in a table whose tick is t microseconds
pub record ServerWithin (rows t : ℕ) (s : ServerLine) : Type 0 where
  pub room : rows < 32
  pub partition : s.partition ≤ 15
  pub priority_low : 1 ≤ s.priority
  pub priority_high : s.priority ≤ 255
  pub period_low : t ≤ s.period.0
  pub period_high : s.period.0 ≤ 1000000 * t
  pub n : s.capacity.n.0 ≤ s.period.0
  pub d1 : s.capacity.d1.0 ≤ s.period.0
  pub d2 : s.capacity.d2.0 ≤ s.period.0
  pub phase : (phase_said s.phase).0 + t ≤ s.period.0

pub server_within : (rows t : ℕ) (s : ServerLine) → every (server_bounds rows t s) ≡ true → ServerWithin rows t s
unfolding server_bounds
server_within rows t s e =
    let b = every_at (server_bounds rows t s) e in
    record {
      room = ltb-true rows 32 (b 0);
      partition = within_high 0 15 s.partition (b 1);
      priority_low = within_low 1 255 s.priority (b 3);
      priority_high = within_high 1 255 s.priority (b 3);
      period_low = within_low t (1000000 * t) s.period.0 (b 4);
      period_high = within_high t (1000000 * t) s.period.0 (b 4);
      n = leb-true s.capacity.n.0 s.period.0 (b 5);
      d1 = leb-true s.capacity.d1.0 s.period.0 (b 6);
      d2 = leb-true s.capacity.d2.0 s.period.0 (b 7);
      phase = leb-true ((phase_said s.phase).0 + t) s.period.0 (b 8);
    }

pub within_server : (rows t : ℕ) (s : ServerLine) → ServerWithin rows t s → every (server_bounds rows t s) ≡ true
unfolding server_bounds
within_server rows t s w =
    all_hold
    (lt-ltb rows 32 w.room
    also is_within 0 15 s.partition (omega arith) w.partition
    also refl
    also is_within 1 255 s.priority w.priority_low w.priority_high
    also is_within t (1000000 * t) s.period.0 w.period_low w.period_high
    also le-leb s.capacity.n.0 s.period.0 w.n
    also le-leb s.capacity.d1.0 s.period.0 w.d1
    also le-leb s.capacity.d2.0 s.period.0 w.d2
    also le-leb ((phase_said s.phase).0 + t) s.period.0 w.phase
    also none)

pub server_bounds_exactly : (rows t : ℕ) (s : ServerLine) →
    (every (server_bounds rows t s) ≡ true) ↔ ServerWithin rows t s
server_bounds_exactly rows t s = (server_within rows t s, within_server rows t s)

-- a limit, rounded up
limit_low : (t u : ℕ) → 0 < t → 1 ≤ up u t → 1 ≤ u
limit_low t u h w = omega (arith, up_le u t u h (omega (arith, mul-le-mul_left u h)))

limit_high : (t u : ℕ) → 0 < t → up u t ≤ 100000 → u ≤ 100000 * t
limit_high t u h w = omega (arith, le_up u t h, mul-le-mul_right {m = up u t} {n = 100000} t w)

limit_within : (t u : ℕ) → 0 < t → 1 ≤ u → u ≤ 100000 * t → within 1 100000 (up u t) ≡ true
limit_within t u h l g = is_within 1 100000 (up u t) (lt_up u t 0 h (omega arith)) (up_le u t 100000 h g)

-- so the bound is judged in microseconds, whatever the number
pub limit_exactly : (t u : ℕ) → 0 < t → within 1 (100000 * t) u ≡ within 1 100000 (up u t)
limit_exactly t u h = go (within 1 (100000 * t) u) (within 1 100000 (up u t)) refl refl
  where
    go : (a b : Bool) → within 1 (100000 * t) u ≡ a → within 1 100000 (up u t) ≡ b → a ≡ b
    go true b p q =
        sym (limit_within t u h (within_low 1 (100000 * t) u p) (within_high 1 (100000 * t) u p)) ∙ q
    go false true p q =
        let l = limit_low t u h (within_low 1 100000 (up u t) q) in
        let g = limit_high t u h (within_high 1 100000 (up u t) q) in
        sym p ∙ is_within 1 (100000 * t) u l g
    go false false p q = refl

-- a task's line below `rows` others
pub record TaskWithin (rows t : ℕ) (k : TaskLine) : Type 0 where
  pub room : rows < 64
  pub priority_low : 1 ≤ k.priority
  pub priority_high : k.priority ≤ 255
  pub n_low : 1 ≤ k.limit.n.0
  pub n_high : k.limit.n.0 ≤ 100000 * t
  pub d1_low : 1 ≤ k.limit.d1.0
  pub d1_high : k.limit.d1.0 ≤ 100000 * t
  pub d2_low : 1 ≤ k.limit.d2.0
  pub d2_high : k.limit.d2.0 ≤ 100000 * t

pub within_task : (rows t : ℕ) (k : TaskLine) → 0 < t → TaskWithin rows t k → every (task_bounds rows t k) ≡ true
unfolding task_bounds
within_task rows t k h w =
    all_hold
    (lt-ltb rows 64 w.room
    also refl
    also refl
    also is_within 1 255 k.priority w.priority_low w.priority_high
    also refl
    also limit_within t k.limit.n.0 h w.n_low w.n_high
    also limit_within t k.limit.d1.0 h w.d1_low w.d1_high
    also limit_within t k.limit.d2.0 h w.d2_low w.d2_high
    also none)

pub task_within : (rows t : ℕ) (k : TaskLine) → 0 < t → every (task_bounds rows t k) ≡ true → TaskWithin rows t k
unfolding task_bounds
task_within rows t k h e =
    let b = every_at (task_bounds rows t k) e in
    let n = k.limit.n.0 in
    let d1 = k.limit.d1.0 in
    let d2 = k.limit.d2.0 in
    record {
      room = ltb-true rows 64 (b 0);
      priority_low = within_low 1 255 k.priority (b 3);
      priority_high = within_high 1 255 k.priority (b 3);
      n_low = limit_low t n h (within_low 1 100000 (up n t) (b 5));
      n_high = limit_high t n h (within_high 1 100000 (up n t) (b 5));
      d1_low = limit_low t d1 h (within_low 1 100000 (up d1 t) (b 6));
      d1_high = limit_high t d1 h (within_high 1 100000 (up d1 t) (b 6));
      d2_low = limit_low t d2 h (within_low 1 100000 (up d2 t) (b 7));
      d2_high = limit_high t d2 h (within_high 1 100000 (up d2 t) (b 7));
    }

pub task_bounds_exactly : (rows t : ℕ) (k : TaskLine) → 0 < t →
    (every (task_bounds rows t k) ≡ true) ↔ TaskWithin rows t k
task_bounds_exactly rows t k h = (task_within rows t k h, within_task rows t k h)
