-- What a step makes of one of the arrays, for a caller that knows its row, and what rows past the
-- arrays come to. Assumes nothing.
use Rattle.std.proofs.Common.{Option, Some}
use mathlib.Core.Path.{◌≡◌, ap, sym, ◌∙◌}
use mathlib.Core.Bool.{false}
use mathlib.Core.List.{List}
use mathlib.Core.Logic.{◌⊎◌, inl, inr}
use Prim.Native.Nat.{ℕ, zero, suc, ◌+◌, ◌-◌, ◌≤◌, ◌<◌, min}
use native.Mathlib.Omega.{arith}
use native.Mathlib.Nat.{add-zero, add-suc}
use lib.ListN.{length, get_or, set, get_or-eq_default}
use borrow.Author.Tests.{lt-ltb, le-ltb}
use Rattle.laws.specs.Rows.{sum_below}
use Rattle.laws.proofs.Choice.{le_or_lt}
use Rattle.laws.specs.Choice.{every}
use Rattle.queues.specs.Queues.{Queues}
use Rattle.queues.specs.Sound.{last_sound}
use Rattle.queues.specs.Inner.{joined_waiting, left_waiting, left_runs, ran_once}

-- for a caller that knows its row: a release, a front job that leaves, and a tick run
pub waiting_joined : (w : List ℕ) (k : ℕ) → k < 64 → get_or w k 0 < 16 → joined_waiting w k ≡ set w k (get_or w k 0 + 1)
waiting_joined w k l h = rw (lt-ltb k 64 l, lt-ltb (get_or w k 0) 16 h)

pub waiting_left : (w : List ℕ) (k : ℕ) → k < 64 → left_waiting w k ≡ set w k (get_or w k 0 - 1)
waiting_left w k l = rw (lt-ltb k 64 l)

pub runs_left : (c : List ℕ) (k : ℕ) → k < 64 → left_runs c k ≡ set c k 0
runs_left c k l = rw (lt-ltb k 64 l)

pub runs_on : (c : List ℕ) (k : ℕ) → k < 64 → get_or c k 0 < 4294967295 → ran_once c k ≡ set c k (get_or c k 0 + 1)
runs_on c k l h = rw (lt-ltb k 64 l, lt-ltb (get_or c k 0) 4294967295 h)

-- rows past the array add nothing
sum_past : (w : List ℕ) (m d : ℕ) → length w ≤ m → sum_below (m + d) (λ k. get_or w k 0) ≡ sum_below m (λ k. get_or w k 0)
unfolding sum_below
sum_past w m zero h = ap (λ x. sum_below x (λ k. get_or w k 0)) (add-zero m)
sum_past w m (suc d) h =
    ap (λ x. sum_below x (λ k. get_or w k 0)) (add-suc m d)
    ∙ ap (λ x. sum_below (m + d) (λ k. get_or w k 0) + x) (get_or-eq_default w 0 {n = m + d} (omega arith))
    ∙ add-zero _
    ∙ sum_past w m d h

pub sum_in_use : (w : List ℕ) (n k : ℕ) → length w ≡ 64 → k ≡ min n 64 →
    sum_below k (λ j. get_or w j 0) ≡ sum_below n (λ j. get_or w j 0)
sum_in_use w n k h e = go (le_or_lt n 64)
  where
    go : (n ≤ 64) ⊎ (64 < n) → sum_below k (λ j. get_or w j 0) ≡ sum_below n (λ j. get_or w j 0)
    go (inl l) = ap (λ x. sum_below x (λ j. get_or w j 0)) (omega arith)
    go (inr l) =
        let a : k ≡ 64 = omega arith in
        let b : 64 + (n - 64) ≡ n = omega arith in
        ap (λ x. sum_below x (λ j. get_or w j 0)) a
        ∙ sym (sum_past w 64 (n - 64) (omega arith))
        ∙ ap (λ x. sum_below x (λ j. get_or w j 0)) b

-- the last-run job is of a row not in use, or past the arrays
pub last_out : (n : ℕ) (q : Queues) (ticks : ℕ) (l : Option ℕ) (k : ℕ) → l ≡ Some k → length q.waiting ≡ 64 →
    min n 64 ≤ k → false ≡ last_sound n q ticks l
unfolding every
last_out n q ticks l k e s h = rw e (go (le_or_lt n k))
  where
    go : (n ≤ k) ⊎ (k < n) → false ≡ last_sound n q ticks (Some k)
    go (inl a) = rw (le-ltb k n a)
    go (inr a) = rw (lt-ltb k n a, get_or-eq_default q.waiting 0 {n = k} (omega arith))
