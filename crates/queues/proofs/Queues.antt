-- The queues through a step, row by row: a release adds one job of its task, a front job that leaves
-- takes one away, and a job that runs has run one tick more. Every other row is as it was. Assumes
-- nothing.
use Rattle.std.proofs.Common.{None, Option, Some}
use mathlib.Core.Path.{◌≡◌, refl, ap, sym, ◌∙◌}
use mathlib.Core.Bool.{Bool, true, false, not, ◌||◌}
use mathlib.Core.List.{List}
use mathlib.Core.Logic.{◌⊎◌, inl, inr, ◌↔◌}
use Prim.Native.Nat.{ℕ, ◌+◌, ◌-◌, ◌≤◌, ◌<◌}
use native.Mathlib.Omega.{arith}
use native.Mathlib.Nat.{add-zero}
use lib.ListN.{length, get_or, set, length-set}
use lib.Seq.{ext_get_or, get_or-set_same, get_or-set_other}
use Rattle.laws.specs.Rows.{sum_below, anew}
use Rattle.laws.proofs.Choice.{clash, le_or_lt}
use Rattle.laws.proofs.Rows.{sum_cong, sum_add}
use Rattle.laws.proofs.Anew.{anew_at, anew_past, anew_same, length_anew}
use Rattle.events.specs.declared.Turn.{Turn}
use Rattle.events.specs.Answers.{one, ran}
use Rattle.events.proofs.Answers.{one_here, one_past_lem, one_same, same_or_not, sum_one}
use Rattle.queues.specs.Queues.{Queues, waiting_in, runs_in, joined, front_gone, front_ran, ran_job}

-- a row of a list in which row i was set
pub set_at : (xs : List ℕ) (i v k : ℕ) → i < length xs → i ≡ k → get_or (set xs i v) k 0 ≡ v
set_at xs i v k l e = rw (← e) (get_or-set_same xs i v 0 l)

pub set_past : (xs : List ℕ) (i v k : ℕ) → (i ≡ k → ⊥) → get_or (set xs i v) k 0 ≡ get_or xs k 0
set_past xs i v k n = get_or-set_other xs i k v 0 (λ e. n (sym e))

-- A release: one job more of task k, and of no other task.
pub joined_waiting_lem : (q : Queues) (k j : ℕ) → k < length q.waiting →
    waiting_in (joined q k) j ≡ waiting_in q j + one k j
joined_waiting_lem q k j l = go (same_or_not k j)
  where
    go : (k ≡ j) ⊎ (k ≡ j → ⊥) → waiting_in (joined q k) j ≡ waiting_in q j + one k j
    go (inl e) =
        let w : waiting_in q k ≡ waiting_in q j = ap (waiting_in q) e in
        omega (arith, set_at q.waiting k (waiting_in q k + 1) j l e, one_here k j e)
    go (inr n) = omega (arith, set_past q.waiting k (waiting_in q k + 1) j n, one_past_lem k j n)

pub joined_sum : (q : Queues) (n k : ℕ) → k < length q.waiting → k < n →
    sum_below n (waiting_in (joined q k)) ≡ sum_below n (waiting_in q) + 1
joined_sum q n k l b =
    omega (
      arith,
      sum_cong (waiting_in (joined q k)) (λ j. waiting_in q j + one k j) n (λ j m. joined_waiting_lem q k j l),
      sum_add (waiting_in q) (one k) n,
      sum_one k n b,
    )

-- The front job of task j leaves: of task j one fewer waits, of any other task as many.
pub front_gone_lem : (q : Queues) (j k : ℕ) → j < length q.waiting → 0 < waiting_in q j →
    waiting_in (front_gone q j) k + one j k ≡ waiting_in q k
front_gone_lem q j k l w = go (same_or_not j k)
  where
    go : (j ≡ k) ⊎ (j ≡ k → ⊥) → waiting_in (front_gone q j) k + one j k ≡ waiting_in q k
    go (inl e) =
        let p : waiting_in q j ≡ waiting_in q k = ap (waiting_in q) e in
        omega (arith, set_at q.waiting j (waiting_in q j - 1) k l e, one_here j k e)
    go (inr n) = omega (arith, set_past q.waiting j (waiting_in q j - 1) k n, one_past_lem j k n)

-- The job that runs has run one tick more.
pub front_ran_lem : (n : ℕ) (q : Queues) (turn : Turn) (k : ℕ) → n ≤ length q.runs → k < n →
    runs_in (front_ran n q turn) k ≡ runs_in q k + ran turn k
front_ran_lem n q turn k h l = anew_at n _ q.runs k 0 l (omega arith)

-- One row is one more: as a definition has it, and as a store has it.
pub anew_one : (n j : ℕ) (xs : List ℕ) → j < n → anew n (λ i x. x + one j i) xs ≡ set xs j (get_or xs j 0 + 1)
anew_one n j xs h =
    ext_get_or 0 (anew n f xs) (set xs j v) (length_anew n f xs ∙ sym (length-set xs j v))
    (λ i l. let m : i < length xs = omega (arith, length_anew n f xs) in go i m (same_or_not j i))
  where
    f : ℕ → ℕ → ℕ
    f = λ i x. x + one j i

    v : ℕ
    v = get_or xs j 0 + 1

    other : (i : ℕ) → i < length xs → (j ≡ i → ⊥) → (n ≤ i) ⊎ (i < n) → get_or (anew n f xs) i 0 ≡ get_or xs i 0
    other i l d (inl b) = anew_past n f xs i 0 b
    other i l d (inr b) = anew_at n f xs i 0 b l ∙ rw (one_past_lem j i d) (add-zero (get_or xs i 0))

    go : (i : ℕ) → i < length xs → (j ≡ i) ⊎ (j ≡ i → ⊥) → get_or (anew n f xs) i 0 ≡ get_or (set xs j v) i 0
    go i l (inl e) =
        rw (← e) (anew_at n f xs j 0 h (omega arith) ∙ rw (one_same j) (sym (get_or-set_same xs j v 0 (omega arith))))
    go i l (inr d) = other i l d (le_or_lt n i) ∙ sym (get_or-set_other xs j i v 0 (λ q. d (sym q)))

-- and none is
pub unchanged : (n : ℕ) (xs : List ℕ) → anew n (λ i x. x + 0) xs ≡ xs
unchanged n xs = anew_same n (λ i x. x + 0) xs (λ i x. add-zero x)

-- 9: the test says of mark and last-run job what the page says
pub no_job : (mark : Bool) (l : Option ℕ) → ((not mark || ran_job l) ≡ false) ↔ ((mark ≡ true) × (l ≡ None))
no_job mark l = (to mark l, λ p. rw (p.0, p.1))
  where
    to : (mark : Bool) (l : Option ℕ) → (not mark || ran_job l) ≡ false → (mark ≡ true) × (l ≡ None)
    to true None e = (refl, refl)
    to true (Some k) e = absurd (clash true refl e)
    to false l e = absurd (clash true refl e)
