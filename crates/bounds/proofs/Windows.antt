-- Sums over windows of time, f s + f (s + 1) + .. + f (s + w - 1): time is a number, and f says how
-- much of something there is at it. Each law is an induction on the window's length. Assumes
-- nothing.
use mathlib.Core.Path.{◌≡◌, refl}
use mathlib.Core.Logic.{inl, inr}
use Prim.Native.Nat.{ℕ, zero, suc, ◌+◌, ◌-◌, ◌≤◌, ◌<◌}
use native.Mathlib.Omega.{arith}
use native.Mathlib.Nat.{add-zero, add-suc, add_assoc}
use Rattle.laws.specs.Rows.{sum_below}
use Rattle.laws.proofs.Choice.{le_or_lt}
use Rattle.laws.proofs.Rows.{sum_add, sum_zero}

unfoldable pub window : (ℕ → ℕ) → ℕ → ℕ → ℕ
window f s w = sum_below w (λ x. f (s + x))

pub window_none : (f : ℕ → ℕ) (s : ℕ) → window f s 0 ≡ 0
unfolding window sum_below
window_none f s = refl

pub window_next : (f : ℕ → ℕ) (s w : ℕ) → window f s (suc w) ≡ window f s w + f (s + w)
unfolding window sum_below
window_next f s w = refl

pub window_split : (f : ℕ → ℕ) (s a b : ℕ) → window f s (a + b) ≡ window f s a + window f (s + a) b
window_split f s a zero = rw (add-zero a) (omega (arith, window_none f (s + a)))
window_split f s a (suc b) =
    rw
    (add-suc a b, window_next f s (a + b), window_next f (s + a) b, ← add_assoc s a b)
    (omega (arith, window_split f s a b))

-- a window from the same start that is no longer holds no more
pub window_start : (f : ℕ → ℕ) (s a b : ℕ) → a ≤ b → window f s a ≤ window f s b
window_start f s a b h =
    let e : a + (b - a) ≡ b = omega arith in
    rw (← e) (omega (arith, window_split f s a (b - a)))

pub window_add : (f g : ℕ → ℕ) (s w : ℕ) → window (λ x. f x + g x) s w ≡ window f s w + window g s w
unfolding window
window_add f g s w = sum_add (λ x. f (s + x)) (λ x. g (s + x)) w

-- something at each time: as much as the window is long
pub window_full : (f : ℕ → ℕ) (s w : ℕ) → ((x : ℕ) → x < w → 0 < f (s + x)) → w ≤ window f s w
window_full f s zero h = omega arith
window_full f s (suc w) h =
    rw (window_next f s w) (omega (arith, window_full f s w (λ x l. h x (omega arith)), h w (omega arith)))

-- over rows and over time, in either order
pub window_rows : (n : ℕ) (f : ℕ → ℕ → ℕ) (s w : ℕ) →
    window (λ x. sum_below n (λ j. f j x)) s w ≡ sum_below n (λ j. window (f j) s w)
unfolding window sum_below
window_rows n f s zero = rw (sum_zero (λ j. sum_below 0 (λ x. f j (s + x))) n (λ j l. refl))
window_rows n f s (suc w) =
    omega
    (arith, window_rows n f s w, sum_add (λ j. sum_below w (λ x. f j (s + x))) (λ j. f j (s + w)) n)

-- nothing at any time
pub window_zero : (f : ℕ → ℕ) (s w : ℕ) → ((x : ℕ) → x < w → f (s + x) ≡ 0) → window f s w ≡ 0
unfolding window
window_zero f s w h = sum_zero (λ x. f (s + x)) w h

-- fewer rows add up to no more
pub rows_fewer : (f : ℕ → ℕ) (m n : ℕ) → m ≤ n → sum_below m f ≤ sum_below n f
unfolding sum_below
rows_fewer f m zero h = let e : m ≡ 0 = omega arith in rw e (omega arith)
rows_fewer f m (suc n) h =
    elim (le_or_lt m n)
    [ inl l ↦ omega (arith, rows_fewer f m n l) | inr l ↦ (let e : m ≡ suc n = omega arith in rw e (omega arith)) ]
