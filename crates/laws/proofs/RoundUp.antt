-- The round-up, by its two halves: `up a t` is the least q with a ≤ q * t. Assumes nothing.
use Prim.Native.Nat.{ℕ, suc, ◌+◌, ◌*◌, ◌-◌, ◌/◌, ◌≤◌, ◌<◌}
use native.Mathlib.Omega.{arith}
use native.Mathlib.Nat.{div-lt_iff_lt-mul, le-div_iff_mul-le, div-mul-le_self, lt-div-mul-add, lt_of_mul-lt-mul_right}
use Rattle.laws.specs.RoundUp.{up}

pub up_le : (a t q : ℕ) → 0 < t → a ≤ q * t → up a t ≤ q
unfolding up
up_le a t q h k = omega (arith, (div-lt_iff_lt-mul {k = t} {x = a + (t - 1)} {y = suc q} h).1 (omega arith))

pub le_up : (a t : ℕ) → 0 < t → a ≤ up a t * t
unfolding up
le_up a t h = omega (arith, lt-div-mul-add {a = a + (t - 1)} {b = t} h)

pub up_mono : (a b t : ℕ) → 0 < t → a ≤ b → up a t ≤ up b t
up_mono a b t h k = up_le a t (up b t) h (omega (arith, le_up b t h))

pub lt_up : (a t q : ℕ) → 0 < t → q * t < a → q < up a t
lt_up a t q h k = lt_of_mul-lt-mul_right t (omega (arith, le_up a t h))

pub div_mono : (a b t : ℕ) → 0 < t → a ≤ b → a / t ≤ b / t
div_mono a b t h k = (le-div_iff_mul-le {k = t} {x = a / t} {y = b} h).1 (omega (arith, div-mul-le_self a t))
