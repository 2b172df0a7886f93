-- What the servers that delay a row ask of r ticks: it never falls as r grows, since a round-up does
-- not, and it is small, since a round-up times the period is less than one period past what is
-- rounded. Assumes nothing.
use mathlib.Core.List.{List, [], ◌∷◌}
use Prim.Native.Nat.{ℕ, ◌+◌, ◌*◌, ◌-◌, ◌≤◌, ◌<◌}
use native.Mathlib.Omega.{arith}
use native.Mathlib.Nat.{mul-le-mul_left, mul-le-mul_right, div-mul-le_self}
use lib.ListN.{length}
use Rattle.std.proofs.lemmas.List.Sums.{sum_by-cons}
use Rattle.laws.specs.RoundUp.{up}
use Rattle.laws.proofs.RoundUp.{up_mono}
use Rattle.verdict.specs.declared.delayer.Delayer.{Delayer}
use Rattle.verdict.specs.Inner.{asked_by, interference_in}

up_times_le : (a t c : ℕ) → 0 < t → c ≤ t → up a t * c ≤ a + t
unfolding up
up_times_le a t c h l = omega (arith, mul-le-mul_left (up a t) l, div-mul-le_self (a + (t - 1)) t)

pub asked_le : (d : Delayer) (r : ℕ) → r ≤ 1000000 → asked_by d r ≤ 3000000
asked_le d r h =
    omega (arith, up_times_le (r + d.late) d.period d.capacity d.period_low d.capacity_high, d.period_high, d.late_high)

-- each asks at most 3,000,000 ticks
pub in_le : (ds : List Delayer) (r : ℕ) → r ≤ 1000000 → interference_in ds r ≤ length ds * 3000000
in_le [] r h = omega arith
in_le (d ∷ ds) r h = omega (arith, sum_by-cons (λ x. asked_by x r) d ds, asked_le d r h, in_le ds r h)

-- "I(R)" never falls as R grows
pub in_rises : (ds : List Delayer) (r x : ℕ) → r ≤ x → interference_in ds r ≤ interference_in ds x
in_rises [] r x h = omega arith
in_rises (d ∷ ds) r x h =
    omega (
      arith,
      sum_by-cons (λ y. asked_by y r) d ds,
      sum_by-cons (λ y. asked_by y x) d ds,
      mul-le-mul_right d.capacity (up_mono (r + d.late) (x + d.late) d.period d.period_low (omega arith)),
      in_rises ds r x h,
    )
