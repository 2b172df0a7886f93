-- What a test of a kind, a mode or a level says, and modes as numbers. Assumes nothing.
use mathlib.Core.Path.{◌≡◌, refl, ap}
use mathlib.Core.Bool.{true, false}
use mathlib.Core.Logic.{◌↔◌}
use Prim.Native.Nat.{ℕ, zero, suc, ◌<◌}
use native.Mathlib.Omega.{arith}
use Rattle.laws.proofs.Choice.{clash}
use Rattle.table.specs.declared.Kind.{Kind}
use Rattle.table.specs.declared.Kind.TheVariants.{Event, Timed}
use Rattle.table.specs.declared.Level.{Level}
use Rattle.table.specs.declared.Level.TheVariants.{LO, MI, HI}
use Rattle.table.specs.declared.Mode.{Mode}
use Rattle.table.specs.declared.Mode.TheVariants.{N, D1, D2}
use Rattle.table.specs.Rows.{is_timed, is_low, is_d2, mode_value, mode_said}

pub timed_exactly : (k : Kind) → (is_timed k ≡ true) ↔ (k ≡ Timed)
timed_exactly k = (to k, λ e. ap is_timed e)
  where
    to : (k : Kind) → is_timed k ≡ true → k ≡ Timed
    to Timed e = refl
    to Event e = absurd (clash false e refl)

pub d2_exactly : (m : Mode) → (is_d2 m ≡ true) ↔ (m ≡ D2)
d2_exactly m = (to m, λ e. ap is_d2 e)
  where
    to : (m : Mode) → is_d2 m ≡ true → m ≡ D2
    to D2 e = refl
    to N e = absurd (clash false e refl)
    to D1 e = absurd (clash false e refl)

pub low_exactly : (l : Level) → (is_low l ≡ true) ↔ (l ≡ LO)
low_exactly l = (to l, λ e. ap is_low e)
  where
    to : (l : Level) → is_low l ≡ true → l ≡ LO
    to LO e = refl
    to MI e = absurd (clash false e refl)
    to HI e = absurd (clash false e refl)

pub mode_back : (m : Mode) → mode_said (mode_value m) ≡ m
mode_back N = refl
mode_back D1 = refl
mode_back D2 = refl

pub mode_again : (k : ℕ) → k < 3 → mode_value (mode_said k) ≡ k
mode_again zero h = refl
mode_again (suc zero) h = refl
mode_again (suc (suc k)) h = omega arith

pub mode_below : (m : Mode) → mode_value m < 3
mode_below N = omega arith
mode_below D1 = omega arith
mode_below D2 = omega arith
