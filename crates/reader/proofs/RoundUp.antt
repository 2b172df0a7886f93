-- The round-up as std finds it: the quotient where nothing is left over, else one more. Assumes
-- nothing.
use Rattle.std.specs.Prelude.{min}
use Rattle.std.specs.Int.{div_ceil}
use mathlib.Core.Path.{◌≡◌, refl, sym, ap, ◌∙◌}
use Prim.Native.Nat.{ℕ, zero, suc, ◌+◌, ◌/◌, ◌%◌, ◌≤◌, ◌<◌}
use native.Mathlib.Omega.{arith}
use native.Mathlib.Nat.{div-add-mod', mod-lt}
use Rattle.laws.specs.RoundUp.{up}
use Rattle.laws.proofs.RoundUp.{up_le, lt_up}
use Rattle.text.proofs.Ticks.{up_times, whole_div}

pub up_ceil : (u t : ℕ) → 0 < t → div_ceil u t ≡ up u t
up_ceil u t h = go (u % t) refl
  where
    go : (r : ℕ) → r ≡ u % t → u / t + min 1 r ≡ up u t
    go zero q =
        let whole : u / t ≡ up u t = sym (up_times (u / t) t h) ∙ ap (λ x. up x t) (whole_div u t (sym q)) in
        omega arith
    go (suc r) q =
        let d = div-add-mod' u t in
        let m = mod-lt u h in
        let a : up u t ≤ u / t + 1 = up_le u t (u / t + 1) h (omega arith) in
        let b : u / t < up u t = lt_up u t (u / t) h (omega arith) in
        omega arith
