-- `writer::in_micros` meets its contract: ticks have 32 bits and a tick has at most 10,000 microseconds. Assumes
-- nothing.
use Prim.Native.Nat.{◌≤◌}
use native.Mathlib.Omega.{arith}
use native.Mathlib.Nat.{mul-le-mul}
use Rattle.writer.proofs.in_micros.Goals as goal

pub overflow_mul-result : goal.overflow_mul-result
overflow_mul-result c =
    let a = c.args in
    let h : a.x.0 ≤ 4294967296 = omega arith in
    record { fits = omega (arith, mul-le-mul h c.requires) }
