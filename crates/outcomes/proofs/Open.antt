-- What `OneOutcome` refuses: a contract that leaves the answer open, or the lent bytes, or that
-- does not hold on every input. Each has the parameters and the result of a function of ours.
-- Assumes nothing.
use Prim.Native.Nat.{◌≤◌}
use mathlib.Core.Path.{◌≡◌, refl, ap}
use mathlib.Core.List.{[], ◌∷◌}
use native.Mathlib.Omega.{arith}
use lib.ListN.{get_or}
use Rattle.laws.proofs.is_within
use Rattle.laws.proofs.larger_of
use Rattle.printer.proofs.put_another
use Rattle.outcomes.specs.OneOutcome.{OneOutcome}

-- `r ≤ 1` in place of an equation: 0 and 1 are allowed
pub open_answer : OneOutcome larger_of.Kinds.ps larger_of.Kinds.r (λ κs a. Unit {0}) (λ κs a r s. r ≤ 1) → ⊥
open_answer h = omega (
  arith,
  ap (λ x. x.answer) (h.one_outcome tt (0, (0, tt)) (record { answer = 0; lent = (tt, (tt, tt)) })
      (record { answer = 1; lent = (tt, (tt, tt)) }) (omega arith) (omega arith)),
)

-- an equation for the answer alone: a lent byte may be 0 and may be 1
pub open_bytes : OneOutcome put_another.Kinds.ps put_another.Kinds.r (λ κs a. Unit {0}) (λ κs a r s. r ≡ 0) → ⊥
open_bytes h = omega (
  arith,
  ap (λ x. get_or x.lent.0 0 0) (h.one_outcome ([], tt) (record { ref_ptr = (0, 0); ghost_name = 0; now = 0 ∷ [] }, (0, tt))
      (record { answer = 0; lent = (0 ∷ [], (tt, tt)) }) (record { answer = 0; lent = (1 ∷ [], (tt, tt)) }) refl refl),
)

-- an equation, but only where low is at most high
pub open_input : OneOutcome is_within.Kinds.ps is_within.Kinds.r (λ κs a. a.0 ≤ a.1.0) is_within.Reads.Learnt → ⊥
open_input h = omega (arith, h.every_input tt (1, (0, (0, tt))))
