-- Two outcomes are equal if their answers are and the lent bytes are. Assumes nothing.
use Prim.Native.Nat.{ℕ, ◌<◌}
use native.Mathlib.Omega.{arith}
use lib.ListN.{length}
use mathlib.Core.Path.{◌≡◌, ap}
use mathlib.Core.List.{List, [], Memᴰ}
use mathlib.Core.List.Memᴰ
use Rattle.std.proofs.Math.Logic.{∥∥₁_map}
use contract.Lifetimes.{Lfts}
use borrow.Fn.Kinds.{ParamKind, ResultKind, In, Out, Dens}
use Rattle.outcomes.specs.OneOutcome.{Outcome, Allowed, OneOutcome}

pub settled : {n : ℕ} {ps : List (ParamKind n)} {r : ResultKind n} {asked : In n ps} {learnt : Out n ps r} →
    ((κs : Lfts n) (a : Dens κs ps) → asked κs a) →
    ((κs : Lfts n) (a : Dens κs ps) (x y : Outcome ps r κs a) → Allowed ps r learnt κs a x →
    Allowed ps r learnt κs a y → (x.answer ≡ y.answer) × (x.lent ≡ y.lent)) →
    OneOutcome ps r asked learnt
settled every same = record {
  every_input = every;
  one_outcome = λ κs a x y p q i. record { answer = (same κs a x y p q).0 i; lent = (same κs a x y p q).1 i };
}

-- A type that holds no reference asks nothing of a call's lifetimes.
some : {n : ℕ} {xs : List ℕ} → Memᴰ n xs → 0 < length xs
some (Memᴰ.head e) = omega arith
some (Memᴰ.tail m) = omega arith

pub outlives : (xs : List ℕ) → xs ≡ [] → (κ : List ℕ) (n : ℕ) → ∥ Memᴰ n xs ∥₁ → ∥ Memᴰ n κ ∥₁
outlives xs e κ n m = ∥∥₁_map m (λ d. absurd (omega (arith, some d, ap length e)))
