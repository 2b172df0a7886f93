-- A search for the least x with f x ≤ x, where f never falls, may climb: from an r that fails to f
-- r, since each x from r on and below f r has x < f r ≤ f x. Assumes nothing.
use Rattle.std.proofs.Common.{None, Some}
use mathlib.Core.Path.{◌≡◌}
use mathlib.Core.Bool.{Bool, false}
use mathlib.Core.Logic.{◌⊎◌, inl, inr}
use Prim.Native.Nat.{ℕ, ◌+◌, ◌≤◌, ◌<◌}
use native.Mathlib.Omega.{arith}
use lib.Dec.{leb}
use borrow.Author.Tests.{le-leb, lt-leb}
use Rattle.laws.specs.Search.{least}
use Rattle.laws.proofs.Choice.{le_or_lt}
use Rattle.laws.proofs.Search.{hit, miss, is_least}

-- no number from low on and below r passes
abbrev pub NonePasses : (ℕ → Bool) → ℕ → ℕ → Type 0
NonePasses p low r = (x : ℕ) → low ≤ x → x < r → p x ≡ false

pub climb_start : (p : ℕ → Bool) (low : ℕ) → NonePasses p low low
climb_start p low x h l = absurd (omega arith)

module _ (f : ℕ → ℕ) (low : ℕ) where
  -- f need not fall only where the climb goes
  pub climb_next : (r : ℕ) → ((x : ℕ) → r ≤ x → f r ≤ f x) → NonePasses (λ x. leb (f x) x) low r →
      NonePasses (λ x. leb (f x) x) low (f r)
  climb_next r rises none x h l = go (le_or_lt r x)
    where
      go : (r ≤ x) ⊎ (x < r) → leb (f x) x ≡ false
      go (inl k) = lt-leb (f x) x (omega (arith, rises x k))
      go (inr k) = none x h k

  -- what the climb stops at is what the search finds
  pub climb_found : (n r : ℕ) → low ≤ r → r < low + n → f r ≤ r → NonePasses (λ x. leb (f x) x) low r →
      Some r ≡ least (λ x. leb (f x) x) low n
  climb_found n r h l e none = is_least (λ x. leb (f x) x) low n (Some r) (hit r h l (le-leb (f r) r e) none)

  pub climb_none : (n r : ℕ) → low + n ≤ r → NonePasses (λ x. leb (f x) x) low r →
      None ≡ least (λ x. leb (f x) x) low n
  climb_none n r h none = is_least (λ x. leb (f x) x) low n None (miss (λ y k l. none y k (omega arith)))
