-- Looking back from a tick: the longest stretch right before it in which every tick passes a test.
-- It begins at tick 0, or the tick before it does not pass. Assumes nothing.
use mathlib.Core.Path.{◌≡◌}
use mathlib.Core.Bool.{Bool, true, false}
use mathlib.Core.Logic.{◌⊎◌, inl, inr}
use Prim.Native.Nat.{ℕ, zero, suc, ◌≤◌, ◌<◌}
use native.Mathlib.Omega.{arith}
use Rattle.std.proofs.lemmas.Bool.{cases_Bool}
use Rattle.laws.proofs.Choice.{le_or_lt}

-- tick `from` begins such a stretch
abbrev pub Begins : (ℕ → Bool) → ℕ → Type 0
Begins p zero = Unit {0}
Begins p (suc x) = p x ≡ false

pub record Stretch (p : ℕ → Bool) (s : ℕ) : Type 0 where
  pub from : ℕ
  pub before : from ≤ s
  pub begins : Begins p from
  pub passes : (x : ℕ) → from ≤ x → x < s → p x ≡ true

pub stretch : (p : ℕ → Bool) (s : ℕ) → Stretch p s
stretch p zero = record { from = 0; before = omega arith; begins = tt; passes = λ x l h. absurd (omega arith) }
stretch p (suc s) = go (cases_Bool (p s)) (stretch p s)
  where
    more : (r : Stretch p s) → p s ≡ true → (x : ℕ) → r.from ≤ x → x < suc s → p x ≡ true
    more r e x l h =
        elim (le_or_lt s x) [ inl g ↦ (let q : x ≡ s = omega arith in rw q e) | inr g ↦ r.passes x l g ]

    go : (p s ≡ true) ⊎ (p s ≡ false) → Stretch p s → Stretch p (suc s)
    go (inl e) r = record { from = r.from; before = omega (arith, r.before); begins = r.begins; passes = more r e }
    go (inr e) r = record { from = suc s; before = omega arith; begins = e; passes = λ x l h. absurd (omega arith) }
