-- Who is charged in a tick: an able row, unless a row above it is. Of the rows that are there no
-- two are as high. Assumes nothing.
use Rattle.std.proofs.Common.{None, Option, Some}
use mathlib.Core.Path.{◌≡◌, refl, ◌∙◌}
use mathlib.Core.Bool.{true}
use mathlib.Core.Logic.{◌⊎◌, inl, inr}
use Prim.Native.Nat.{ℕ, ◌≤◌, ◌<◌}
use native.Mathlib.Omega.{arith}
use Rattle.laws.proofs.Choice.{clash, le_or_lt}
use Rattle.laws.proofs.Highest.{highest_at, highest_none}
use Rattle.table.specs.declared.Table.{Table}
use Rattle.table.specs.Rows.{priority_at}
use Rattle.run.specs.declared.State.{State}
use Rattle.events.specs.Answers.{charged}
use Rattle.run.specs.Tick.{able, highest_able, choose}
use Rattle.run.proofs.Tick.{able_room, force_low, highest_charged}
use Rattle.events.proofs.Answers.{one_same}
use Rattle.promises.proofs.Accepted.{Accepted, there}

module _ (t : Table) (a : Accepted t) where
  able_there : (z : State) (i : ℕ) → i < t.nservers → able t z i ≡ true → i < there t
  able_there z i l e = a.some i z.mode l (omega (arith, able_room t z i e, force_low t z i))

  same_row : (i j : ℕ) → i < there t → j < there t → priority_at t i ≡ priority_at t j → i ≡ j
  same_row i j l m e =
      elim (le_or_lt i j) [
        | inl p ↦ elim (le_or_lt j i) [ inl q ↦ omega arith | inr q ↦ absurd (a.differ i j l m (λ n. omega arith) e) ]
        | inr p ↦ absurd (a.differ i j l m (λ n. omega arith) e)
      ]

  -- the highest able row is charged
  takes : (z : State) (j : ℕ) → highest_able t z ≡ Some j → charged (choose t z) j ≡ 1
  takes z j q = highest_charged t z j j q ∙ one_same j

  pub charged_unless : (z : State) (i : ℕ) → i < t.nservers → able t z i ≡ true →
      ((j : ℕ) → j < there t → priority_at t i < priority_at t j → charged (choose t z) j ≡ 0) →
      charged (choose t z) i ≡ 1
  unfolding highest_able
  charged_unless z i l e quiet = go (highest_able t z) refl
    where
      by : (j : ℕ) → highest_able t z ≡ Some j → j < there t → priority_at t i ≤ priority_at t j →
          (priority_at t j ≤ priority_at t i) ⊎ (priority_at t i < priority_at t j) → charged (choose t z) i ≡ 1
      by j q m p (inl n) =
          let same : i ≡ j = same_row i j (able_there z i l e) m (omega arith) in
          rw same (takes z j q)
      by j q m p (inr n) = absurd (omega (arith, quiet j m n, takes z j q))

      go : (f : Option ℕ) → highest_able t z ≡ f → charged (choose t z) i ≡ 1
      go (Some j) q =
          let h = highest_at (able t z) (priority_at t) t.nservers j q in
          by j q (able_there z j h.below h.is) (h.top i l e) (le_or_lt (priority_at t j) (priority_at t i))
      go None q = absurd (clash (able t z i) e (highest_none (able t z) (priority_at t) t.nservers q i l))
