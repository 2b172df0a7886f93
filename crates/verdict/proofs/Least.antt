-- The climb to the response: what it stops at is the least number that meets the inequality, since
-- the interference never falls. Assumes nothing.
use Rattle.std.proofs.Common.{None, Option, Some}
use mathlib.Core.Path.{◌≡◌, sym, ◌∙◌}
use mathlib.Core.Bool.{Bool}
use mathlib.Core.List.{List}
use Prim.Native.Nat.{ℕ, ◌+◌, ◌≤◌, ◌<◌}
use native.Mathlib.Omega.{arith}
use lib.ListN.{take}
use borrow.Author.Tests.{eq-eqb, ne_eqb}
use Rattle.laws.specs.Search.{least}
use Rattle.laws.proofs.Search.{Searched, hit, miss, least_is, is_least}
use Rattle.laws.proofs.Climb.{NonePasses, climb_next, climb_found, climb_none}
use Rattle.table.specs.declared.Mode.{Mode}
use Rattle.table.specs.declared.Table.{Table}
use Rattle.table.specs.Rows.{period_at, capacity_at}
use Rattle.verdict.specs.declared.Higher.{Higher}
use Rattle.verdict.specs.declared.delayer.Delayer.{Delayer}
use Rattle.verdict.specs.Verdict.{meets, response_at}
use Rattle.verdict.specs.Inner.{interference_in, meets_in, Delaying}
use Rattle.verdict.proofs.Delayers.{in_rises}

module _ (ds : List Delayer) (c : ℕ) where
  pub next_tried : (r d : ℕ) → d ≡ interference_in ds r → NonePasses (meets_in ds c) 1 r →
      NonePasses (meets_in ds c) 1 (c + d)
  unfolding meets_in
  next_tried r d e none =
      rw e
      (climb_next (λ x. c + interference_in ds x) 1 r (λ x h. omega (arith, in_rises ds r x h)) none)

  pub found_least : (r d p : ℕ) → d ≡ interference_in ds r → 1 ≤ r → r ≤ p → c + d ≤ r →
      NonePasses (meets_in ds c) 1 r → Some r ≡ least (meets_in ds c) 1 p
  unfolding meets_in
  found_least r d p e low high le none =
      climb_found (λ x. c + interference_in ds x) 1 p r low (omega arith) (omega arith) none

  pub found_none : (r p : ℕ) → p < r → NonePasses (meets_in ds c) 1 r → None ≡ least (meets_in ds c) 1 p
  unfolding meets_in
  found_none r p h none = climb_none (λ x. c + interference_in ds x) 1 p r (omega arith) none

-- two tests that say the same of each number find the same
searched_same : (p q : ℕ → Bool) → ((x : ℕ) → p x ≡ q x) → (r n : ℕ) (a : Option ℕ) → Searched p r n a → Searched q r n a
searched_same p q e r n a (hit x l u t z) = hit x l u (sym (e x) ∙ t) (λ y b c. sym (e y) ∙ z y b c)
searched_same p q e r n a (miss z) = miss (λ y b c. sym (e y) ∙ z y b c)

least_same : (p q : ℕ → Bool) → ((x : ℕ) → p x ≡ q x) → (r n : ℕ) → least p r n ≡ least q r n
least_same p q e r n = is_least q r n (least p r n) (searched_same p q e r n (least p r n) (least_is p r n))

module _ (t : Table) (m : Mode) (i : ℕ) where
  meets_same : (h : Higher) (c x : ℕ) → Delaying t m i h → c ≡ capacity_at t m i →
      meets_in (take h.count h.delayers) c x ≡ meets t m i x
  unfolding meets meets_in
  meets_same h c x k e = rw (e, k.asks x)

  -- "For capacity 0 the response is 0. Else .."
  pub response_zero : (c : ℕ) → c ≡ capacity_at t m i → c ≡ 0 → Some 0 ≡ response_at t m i
  unfolding response_at
  response_zero c e z = rw (eq-eqb (capacity_at t m i) 0 (omega arith))

  pub response_else : (c : ℕ) (h : Higher) (r : Option ℕ) → c ≡ capacity_at t m i → (c ≡ 0 → ⊥) → Delaying t m i h →
      r ≡ least (meets_in (take h.count h.delayers) c) 1 (period_at t i) → r ≡ response_at t m i
  unfolding response_at
  response_else c h r e z k f =
      rw (ne_eqb (capacity_at t m i) 0 (λ q. z (omega arith)))
      (f
      ∙ least_same
      (meets_in (take h.count h.delayers) c)
      (meets t m i)
      (λ x. meets_same h c x k e)
      1
      (period_at t i))
