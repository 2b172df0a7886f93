-- Rows told by an answer, counted: a row is one or it is not, at most one is charged and at most one
-- job runs. Assumes nothing.
use mathlib.Core.Path.{◌≡◌, refl, sym, ◌∙◌}
use mathlib.Core.Bool.{Bool, true, false}
use mathlib.Core.List.{List, [], ◌∷◌}
use mathlib.Core.Logic.{◌⊎◌, inl, inr, ◌↔◌}
use Prim.Native.Nat.{ℕ, zero, suc, ◌+◌, ◌≤◌, ◌<◌}
use native.Mathlib.Omega.{arith}
use lib.Dec.{eqb}
use borrow.Author.Tests.{eqb-true, eqb-false, eq-eqb}
use Rattle.laws.specs.Rows.{sum_below}
use Rattle.std.proofs.lemmas.Bool.{cases_Bool}
use Rattle.laws.proofs.Choice.{clash, if_ind}
use Rattle.laws.proofs.Rows.{sum_zero}
use Rattle.events.specs.declared.Turn.{Turn}
use Rattle.events.specs.declared.Turn.TheVariants.{Run as Ran, Empty, Idle}
use Rattle.events.specs.Answers.{one, charged, ran}

pub one_here : (j k : ℕ) → j ≡ k → one j k ≡ 1
one_here j k e = if_ind (λ (n : ℕ). n ≡ 1) (eqb j k) (λ q. refl) (λ q. absurd (eqb-false j k q e))

pub one_past_lem : (j k : ℕ) → (j ≡ k → ⊥) → one j k ≡ 0
one_past_lem j k n = if_ind (λ (n : ℕ). n ≡ 0) (eqb j k) (λ q. absurd (n (eqb-true j k q))) (λ q. refl)

pub same_or_not : (j k : ℕ) → (j ≡ k) ⊎ (j ≡ k → ⊥)
same_or_not j k = elim (cases_Bool (eqb j k)) [ inl e ↦ inl (eqb-true j k e) | inr e ↦ inr (eqb-false j k e) ]

-- row k alone counts 1
pub sum_one : (k n : ℕ) → k < n → sum_below n (one k) ≡ 1
unfolding sum_below
sum_one k zero l = absurd (omega arith)
sum_one k (suc n) l = go (same_or_not k n) (sum_one k n)
  where
    go : (k ≡ n) ⊎ (k ≡ n → ⊥) → (k < n → sum_below n (one k) ≡ 1) → sum_below n (one k) + one k n ≡ 1
    go (inl e) ih = omega (arith, sum_zero (one k) n (λ j m. one_past_lem k j (λ q. omega arith)), one_here k n e)
    go (inr d) ih = omega (arith, ih (omega arith), one_past_lem k n d)

pub one_same : (i : ℕ) → one i i ≡ 1
one_same i = rw (eq-eqb i i refl)

pub one_eq : (i j : ℕ) → one i j ≡ 1 → i ≡ j
one_eq i j = if_ind (λ (n : ℕ). n ≡ 1 → i ≡ j) (eqb i j) (λ e f. eqb-true i j e) (λ e f. absurd (omega arith))

pub one_is : (i j : ℕ) → (one i j ≡ 0) ⊎ (one i j ≡ 1)
one_is i j = if_ind (λ (n : ℕ). (n ≡ 0) ⊎ (n ≡ 1)) (eqb i j) (λ e. inr refl) (λ e. inl refl)

-- a server is charged once in a tick, or not
pub charged_is : (turn : Turn) (i : ℕ) → (charged turn i ≡ 0) ⊎ (charged turn i ≡ 1)
charged_is (Ran j k) i = one_is j i
charged_is (Empty j) i = one_is j i
charged_is Idle i = inl refl

pub charged_le : (turn : Turn) (i : ℕ) → charged turn i ≤ 1
charged_le turn i = elim (charged_is turn i) [ inl e ↦ omega arith | inr e ↦ omega arith ]

pub ran_is : (turn : Turn) (k : ℕ) → (ran turn k ≡ 0) ⊎ (ran turn k ≡ 1)
ran_is (Ran i j) k = one_is j k
ran_is (Empty i) k = inl refl
ran_is Idle k = inl refl

-- At most one server is charged in a tick. No bound rests on this.
pub one_charged : (turn : Turn) (i j : ℕ) → charged turn i ≡ 1 → charged turn j ≡ 1 → i ≡ j
one_charged (Ran k n) i j p q = sym (one_eq k i p) ∙ one_eq k j q
one_charged (Empty k) i j p q = sym (one_eq k i p) ∙ one_eq k j q
one_charged Idle i j p q = absurd (omega arith)

-- A test that fails exactly where something is so holds exactly where it is not.
pub holds_iff : (b : Bool) {P : Type 0} → (b ≡ false) ↔ P → (b ≡ true) ↔ (P → ⊥)
holds_iff true f = (λ e p. clash true refl (f.1 p), λ n. refl)
holds_iff false f = (λ e. absurd (clash false e refl), λ n. absurd (n (f.0 refl)))

-- Numbers, each with what is so where it is given; no other number is given.
abbrev pub Given : List {1} (ℕ × Type 0) → ℕ → Type 0
Given [] n = ⊥
Given (c ∷ cs) n = elim (eqb c.0 n) [ true ↦ c.1 | false ↦ Given cs n ]
