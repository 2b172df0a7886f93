-- Laws of choices by a test and of lists of tests. Assumes nothing.
use Rattle.std.specs.Prelude.{if◌then◌else◌}
use mathlib.Core.Path.{◌≡◌, refl, sym, subst, ◌∙◌}
use mathlib.Core.Bool.{Bool, true, false, ◌&&◌, ◌||◌}
use mathlib.Core.List.{List, [], ◌∷◌}
use mathlib.Core.Logic.{◌⊎◌, inl, inr}
use Prim.Native.Nat.{ℕ, zero, suc, ◌≤◌, ◌<◌}
use native.Mathlib.Omega.{arith}
use lib.Dec.{T, leb, ltb}
use lib.ListN.{length, get_or}
use borrow.Author.Tests.{leb-true, le-leb, ltb-true, ltb-false}
use Rattle.laws.specs.Choice.{every, within, larger}
use Rattle.std.proofs.lemmas.Bool.{and_from}
use Rattle.std.specs.Cmp.{first_so, second_so}

pub clash : (b : Bool) → b ≡ true → b ≡ false → ⊥
clash b p q = subst T (sym p ∙ q) tt

-- a property of what a test chooses, from the property of each choice
pub if_ind : {A : Type 0} (P : A → Type 0) (b : Bool) {x y : A} → (b ≡ true → P x) → (b ≡ false → P y) →
    P (if b then x else y)
if_ind P true f g = f refl
if_ind P false f g = g refl

-- a number lies within bounds
pub within_low : (l h x : ℕ) → within l h x ≡ true → l ≤ x
within_low l h x e = leb-true l x (first_so (leb l x) (leb x h) e)

pub within_high : (l h x : ℕ) → within l h x ≡ true → x ≤ h
within_high l h x e = leb-true x h (second_so (leb l x) (leb x h) e)

pub is_within : (l h x : ℕ) → l ≤ x → x ≤ h → within l h x ≡ true
is_within l h x p q = and_from (leb l x) (leb x h) (le-leb l x p) (le-leb x h q)

-- every test of a list holds exactly if each does; a test is named by its place
pub every_at : (bs : List Bool) → every bs ≡ true → (k : ℕ) → get_or bs k true ≡ true
unfolding every
every_at [] e k = refl
every_at (b ∷ bs) e zero = first_so b (every bs) e
every_at (b ∷ bs) e (suc k) = every_at bs (second_so b (every bs) e) k

-- as a loop over the tests has it: those there are hold, or one of them fails
pub every_build : (bs : List Bool) → ((k : ℕ) → k < length bs → get_or bs k false ≡ true) → true ≡ every bs
unfolding every
every_build [] h = refl
every_build (b ∷ bs) h =
    sym (and_from b (every bs) (h 0 (omega arith)) (sym (every_build bs (λ k l. h (suc k) (omega arith)))))

pub every_fails : (bs : List Bool) (k : ℕ) → k < length bs → get_or bs k false ≡ false → false ≡ every bs
unfolding every
every_fails [] k l e = absurd (omega arith)
every_fails (b ∷ bs) zero l e = rw e
every_fails (b ∷ bs) (suc k) l e = go b (every_fails bs k (omega arith) e)
  where
    go : (c : Bool) → false ≡ every bs → false ≡ (c && every bs)
    go true h = h
    go false h = refl

-- Kept: std's cases_lt has the two the other way round, and core's either is not for other crates.
pub le_or_lt : (a b : ℕ) → (a ≤ b) ⊎ (b < a)
le_or_lt zero b = inl (omega arith)
le_or_lt (suc a) zero = inr (omega arith)
le_or_lt (suc a) (suc b) = elim (le_or_lt a b) [ inl p ↦ inl (omega arith) | inr q ↦ inr (omega arith) ]

pub larger_left : (a b : ℕ) → a ≤ larger a b
larger_left a b = if_ind (λ (n : ℕ). a ≤ n) (ltb a b) (λ e. omega (arith, ltb-true a b e)) (λ e. omega arith)

pub larger_right : (a b : ℕ) → b ≤ larger a b
larger_right a b = if_ind (λ (n : ℕ). b ≤ n) (ltb a b) (λ e. omega arith) (λ e. omega (arith, ltb-false a b e))

-- a number that says a case: 0, 1, or another
pub others : (w : ℕ) → (w ≡ 0 → ⊥) → (w ≡ 1 → ⊥) → (x : ℕ) × (w ≡ suc (suc x))
others zero h g = absurd (h refl)
others (suc zero) h g = absurd (g refl)
others (suc (suc x)) h g = (x, refl)
