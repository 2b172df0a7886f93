-- Laws of what holds of all or some rows, of sums over rows, and of lists made row by row. Assumes
-- nothing.
use mathlib.Core.Path.{◌≡◌, refl, sym, ap, ◌∙◌}
use mathlib.Core.Bool.{Bool, true, false}
use mathlib.Core.List.{List}
use mathlib.Core.Logic.{◌⊎◌, inl, inr}
use Prim.Native.Nat.{ℕ, zero, suc, ◌+◌, ◌≤◌, ◌<◌}
use native.Mathlib.Omega.{arith}
use native.Mathlib.Numerals.{add-one}
use lib.ListN.{length, get_or}
use lib.Seq.{ext_get_or}
use borrow.Author.Count.{below_more}
use Rattle.laws.specs.Rows.{all_below, any_below, sum_below, listed}
use Rattle.std.specs.Cmp.{first_so, second_so}
use Rattle.std.proofs.lemmas.Bool.{and_from, or_cases, or_parts, cases_Bool}
use Rattle.laws.proofs.Choice.{clash}

-- one row more, as a definition and as a loop has it
pub upto : (P : ℕ → Type 0) (n : ℕ) → ((j : ℕ) → j < n → P j) → P n → (j : ℕ) → j < suc n → P j
upto P n f p j h = below_more P n f p j (omega arith)

-- all rows: as a loop builds it
pub all_none : (p : ℕ → Bool) → true ≡ all_below 0 p
unfolding all_below
all_none p = refl

pub all_more : (p : ℕ → Bool) (n : ℕ) → all_below n p ≡ true → p n ≡ true → all_below (n + 1) p ≡ true
unfolding all_below
all_more p n e f = rw (add-one n) (and_from (all_below n p) (p n) e f)

pub all_at : (p : ℕ → Bool) (n k : ℕ) → all_below n p ≡ true → k < n → p k ≡ true
unfolding all_below
all_at p zero k e h = absurd (omega arith)
all_at p (suc n) k e h =
    upto (λ j. p j ≡ true) n (λ j l. all_at p n j (first_so (all_below n p) (p n) e) l)
    (second_so (all_below n p) (p n) e) k h

pub all_build : (p : ℕ → Bool) (n : ℕ) → ((k : ℕ) → k < n → p k ≡ true) → all_below n p ≡ true
unfolding all_below
all_build p zero h = refl
all_build p (suc n) h = and_from (all_below n p) (p n) (all_build p n (λ k l. h k (omega arith))) (h n (omega arith))

pub all_fails : (p : ℕ → Bool) (n k : ℕ) → k < n → p k ≡ false → all_below n p ≡ false
all_fails p n k h e = go (cases_Bool (all_below n p))
  where
    go : (all_below n p ≡ true) ⊎ (all_below n p ≡ false) → all_below n p ≡ false
    go (inl t) = absurd (clash (p k) (all_at p n k t h) e)
    go (inr f) = f

pub all_cong : (p q : ℕ → Bool) (n : ℕ) → ((k : ℕ) → k < n → p k ≡ q k) → all_below n p ≡ all_below n q
unfolding all_below
all_cong p q zero h = refl
all_cong p q (suc n) h = rw (all_cong p q n (λ k l. h k (omega arith)), h n (omega arith))

-- some row
pub any_none : (p : ℕ → Bool) (n k : ℕ) → any_below n p ≡ false → k < n → p k ≡ false
unfolding any_below
any_none p zero k e h = absurd (omega arith)
any_none p (suc n) k e h =
    let o = or_parts (any_below n p) (p n) e in
    upto (λ j. p j ≡ false) n (λ j l. any_none p n j o.0 l) o.1 k h

pub any_at : (p : ℕ → Bool) (n k : ℕ) → k < n → p k ≡ true → any_below n p ≡ true
any_at p n k h e = go (cases_Bool (any_below n p))
  where
    go : (any_below n p ≡ true) ⊎ (any_below n p ≡ false) → any_below n p ≡ true
    go (inl t) = t
    go (inr f) = absurd (clash (p k) e (any_none p n k f h))

pub none_build : (p : ℕ → Bool) (n : ℕ) → ((k : ℕ) → k < n → p k ≡ false) → any_below n p ≡ false
unfolding any_below
none_build p zero h = refl
none_build p (suc n) h = rw (none_build p n (λ k l. h k (omega arith)), h n (omega arith))

pub any_found : (p : ℕ → Bool) (n : ℕ) → any_below n p ≡ true → (k : ℕ) × (k < n) × (p k ≡ true)
unfolding any_below
any_found p zero e = absurd (clash false e refl)
any_found p (suc n) e = go (or_cases (any_below n p) (p n) e) (any_found p n)
  where
    go : (any_below n p ≡ true) ⊎ (p n ≡ true) → (any_below n p ≡ true → (k : ℕ) × (k < n) × (p k ≡ true)) →
        (k : ℕ) × (k < suc n) × (p k ≡ true)
    go (inl a) ih = ((ih a).0, omega (arith, (ih a).1), (ih a).2)
    go (inr b) ih = (n, omega arith, b)

-- sums
pub sum_next : (f : ℕ → ℕ) (n : ℕ) → sum_below (n + 1) f ≡ sum_below n f + f n
unfolding sum_below
sum_next f n = rw (add-one n)

pub sum_cong : (f g : ℕ → ℕ) (n : ℕ) → ((k : ℕ) → k < n → f k ≡ g k) → sum_below n f ≡ sum_below n g
unfolding sum_below
sum_cong f g zero h = refl
sum_cong f g (suc n) h = rw (sum_cong f g n (λ k l. h k (omega arith)), h n (omega arith))

pub sum_le : (f g : ℕ → ℕ) (n : ℕ) → ((k : ℕ) → k < n → f k ≤ g k) → sum_below n f ≤ sum_below n g
unfolding sum_below
sum_le f g zero h = omega arith
sum_le f g (suc n) h = omega (arith, sum_le f g n (λ k l. h k (omega arith)), h n (omega arith))

pub sum_add : (f g : ℕ → ℕ) (n : ℕ) → sum_below n (λ k. f k + g k) ≡ sum_below n f + sum_below n g
unfolding sum_below
sum_add f g zero = refl
sum_add f g (suc n) = omega (arith, sum_add f g n)

pub sum_zero : (f : ℕ → ℕ) (n : ℕ) → ((k : ℕ) → k < n → f k ≡ 0) → sum_below n f ≡ 0
unfolding sum_below
sum_zero f zero h = refl
sum_zero f (suc n) h = omega (arith, sum_zero f n (λ k l. h k (omega arith)), h n (omega arith))

-- a row's part is at most the sum
pub sum_part : (f : ℕ → ℕ) (n k : ℕ) → k < n → f k ≤ sum_below n f
unfolding sum_below
sum_part f zero k h = absurd (omega arith)
sum_part f (suc n) k h =
    upto (λ j. f j ≤ sum_below n f + f n) n (λ j l. omega (arith, sum_part f n j l)) (omega arith) k h

-- a list made row by row: its length, its rows, and that a list with these rows is it
pub length_listed : {A : Type 0} (n : ℕ) (f : ℕ → A) → length (listed n f) ≡ n
unfolding listed
length_listed zero f = refl
length_listed (suc n) f = ap suc (length_listed n (λ i. f (suc i)))

pub listed_at : {A : Type 0} (n : ℕ) (f : ℕ → A) (i : ℕ) (d : A) → i < n → get_or (listed n f) i d ≡ f i
unfolding listed
listed_at zero f i d h = absurd (omega arith)
listed_at (suc n) f zero d h = refl
listed_at (suc n) f (suc i) d h = listed_at n (λ j. f (suc j)) i d (omega arith)

pub is_listed : {A : Type 0} (n : ℕ) (f : ℕ → A) (d : A) (xs : List A) → length xs ≡ n →
    ((i : ℕ) → i < n → get_or xs i d ≡ f i) → xs ≡ listed n f
is_listed n f d xs e rows =
    ext_get_or d xs (listed n f) (e ∙ sym (length_listed n f))
    (λ i h. let l : i < n = omega (arith, e) in rows i l ∙ sym (listed_at n f i d l))
