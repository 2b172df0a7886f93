-- Rows are numbers below a count. What holds of all or some of them, their sum, the highest of
-- them, and lists made anew row by row.
use Rattle.std.specs.Prelude.{Bool, true, false, not, ◌&&◌, ◌||◌, List, [], ◌∷◌, ℕ, zero, suc, ◌+◌, ltb, None, Option, Some}
use Rattle.laws.specs.Search.{least}

-- each row below n passes
unfoldable pub all_below : ℕ → (ℕ → Bool) → Bool
all_below zero p = true
all_below (suc n) p = all_below n p && p n

-- some row below n passes
unfoldable pub any_below : ℕ → (ℕ → Bool) → Bool
any_below zero p = false
any_below (suc n) p = any_below n p || p n

-- f 0 + f 1 + .. + f (n - 1)
unfoldable pub sum_below : ℕ → (ℕ → ℕ) → ℕ
sum_below zero f = 0
sum_below (suc n) f = sum_below n f + f n

-- f 0, f 1, .., f (n - 1)
unfoldable pub listed : {A : Type 0} → ℕ → (ℕ → A) → List A
listed zero f = []
listed (suc n) f = f 0 ∷ listed n (λ i. f (suc i))

-- the marked row below n above which, by priority, no marked row stands
unfoldable pub highest : ℕ → (ℕ → Bool) → (ℕ → ℕ) → Option ℕ
highest n marked priority =
    least (λ i. marked i && all_below n (λ j. not (marked j && ltb (priority i) (priority j)))) 0 n

-- the row that a walk found, by its priority: 0 is nothing found
abbrev pub found_by : ℕ → ℕ → Option ℕ
found_by zero row = None
found_by (suc height) row = Some row

-- the list with each row i below n made anew by f i, the others as they were
unfoldable pub anew : ℕ → (ℕ → ℕ → ℕ) → List ℕ → List ℕ
anew zero f xs = xs
anew (suc n) f [] = []
anew (suc n) f (x ∷ xs) = f 0 x ∷ anew n (λ i. f (suc i)) xs
