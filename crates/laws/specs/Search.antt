-- The least number that passes a test, or none: responses, rows, pairs and fields are found so.
use Rattle.std.specs.Prelude.{Bool, true, false, not, List, ℕ, zero, suc, length, get_or, None, Option, Some}

-- the first of r, r + 1, .., r + n - 1 that passes
unfoldable pub least : (ℕ → Bool) → ℕ → ℕ → Option ℕ
least p r zero = None
least p r (suc n) = elim (p r) [ true ↦ Some r | false ↦ least p (suc r) n ]

-- the place, from 0, of the first test of a list that fails, or none
unfoldable pub first_failed : List Bool → Option ℕ
first_failed bs = least (λ k. not (get_or bs k true)) 0 (length bs)

abbrev pub is_found : Option ℕ → Bool
is_found (Some x) = true
is_found None = false

-- what is made of the number that a search found, or of none
abbrev pub with_found : {A : Type 0} → (ℕ → A) → A → Option ℕ → A
with_found make none (Some x) = make x
with_found make none None = none

-- The first of 0, .., n - 1 whose own search finds a number, and that number: what is made of the
-- two, or of none.
unfoldable pub first_of : {A : Type 0} → (ℕ → ℕ → A) → A → (ℕ → Option ℕ) → ℕ → A
first_of make none search n =
    with_found (λ i. with_found (make i) none (search i)) none (least (λ i. is_found (search i)) 0 n)
