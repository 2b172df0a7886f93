-- 01, Tables: "Numbers are decimal, 1 to 11 digits, no sign, no leading zero but in `0`." The form and the worth of a number are
-- two definitions. Bytes are numbers: `0` is 48, `9` is 57.
use Rattle.std.specs.Prelude.{ℕ, zero, suc, ◌+◌, ◌-◌, ◌*◌, ◌/◌, ◌%◌, Bool, true, false, not, ◌&&◌, ◌||◌, List, [], ◌∷◌, ◌++◌, length, ◌==◌, nat_lt, slice_index, if◌then◌else◌, None, Option, Some}
use Rattle.laws.specs.Choice.{every, within}

-- "decimal", "no sign": each byte is a digit
unfoldable pub are_digits : List ℕ → Bool
are_digits [] = true
are_digits (b ∷ bs) = within 48 57 b && are_digits bs

-- "no leading zero but in `0`"
abbrev pub leads_well : List ℕ → Bool
leads_well bs = not (slice_index bs 0 == 48) || length bs == 1

-- "1 to 11 digits"
unfoldable pub number_form : List ℕ → List Bool
number_form bs = within 1 11 (length bs) ∷ are_digits bs ∷ leads_well bs ∷ []

unfoldable pub is_number : List ℕ → Bool
is_number bs = every (number_form bs)

-- the worth of digits that stand after digits of worth v
unfoldable pub worth_from : ℕ → List ℕ → ℕ
worth_from v [] = v
worth_from v (b ∷ bs) = worth_from (v * 10 + (b - 48)) bs

abbrev pub worth : List ℕ → ℕ
worth = worth_from 0

unfoldable pub read_number : List ℕ → Option ℕ
read_number bs = if is_number bs then Some (worth bs) else None

-- A number as it is written: the last digit stands after those of the tenth part, and a number below 10 is one digit. `digits_in f n`
-- takes off at most f last digits; n are always enough.
unfoldable pub digits_in : ℕ → ℕ → List ℕ
digits_in zero n = (48 + n) ∷ []
digits_in (suc f) n =
    elim (nat_lt n 10) [ true ↦ (48 + n) ∷ [] | false ↦ digits_in f (n / 10) ++ ((48 + n % 10) ∷ []) ]

unfoldable pub digits : ℕ → List ℕ
digits n = digits_in n n
