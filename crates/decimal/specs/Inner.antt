-- Only contracts of inner functions cite this file; a buyer need not read it. It says what one walk
-- over the digits at a place of a text finds.
pub mod Fields
use Rattle.std.specs.Prelude.{◌≡◌, ℕ, ◌+◌, ◌-◌, ◌<◌, ◌≤◌, true, false, not, ◌||◌, List, take, drop, ◌==◌, slice_index, if◌then◌else◌, None, Option, Some}
use Rattle.laws.specs.Choice.{within}
use Rattle.decimal.specs.declared.Digits.{Digits}
use Rattle.decimal.specs.Number.{are_digits, worth}

-- a number that is the worth of a digit, or tells that the byte is none
pub record Digit (b : ℕ) (r : ℕ) : Type 0 where
  pub worths : r ≤ 9 → 48 + r ≡ b
  pub none : 9 < r → within 48 57 b ≡ false

-- the digits from a place on, as far as they go but not past `stop`
pub record DigitsFrom (s : List ℕ) (at stop : ℕ) (r : Digits) : Type 0 where
  pub low : at ≤ r.end
  pub high : r.end ≤ stop
  pub digits : are_digits (take (r.end - at) (drop at s)) ≡ true
  pub worths : r.worth ≡ worth (take (r.end - at) (drop at s))
  pub ends : r.end < stop → within 48 57 (slice_index s r.end) ≡ false

-- so many digits, by their worth and the first of them: "no leading zero but in `0`"
abbrev pub as_number : ℕ → ℕ → ℕ → Option ℕ
as_number worth many first =
    if many == 0 then None
    else if not (first == 48) || many == 1 then Some worth
    else None
