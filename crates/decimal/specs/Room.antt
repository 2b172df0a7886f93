-- Bytes put into a lent room: what is left in it, and where the next byte goes. 01, Numbers for no:
-- "A writer changes nothing beyond the text."
use Rattle.std.specs.Prelude.{◌≡◌, ℕ, ◌+◌, ◌-◌, min, max, List, length}
use Rattle.std.proofs.lemmas.List.Edits.{sets}
use Rattle.decimal.specs.Number.{digits}

-- Byte by byte from place `at` on; a byte for which there is no room is left out. The next byte goes
-- after the text. Where something was left out, that place is past the end of the room, by which a
-- caller knows it: it is one past the end, or `at` itself where that was past the end already.
pub record Put (text room : List ℕ) (at : ℕ) (left : List ℕ) (next : ℕ) : Type 0 where
  pub leaves : left ≡ sets room at text
  pub ends : next ≡ max at (min (at + length text) (length room + 1))

-- a lent text, and where in it the first digit of a number stands
pub record Spelled : Type 0 where
  pub text : List ℕ
  pub first : ℕ

-- no number of 64 bits has more digits
abbrev pub most_digits : ℕ
most_digits = 20

-- the digits stand at the end of a text of so many bytes, and what stands before them is as it was
unfoldable pub spelled : ℕ → List ℕ → Spelled
spelled n text =
    let first = most_digits - length (digits n) in
    record { text = sets text first (digits n); first = first }
