-- Where the first byte b from a place on stands: at this place, or where it stands from the next
-- place on. Assumes nothing.
use Rattle.std.proofs.Common.{◌≡◌, List, ℕ, ◌+◌, ◌<◌, length, get_or, arith}
use Rattle.decimal.proofs.Lines.{Finds, find_here, find_on}

pub finds_here : (b : ℕ) (l : List ℕ) (from : ℕ) → from < length l → get_or l from 0 ≡ b → Finds b l from from
finds_here b l from h e = omega (arith, find_here b l from h e)

pub finds_next : (b : ℕ) (l : List ℕ) (from next e : ℕ) → from < length l → (get_or l from 0 ≡ b → ⊥) → next ≡ from + 1 →
    Finds b l next e → Finds b l from e
finds_next b l from next e h n s f = omega (arith, find_on b l from h n, rw s at f)
