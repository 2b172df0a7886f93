-- A line of a letter, a tab and one digit says a release, a tick or neither, by its letter and its
-- digit, and its two numbers are sums and products of these tests: of a letter at most one is true.
-- Assumes nothing.
use Rattle.std.proofs.lemmas.Bool.{or_right}
use Rattle.std.proofs.Common.{Some}
use mathlib.Core.Path.{◌≡◌, refl, ap, ◌∙◌}
use mathlib.Core.Bool.{Bool, true, false, not}
use mathlib.Core.List.{List, [], ◌∷◌}
use Prim.Native.Nat.{ℕ, zero, suc, ◌+◌, ◌*◌, ◌-◌, ◌≤◌}
use native.Mathlib.Omega.{arith}
use native.Mathlib.Nat.{zero-add}
use lib.Dec.{eqb, leb}
use lib.ListN.{length, get_or, set}
use lib.Seq.{sets}
use borrow.Author.Tests.{eqb-true, eqb-false, leb-true, leb-false, le-leb}
use Rattle.laws.specs.Choice.{every, one_if}
use Rattle.decimal.specs.Number.{are_digits, number_form, is_number, worth_from, read_number}
use Rattle.decimal.specs.Lines.{tab}
use Rattle.events.specs.Values.{line_values}
use Rattle.lines.specs.EventLine.{event_line}
use Rattle.lines.proofs.EventLine.{Found, said_no_letter, said_release, said_tick, said_mark}
use Rattle.lines.proofs.Cutting.{stored}

-- a line of three bytes
pub three : (l : List ℕ) → length l ≡ 3 → l ≡ get_or l 0 0 ∷ (get_or l 1 0 ∷ (get_or l 2 0 ∷ []))
three [] e = absurd (omega arith)
three (a ∷ []) e = absurd (omega arith)
three (a ∷ (b ∷ [])) e = absurd (omega arith)
three (a ∷ (b ∷ (d ∷ []))) e = refl
three (a ∷ (b ∷ (d ∷ (x ∷ l)))) e = absurd (omega arith)

-- one digit is a number
one_digit : (d : ℕ) → 48 ≤ d → d ≤ 57 → read_number (d ∷ []) ≡ Some (d - 48)
unfolding read_number is_number number_form are_digits every worth_from
one_digit d l h =
    rw (le-leb 48 d l, le-leb d 57 h, or_right (not (eqb d 48)) true refl) (ap Some (zero-add (d - 48)))

-- the numbers of a line from three tests: the letter is R, it is T, the digit is at most 1
abbrev tested : Bool → Bool → Bool → ℕ → List ℕ
tested r t m v = (2 * one_if r + one_if t * one_if m) ∷ ((one_if r + one_if t * one_if m) * v) ∷ []

two : {a b x y : ℕ} → a ≡ x → b ≡ y → ◌≡◌ {A = List ℕ} (a ∷ b ∷ []) (x ∷ y ∷ [])
two p q = rw (p, q)

mark : (v : ℕ) → v ≤ 1 → one_if (eqb v 1) ≡ v
mark zero h = refl
mark (suc zero) h = refl
mark (suc (suc v)) h = absurd (omega arith)

module _ (a d : ℕ) (low : 48 ≤ d) (high : d ≤ 57) where
  abbrev short : List ℕ
  short = a ∷ (tab ∷ (d ∷ []))

  abbrev v : ℕ
  v = d - 48

  found : (letter : ℕ) → a ≡ letter → Found short letter v
  found letter e =
      record { long = omega arith; first = e; parted = refl; number = one_digit d low high }

  short_values : tested (eqb a 82) (eqb a 84) (leb v 1) v ≡ line_values (event_line short)
  short_values = go (eqb a 82) refl (eqb a 84) refl (leb v 1) refl
    where
      go : (r : Bool) → eqb a 82 ≡ r → (t : Bool) → eqb a 84 ≡ t → (m : Bool) → leb v 1 ≡ m →
          tested r t m v ≡ line_values (event_line short)
      go true p true q m w = absurd (omega (arith, eqb-true a 82 p, eqb-true a 84 q))
      go true p false q m w =
          two (omega arith) (omega arith) ∙ ap line_values (said_release short v (found 82 (eqb-true a 82 p)))
      go false p true q true w =
          let h = leb-true v 1 w in
          two refl (omega (arith, mark v h)) ∙ ap line_values
          (said_tick short v (eqb v 1) (found 84 (eqb-true a 84 q)) h refl)
      go false p true q false w =
          two refl (omega arith) ∙ ap line_values (said_mark short v (found 84 (eqb-true a 84 q)) (leb-false v 1 w))
      go false p false q m w =
          two (omega arith) (omega arith) ∙ ap line_values (said_no_letter short (eqb-false a 82 p) (eqb-false a 84 q))

  pub short_stored : (room : List ℕ) (at r t m : ℕ) → r ≡ one_if (eqb a 82) → t ≡ one_if (eqb a 84) →
      m ≡ one_if (leb v 1) →
      set (set room at (2 * r + t * m)) (at + 1) ((r + t * m) * v) ≡ sets room at (line_values (event_line short))
  short_stored room at r t m p q w =
      rw (p, q, w) (stored room at (tested (eqb a 82) (eqb a 84) (leb v 1) v) (event_line short) short_values)
