-- Answer lines one after the other: the text of one line more, and what is handed back. Assumes
-- nothing.
use Rattle.std.proofs.lemmas.Bool.{or_parts, or_right}
use Rattle.std.specs.Prelude.{if◌then◌else◌, Err, Ok}
use mathlib.Core.Path.{◌≡◌, refl, sym, ap, ◌∙◌}
use mathlib.Core.Bool.{Bool, true, false, ◌||◌}
use mathlib.Core.List.{List, ◌++◌, append_assoc, append-nil}
use mathlib.Core.Logic.{◌↔◌, ◌⊎◌, inl, inr}
use Prim.Native.Nat.{ℕ, zero, suc, ◌+◌, ◌*◌, ◌/◌, ◌≤◌, ◌<◌, min}
use native.Mathlib.Omega.{arith}
use lib.Dec.{leb, eqb}
use lib.ListN.{length, get_or, drop}
use lib.Seq.{get_or-drop, drop-drop, drop-append_seam}
use borrow.Author.Tests.{le-leb, lt-leb, leb-false, eq-eqb, ne_eqb, eqb-false}
use Rattle.laws.proofs.Choice.{if_ind}
use Rattle.table.specs.declared.Refusal.TheVariants.{RoomShort}
use Rattle.events.specs.Values.{line_said, told_at}
use Rattle.events.specs.Answers.{taking_number}
use Rattle.lines.specs.AnswerLine.{answer_fields, closed_line}
use Rattle.lines.specs.Print.{longest_answer, answer_text, lines_lent, PrintedInto, printed_first, print_of}
use Rattle.events.proofs.Values.{told_drop}

-- line i of those that the numbers say, field by field
abbrev pub fields_at : List ℕ → List ℕ → ℕ → List (List ℕ)
fields_at values told i =
    answer_fields (line_said (get_or values (2 * i) 0) (get_or values (2 * i + 1) 0)) (told_at told (9 * i))

line_drop : (values told : List ℕ) (i : ℕ) → fields_at (drop 2 values) (drop 9 told) i ≡ fields_at values told (suc i)
line_drop values told i =
    let a : 2 + 2 * i ≡ 2 * suc i = omega arith in
    let b : 2 + (2 * i + 1) ≡ 2 * suc i + 1 = omega arith in
    let d : 9 + 9 * i ≡ 9 * suc i = omega arith in
    let t : told_at (drop 9 told) (9 * i) ≡ told_at told (9 + 9 * i) =
    told_drop (drop 9 told) (9 * i)
    ∙ ap (λ l. told_at l 0) (drop-drop (9 * i) 9 told)
    ∙ sym (told_drop told (9 + 9 * i)) in
    rw (get_or-drop 2 values (2 * i) 0, get_or-drop 2 values (2 * i + 1) 0, t, a, b, d)

pub text_next : (i : ℕ) (values told : List ℕ) →
    answer_text (suc i) values told ≡ answer_text i values told ++ closed_line (fields_at values told i)
unfolding answer_text
text_next zero values told = append-nil (closed_line (fields_at values told 0))
text_next (suc i) values told =
    let first = closed_line (fields_at values told 0) in
    let rest = answer_text i (drop 2 values) (drop 9 told) in
    ap (λ t. first ++ t) (text_next i (drop 2 values) (drop 9 told)
    ∙ ap (λ fs. rest ++ closed_line fs) (line_drop values told i))
    ∙ sym (append_assoc first rest (closed_line (fields_at values told (suc i))))

-- at the door: no line, no room, and the rest
pub print_none : (values told room : List ℕ) → lines_lent values told ≡ 0 →
    ◌≡◌ {A = PrintedInto} (record { printed = record { answer = Ok tt; many = 0; put = 0 }; room = room })
    (print_of values told room)
unfolding print_of answer_text
print_none values told room e = go (leb longest_answer (length room))
  where
    go : (t : Bool) →
        ◌≡◌ {A = PrintedInto}
        (record { printed = record { answer = Ok tt; many = 0; put = 0 }; room = room })
        (if t || eqb (lines_lent values told) 0 then printed_first
        (min (lines_lent values told) (length room / longest_answer)) values told room
        else record { printed = record { answer = Err RoomShort; many = 0; put = 0 }; room = room })
    go true = let m : min 0 (length room / longest_answer) ≡ 0 = omega arith in rw (e, m)
    go false = let m : min 0 (length room / longest_answer) ≡ 0 = omega arith in rw (e, m)

pub print_short : (values told room : List ℕ) → (lines_lent values told ≡ 0 → ⊥) → length room < longest_answer →
    ◌≡◌ {A = PrintedInto} (record { printed = record { answer = Err RoomShort; many = 0; put = 0 }; room = room })
    (print_of values told room)
unfolding print_of
print_short values told room e l =
    rw (lt-leb longest_answer (length room) l, ne_eqb (lines_lent values told) 0 e)

pub print_long : (values told room : List ℕ) → longest_answer ≤ length room →
    printed_first (min (lines_lent values told) (length room / longest_answer)) values told room ≡ print_of values told room
unfolding print_of
print_long values told room l = rw (le-leb longest_answer (length room) l)

pub print_some : (values told room : List ℕ) → (longest_answer ≤ length room) ⊎ (lines_lent values told ≡ 0) →
    printed_first (min (lines_lent values told) (length room / longest_answer)) values told room ≡ print_of values told room
unfolding print_of
print_some values told room (inl l) = print_long values told room l
print_some values told room (inr e) =
    rw (eq-eqb (lines_lent values told) 0 e, or_right (leb longest_answer (length room)) true refl)

-- 12, "lent room shorter than the text", exactly where a line is there to print and the longest has
-- no room; then the room is as it was, and never is a byte changed beyond the text.
module _ (values told room : List ℕ) where
  abbrev unprinted : PrintedInto
  unprinted = record { printed = record { answer = Err RoomShort; many = 0; put = 0 }; room = room }

  abbrev Short : Type 0
  Short = (1 ≤ lines_lent values told) × (length room < longest_answer)

  -- how many lines are printed
  abbrev shown : ℕ
  shown = min (lines_lent values told) (length room / longest_answer)

  door : (P : PrintedInto → Type 0) → (Short → P unprinted) → P (printed_first shown values told room) →
      P (print_of values told room)
  unfolding print_of
  door P short long =
      if_ind P (leb longest_answer (length room) || eqb (lines_lent values told) 0) (λ e. long)
      (λ e.
      let f = or_parts (leb longest_answer (length room)) (eqb (lines_lent values told) 0) e in
      let z = eqb-false (lines_lent values told) 0 f.1 in
      short (some_line (lines_lent values told) z, leb-false longest_answer (length room) f.0))
    where
      some_line : (n : ℕ) → (n ≡ 0 → ⊥) → 1 ≤ n
      some_line zero z = absurd (z refl)
      some_line (suc n) z = omega arith

  pub print_12 : (taking_number (print_of values told room).printed.answer ≡ 12) ↔ Short
  print_12 = (
    door (λ c. taking_number c.printed.answer ≡ 12 → Short) (λ p e. p) (λ e. absurd (omega arith)),
    λ p.
        ap (λ c. taking_number c.printed.answer)
        (sym (print_short values told room (λ e. omega (arith, p.0)) p.1)),
  )

  pub print_0 : (taking_number (print_of values told room).printed.answer ≡ 0) ↔ (Short → ⊥)
  print_0 = (
    λ e p. let q = print_12.1 p in omega arith,
    λ n. door (λ c. taking_number c.printed.answer ≡ 0) (λ p. absurd (n p)) refl,
  )

  pub print_as_it_was : (taking_number (print_of values told room).printed.answer ≡ 0 → ⊥) →
      ((print_of values told room).room ≡ room) × ((print_of values told room).printed.put ≡ 0)
  print_as_it_was =
      door
      (λ c. (taking_number c.printed.answer ≡ 0 → ⊥) → (c.room ≡ room) × (c.printed.put ≡ 0))
      (λ p n. (refl, refl))
      (λ n. absurd (n refl))

  pub print-beyond :
      drop (print_of values told room).printed.put (print_of values told room).room ≡
      drop (print_of values told room).printed.put room
  print-beyond =
      let x = answer_text shown values told in
      door (λ c. drop c.printed.put c.room ≡ drop c.printed.put room) (λ p. refl)
      (drop-append_seam x (drop (length x) room))
