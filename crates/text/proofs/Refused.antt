-- 01, Numbers for no: "Each is given exactly in its case". Every reason has a number. Of a table that
-- is written: "Others: 13 first", and the room is as it was, but for the text. Assumes nothing.
use Rattle.std.proofs.Common.{Err, Ok}
use mathlib.Core.Path.{◌≡◌, refl, ap}
use mathlib.Core.Bool.{true, false}
use mathlib.Core.List.{List, [], ◌∷◌}
use mathlib.Core.Logic.{◌↔◌}
use Prim.Native.Nat.{ℕ, ◌≤◌, ◌<◌}
use native.Mathlib.Omega.{arith}
use lib.Dec.{leb}
use lib.ListN.{length, take, drop}
use lib.Seq.{take-append_seam, drop-append_seam}
use borrow.Author.Tests.{leb-true, leb-false, le-leb, lt-leb}
use Rattle.laws.proofs.Choice.{if_ind}
use Rattle.table.specs.declared.Table.{Table}
use Rattle.table.specs.declared.Refusal.{Refusal}
use Rattle.table.specs.declared.Refusal.TheVariants.{Malformed, OutOfBounds, NotWhole, AbsentRow, OtherPartition, NotTimed, OtherServer, Falling}
use Rattle.table.specs.declared.Refusal.TheVariants.{EqualPriorities, NoTask, LowInD2, QueueFull, NoJobRan, CountSpent, NoServer, RoomShort, Unsound}
use Rattle.table.specs.Refusals.{number_of, standing_number, breaks, Standing}
use Rattle.table.specs.Rows.{rows_of}
use Rattle.table.specs.Rules.{table_keeps}
use Rattle.text.specs.Read.{reading_number}
use Rattle.text.specs.Write.{Wrote, write, writing_number, writing_values, unwritten, written}
use Rattle.text.specs.Write.{wrote}
use Rattle.text.specs.declared.ReadError.TheVariants.{Equal, Refused}
use Rattle.text.specs.TableText.{Reading}

-- every reason has a number, and 0 is none's
number_low : (why : Refusal) → 1 ≤ number_of why
number_low Malformed = omega arith
number_low OutOfBounds = omega arith
number_low NotWhole = omega arith
number_low AbsentRow = omega arith
number_low OtherPartition = omega arith
number_low NotTimed = omega arith
number_low OtherServer = omega arith
number_low Falling = omega arith
number_low EqualPriorities = omega arith
number_low NoTask = omega arith
number_low LowInD2 = omega arith
number_low QueueFull = omega arith
number_low NoJobRan = omega arith
number_low CountSpent = omega arith
number_low NoServer = omega arith
number_low RoomShort = omega arith
number_low Unsound = omega arith

pub reading_0 : (a : Reading) → reading_number a ≡ 0 → a ≡ Ok tt
reading_0 (Ok tt) e = refl
reading_0 (Err (Refused why line field)) e = absurd (omega (arith, number_low why))
reading_0 (Err (Equal first second)) e = absurd (omega arith)

-- number 0 exactly if the rules are kept
pub standing_0 : (s : Standing) → (standing_number s ≡ 0) ↔ (s ≡ Ok tt)
standing_0 (Ok tt) = (λ e. refl, λ e. refl)
standing_0 (Err f) = (λ e. absurd (omega (arith, number_low f.why)), λ e. ap standing_number e)

-- the three ways of the writer
wrote_ind : (P : Wrote → Type 0) (t : Table) (room : List ℕ) → (table_keeps t ≡ false → P (unwritten Unsound room)) →
    (table_keeps t ≡ true → length room < length (write (rows_of t)) → P (unwritten RoomShort room)) →
    (table_keeps t ≡ true → length (write (rows_of t)) ≤ length room → P (written (write (rows_of t)) room)) → P (wrote t room)
unfolding wrote
wrote_ind P t room f g h =
    let m = length (write (rows_of t)) in
    if_ind P (table_keeps t)
    (λ k. if_ind P (leb m (length room)) (λ e. h k (leb-true m (length room) e)) (λ e. g k (leb-false m (length room) e)))
    f

-- The statements to quote: what the writer answers for the table t, and leaves in the room.
module _ (t : Table) (room : List ℕ) where
  pub wrote_13 : (writing_number (wrote t room).answer ≡ 13) ↔ (table_keeps t ≡ false)
  unfolding wrote
  wrote_13 = (
    wrote_ind (λ w. writing_number w.answer ≡ 13 → table_keeps t ≡ false) t room (λ e q. e) (λ k l q. absurd (omega arith)) (λ k l q. absurd (omega arith)),
    λ e. rw e,
  )

  pub wrote_12 : (writing_number (wrote t room).answer ≡ 12) ↔
      ((table_keeps t ≡ true) × (length room < length (write (rows_of t))))
  unfolding wrote
  wrote_12 = (
    wrote_ind (λ w. writing_number w.answer ≡ 12 → (table_keeps t ≡ true) × (length room < length (write (rows_of t)))) t room
        (λ e q. absurd (omega arith)) (λ k l q. (k, l)) (λ k l q. absurd (omega arith)),
    λ p. rw (p.0, lt-leb (length (write (rows_of t))) (length room) p.1),
  )

  -- else the text stands in the room, and its length is told
  pub wrote_0 : (writing_number (wrote t room).answer ≡ 0) ↔
      ((table_keeps t ≡ true) × (length (write (rows_of t)) ≤ length room))
  unfolding wrote
  wrote_0 = (
    wrote_ind
        (λ w.
        writing_number w.answer ≡ 0 →
        (table_keeps t ≡ true) × (length (write (rows_of t)) ≤ length room)) t room
        (λ e q. absurd (omega arith)) (λ k l q. absurd (omega arith)) (λ k l q. (k, l)),
    λ p. rw (p.0, le-leb (length (write (rows_of t))) (length room) p.1),
  )

  pub text_written : writing_number (wrote t room).answer ≡ 0 →
      (writing_values (wrote t room).answer ≡ length (write (rows_of t)) ∷ [])
      × (take (length (write (rows_of t))) (wrote t room).room ≡ write (rows_of t))
  text_written =
      let x = write (rows_of t) in
      wrote_ind
      (λ w.
      writing_number w.answer ≡ 0 →
      (writing_values w.answer ≡ length x ∷ []) × (take (length x) w.room ≡ x))
      t room (λ e q. absurd (omega arith)) (λ k l q. absurd (omega arith))
      (λ k l q. (refl, take-append_seam x (drop (length x) room)))

  -- 12, 13: "room as it was"
  pub room_as_it_was : (writing_number (wrote t room).answer ≡ 0 → ⊥) → (wrote t room).room ≡ room
  room_as_it_was =
      wrote_ind (λ w. (writing_number w.answer ≡ 0 → ⊥) → w.room ≡ room) t room (λ e q. refl) (λ k l q. refl) (λ k l q. absurd (q refl))

  -- "A writer changes nothing beyond the text."
  pub beyond_as_it_was : drop (length (write (rows_of t))) (wrote t room).room ≡ drop (length (write (rows_of t))) room
  beyond_as_it_was =
      let x = write (rows_of t) in
      wrote_ind (λ w. drop (length x) w.room ≡ drop (length x) room) t room (λ e. refl) (λ k l. refl)
      (λ k l. drop-append_seam x (drop (length x) room))
