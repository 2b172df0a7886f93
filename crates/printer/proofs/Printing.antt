-- Answer lines stored one after the other: before each, those before it are stored. None has more
-- than `line_bytes` bytes, so a room for so many holds the text. Assumes nothing.
use Rattle.std.proofs.Common.{Ok}
use mathlib.Core.Path.{◌≡◌, refl, sym, ap, ◌∙◌}
use mathlib.Core.List.{List}
use Prim.Native.Nat.{ℕ, zero, suc, ◌+◌, ◌*◌, ◌/◌, ◌≤◌, ◌<◌}
use native.Mathlib.Omega.{arith}
use native.Mathlib.Nat.{add-zero}
use lib.ListN.{length, get_or, take, drop}
use lib.Seq.{length-sets, get_or-drop}
use Rattle.std.proofs.lemmas.List.{get_or-take}
use Rattle.events.specs.Values.{told_at}
use Rattle.events.proofs.Values.{told_drop}
use Rattle.lines.specs.AnswerLine.{answer_fields, closed_line}
use Rattle.lines.specs.Print.{first_line, answer_text, PrintedInto, printed_first}
use Rattle.lines.proofs.Print.{fields_at, text_next}
use Rattle.printer.specs.Inner.{RoomAt, stored, line_stored, line_bytes, Stores}
use Rattle.printer.proofs.Inner.{stored_more, line_stored_lem, front}

-- the numbers of part i say line i
told_take : (l : List ℕ) → told_at (take 9 l) 0 ≡ told_at l 0
told_take l =
    rw (
      get_or-take 9 l 0 0 (omega arith),
      get_or-take 9 l 1 0 (omega arith),
      get_or-take 9 l 2 0 (omega arith),
      get_or-take 9 l 3 0 (omega arith),
      get_or-take 9 l 4 0 (omega arith),
      get_or-take 9 l 5 0 (omega arith),
      get_or-take 9 l 6 0 (omega arith),
      get_or-take 9 l 7 0 (omega arith),
      get_or-take 9 l 8 0 (omega arith),
    )

pub part_fields : (values told line nine : List ℕ) (i : ℕ) → line ≡ take 2 (drop (2 * i) values) →
    nine ≡ take 9 (drop (9 * i) told) → answer_fields (first_line line) (told_at nine 0) ≡ fields_at values told i
part_fields values told line nine i e f =
    rw (
      e,
      f,
      told_take (drop (9 * i) told),
      ← told_drop told (9 * i),
      get_or-take 2 (drop (2 * i) values) 0 0 (omega arith),
      get_or-take 2 (drop (2 * i) values) 1 0 (omega arith),
      get_or-drop (2 * i) values 0 0,
      get_or-drop (2 * i) values 1 0,
      add-zero (2 * i),
    )

-- before line i, the first i are stored
pub record Printing (n : ℕ) (values told room left : List ℕ) (at i : ℕ) : Type 0 where
  pub within : i ≤ n
  pub leaves : ◌≡◌ {A = RoomAt} (record { room = left; at = at })
      (stored (answer_text i values told) (record { room = room; at = 0 }))
  pub kept : length left ≡ length room
  pub short : at ≤ line_bytes * i

pub print_start : (n : ℕ) (values told room : List ℕ) → Printing n values told room room 0 0
unfolding answer_text
print_start n values told room = record { within = omega arith; leaves = refl; kept = refl; short = omega arith }

module _ (n : ℕ) (values told room left : List ℕ) (at i : ℕ) (g : Printing n values told room left at i) where
  pub print_next : {after : List ℕ} {next : ℕ} → i < n →
      Stores (line_stored (fields_at values told i)) line_bytes left at after next →
      Printing n values told room after next (i + 1)
  print_next l p =
      let fs = fields_at values told i in
      let text = answer_text i values told in
      let from : RoomAt = record { room = room; at = 0 } in
      let e : i + 1 ≡ suc i = omega arith in
      let q = p.leaves
      ∙ line_stored_lem fs (record { room = left; at = at })
      ∙ ap (stored (closed_line fs)) g.leaves
      ∙ stored_more text (closed_line fs) from
      ∙ ap (λ t. stored t from) (sym (text_next i values told)) in
      record {
        within = omega arith;
        leaves = rw e q;
        kept = ap (λ s. length s.room) q ∙ length-sets room 0 (answer_text (suc i) values told);
        short = omega (arith, p.short, g.short);
      }

  pub print_done : n ≤ i → line_bytes * n ≤ length room →
      ◌≡◌ {A = PrintedInto} (record { printed = record { answer = Ok tt; many = n; put = at }; room = left })
      (printed_first n values told room)
  print_done l h =
      let e : i ≡ n = omega (arith, g.within) in
      let text = answer_text n values told in
      let q = rw e at g.leaves in
      let k : at ≡ length text = omega (arith, ap (λ s. s.at) q) in
      rw (k, ap (λ s. s.room) q) (rw (front text room (omega (arith, g.short))))
