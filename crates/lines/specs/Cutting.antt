-- An event file cut into its lines, byte by byte, so that the cutting of the file into pieces
-- cannot show: a line feed closes the line that is not closed yet, any other byte belongs to it.
use Rattle.std.specs.Prelude.{◌||◌, List, [], ◌∷◌, ◌++◌, ℕ, zero, suc, ◌/◌, leb, eqb, length, take, if◌then◌else◌, Err, None, Ok, Option}
use Rattle.std.proofs.lemmas.List.Edits.{sets}
use Rattle.laws.specs.Choice.{unless◌say◌else◌}
use Rattle.decimal.specs.Lines.{line_feed}
use Rattle.table.specs.declared.Refusal.TheVariants.{RoomShort}
use Rattle.text.specs.Standing.{is_nil}
use Rattle.events.specs.Values.{all_line_values}
use Rattle.lines.specs.declared.Held.{Held}
use Rattle.lines.specs.declared.Cut.{Cut}
use Rattle.lines.specs.EventLine.{event_line}
use Rattle.lines.specs.HeldLine.{line_in, held_of}
use Rattle.events.specs.declared.Event.{Event}

-- the lines that some bytes close, where l is not closed yet before them
unfoldable pub lines_in : List ℕ → List ℕ → List (Option Event)
lines_in l [] = []
lines_in l (b ∷ bs) = if eqb b line_feed then event_line l ∷ lines_in [] bs else lines_in (l ++ (b ∷ [])) bs

-- the line that is not closed yet after them
unfoldable pub left_in : List ℕ → List ℕ → List ℕ
left_in l [] = l
left_in l (b ∷ bs) = if eqb b line_feed then left_in [] bs else left_in (l ++ (b ∷ [])) bs

-- "or an unclosed last one": the file ends
abbrev pub last_line : List ℕ → List (Option Event)
last_line [] = []
last_line (b ∷ l) = None ∷ []

-- how many bytes are taken where there is room for n lines: those up to the n-th line feed
unfoldable pub taken_for : ℕ → List ℕ → ℕ
taken_for zero bs = 0
taken_for (suc n) [] = 0
taken_for (suc n) (b ∷ bs) = suc (if eqb b line_feed then taken_for n bs else taken_for (suc n) bs)

-- what is cut from the bytes that are taken
pub record Cutting : Type 0 where
  pub lines : List (Option Event)
  pub left : List ℕ
  pub eaten : ℕ

unfoldable pub cutting : ℕ → List ℕ → List ℕ → Cutting
cutting n l bytes =
    let some = take (taken_for n bytes) bytes in
    record { lines = lines_in l some; left = left_in l some; eaten = taken_for n bytes }

-- what is handed back, and the lent room after it
pub record CutInto : Type 0 where
  pub cut : Cut
  pub room : List ℕ

-- "A writer changes nothing beyond the text."
abbrev pub cut_done : Cutting → List ℕ → CutInto
cut_done c room =
    record {
      cut = record { answer = Ok tt; held = held_of c.left; eaten = c.eaten; many = length c.lines };
      room = sets room 0 (all_line_values c.lines);
    }

-- two numbers for each line
unfoldable pub cut_first : Held → List ℕ → List ℕ → CutInto
cut_first h bytes room = cut_done (cutting (length room / 2) (line_in h) bytes) room

-- 12, "lent room shorter than the text": no line has room, and a byte is there to take; "room as it
-- was"
unfoldable pub cut_of : Held → List ℕ → List ℕ → CutInto
cut_of h bytes room =
    unless leb 2 (length room) || is_nil bytes
    say record { cut = record { answer = Err RoomShort; held = h; eaten = 0; many = 0 }; room = room }
    else cut_first h bytes room
