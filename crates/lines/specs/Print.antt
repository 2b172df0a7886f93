-- Answers to bytes: the answer lines of some event lines, both lent as plain numbers
-- (Rattle.run.specs.Values), left in a lent room.
use Rattle.std.specs.Prelude.{◌||◌, List, [], ◌++◌, ℕ, zero, suc, ◌/◌, min, leb, eqb, length, get_or, drop, Err, Ok, Option}
use Rattle.laws.specs.Choice.{unless◌say◌else◌}
use Rattle.table.specs.declared.Refusal.TheVariants.{RoomShort}
use Rattle.events.specs.Values.{line_said, told_at}
use Rattle.lines.specs.declared.Printed.{Printed}
use Rattle.lines.specs.AnswerLine.{answer_fields, closed_line}
use Rattle.events.specs.declared.Event.{Event}

-- No answer line is longer, whatever numbers of 64 bits, of at most 20 digits, it is to show: a
-- release's letter and task, and after them all that goes with a tick.
unfoldable pub longest_answer : ℕ
longest_answer = 140

-- the line that the first two numbers say
abbrev pub first_line : List ℕ → Option Event
first_line values = line_said (get_or values 0 0) (get_or values 1 0)

-- the first n answer lines, two numbers a line and nine told numbers a line
unfoldable pub answer_text : ℕ → List ℕ → List ℕ → List ℕ
answer_text zero values told = []
answer_text (suc n) values told =
    closed_line (answer_fields (first_line values) (told_at told 0)) ++ answer_text n (drop 2 values) (drop 9 told)

-- as many lines as both arrays hold
abbrev pub lines_lent : List ℕ → List ℕ → ℕ
lines_lent values told = min (length values / 2) (length told / 9)

-- what is handed back, and the lent room after it
pub record PrintedInto : Type 0 where
  pub printed : Printed
  pub room : List ℕ

-- "A writer changes nothing beyond the text."
abbrev pub printed_first : ℕ → List ℕ → List ℕ → List ℕ → PrintedInto
printed_first n values told room =
    let text = answer_text n values told in
    record { printed = record { answer = Ok tt; many = n; put = length text }; room = text ++ drop (length text) room }

-- As many as the room holds, each as long as the longest; 12, "lent room shorter than the text":
-- not one, where there is a line to print, "room as it was".
unfoldable pub print_of : List ℕ → List ℕ → List ℕ → PrintedInto
print_of values told room =
    unless leb longest_answer (length room) || eqb (lines_lent values told) 0
    say record { printed = record { answer = Err RoomShort; many = 0; put = 0 }; room = room }
    else printed_first (min (lines_lent values told) (length room / longest_answer)) values told room
