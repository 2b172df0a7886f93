-- A buffer of an event file served into a lent room, by any box: the lines that its bytes close are
-- told to the box one after the other, and the lines that answer them stand at the front of the room.
-- The next buffer is served from what is handed back, so that a file may come in buffers of any
-- length.
use Rattle.std.specs.Prelude.{◌||◌, List, ◌++◌, ℕ, ◌/◌, min, leb, length, drop, Err, Ok, Option, Result}
use Rattle.laws.specs.Choice.{unless◌say◌else◌}
use Rattle.decimal.specs.Lines.{closed}
use Rattle.table.specs.declared.Refusal.{Refusal}
use Rattle.table.specs.declared.Refusal.TheVariants.{RoomShort, Unsound}
use Rattle.text.specs.Standing.{is_nil}
use Rattle.events.specs.Boxes.{Box, after_lines_in}
use Rattle.lines.specs.declared.Held.{Held}
use Rattle.lines.specs.declared.Served.{Served}
use Rattle.lines.specs.HeldLine.{line_in, held_of}
use Rattle.lines.specs.Cutting.{Cutting, cutting}
use Rattle.lines.specs.Print.{longest_answer}
use Rattle.lines.specs.Night.{answer_lines_in}
use Rattle.events.specs.declared.Event.{Event}

-- So many lines at most are taken at once.
unfoldable pub batch : ℕ
batch = 1024

-- as many as the room holds, each answer as long as the longest
abbrev pub lines_at_once : ℕ → ℕ
lines_at_once room = min (room / longest_answer) batch

-- What is handed back for a buffer: what the box holds and the line that is not closed yet, after it;
-- how many of its bytes were taken, and how many bytes of the lent room are their answers; and that
-- room.
pub record Service (S : Type 0) : Type 0 where
  pub answer : Result (Unit {0}) Refusal
  pub run : S
  pub held : Held
  pub eaten : ℕ
  pub put : ℕ
  pub room : List ℕ

-- what code hands back, with the lent room after it
abbrev pub service_in : {S : Type 0} → Served S → List ℕ → Service S
service_in d room =
    record { answer = d.answer; run = d.run; held = d.held; eaten = d.eaten; put = d.put; room = room }

-- nothing of a buffer is taken: what was handed in comes back, "room as it was"
abbrev pub unserved : {S : Type 0} → Refusal → S → Held → List ℕ → Service S
unserved why s h room = record { answer = Err why; run = s; held = h; eaten = 0; put = 0; room = room }

-- the lines are answered one after the other: "A writer changes nothing beyond the text."
abbrev pub answered_in : {S : Type 0} → Box S → S → List (Option Event) → Held → ℕ → List ℕ → Service S
answered_in b s ls held eaten room =
    let text = closed (answer_lines_in b s ls) in
    record {
      answer = Ok tt;
      run = after_lines_in b s ls;
      held = held;
      eaten = eaten;
      put = length text;
      room = text ++ drop (length text) room;
    }

abbrev pub served_from : {S : Type 0} → Box S → S → Cutting → List ℕ → Service S
served_from b s c room = answered_in b s c.lines (held_of c.left) c.eaten room

-- "Others: 13 first", "it, as it was"; 12, "lent room shorter than the text": not one answer has
-- room, and a byte is there to take; "room as it was"
unfoldable pub serve_in : {S : Type 0} → Box S → S → Held → List ℕ → List ℕ → Service S
serve_in b s h bytes room =
    unless b.sound s say unserved Unsound s h room
    else unless leb longest_answer (length room) || is_nil bytes say unserved RoomShort s h room
    else served_from b s (cutting (lines_at_once (length room)) (line_in h) bytes) room
