-- Many event lines at once, told to any box, lent as plain numbers (crate events, specs/Values.antt):
-- each is taken or refused in turn, and what is told to them is left in a lent room. Whether the box is
-- sound is decided once for all of them. The run's `many_of` and a frame box's `frame_many_of` are this
-- of theirs (crates serving and frameserving, `many_same`).
use Rattle.std.specs.Prelude.{List, ◌++◌, ℕ, ◌*◌, leb, length, drop, Err, Ok, Option}
use Rattle.laws.specs.Choice.{unless◌say◌else◌}
use Rattle.table.specs.declared.Refusal.{Refusal}
use Rattle.table.specs.declared.Refusal.TheVariants.{RoomShort, Unsound}
use Rattle.events.specs.declared.Event.{Event}
use Rattle.events.specs.declared.Many.{Many}
use Rattle.events.specs.Values.{lines_said, all_values}
use Rattle.events.specs.Boxes.{Box, told_all_in, after_lines_in}

-- what is handed back, and the lent room after it
pub record LentIn (S : Type 0) : Type 0 where
  pub many : Many S
  pub room : List ℕ

-- 12: "room as it was"; 13: "it, as it was"
abbrev pub untaken_in : {S : Type 0} → Refusal → S → List ℕ → LentIn S
untaken_in why s room = record { many = record { answer = Err why; run = s }; room = room }

-- "A writer changes nothing beyond the text."
abbrev pub taken_in : {S : Type 0} → Box S → S → List (Option Event) → List ℕ → LentIn S
taken_in b s ls room =
    record {
      many = record { answer = Ok tt; run = after_lines_in b s ls };
      room = all_values (told_all_in b s ls) ++ drop (9 * length ls) room;
    }

-- "Others: 13 first"; 12, "lent room shorter than the text": nine numbers for each line
unfoldable pub many_in : {S : Type 0} → Box S → S → List ℕ → List ℕ → LentIn S
many_in b s values room =
    unless b.sound s say untaken_in Unsound s room
    else unless leb (9 * length (lines_said values)) (length room) say untaken_in RoomShort s room
    else taken_in b s (lines_said values) room
