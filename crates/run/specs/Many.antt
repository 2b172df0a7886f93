-- Many event lines at once, lent as plain numbers (Values.antt): each is taken or refused in turn,
-- and what is told to them is left in a lent room. Whether the run is sound is decided once for all
-- of them.
use Rattle.std.specs.Prelude.{◌&&◌, List, [], ◌∷◌, ◌++◌, ℕ, ◌*◌, leb, length, drop, Err, None, Ok, Option, Some}
use Rattle.laws.specs.Choice.{unless◌say◌else◌}
use Rattle.table.specs.declared.Refusal.{Refusal}
use Rattle.table.specs.declared.Refusal.TheVariants.{RoomShort, Unsound}
use Rattle.run.specs.declared.Run.{Run}
use Rattle.events.specs.declared.Told.{Told}
use Rattle.events.specs.declared.Many.{Many}
use Rattle.run.specs.declared.Finding.{Finding}
use Rattle.run.specs.Sound.{sound}
use Rattle.events.specs.Values.{lines_said, all_values}
use Rattle.events.specs.Boxes.{told_in, after_line_in, told_all_in, after_lines_in}
use Rattle.run.specs.Events.{event_of, the_box}
use Rattle.run.specs.Found.{TakenTick, taken_by, all_found, all_told}
use Rattle.events.specs.declared.Event.{Event}

-- what is told to a line, and the run after it
abbrev pub told_to : Run → Option Event → Told
told_to r l = told_in the_box r l

abbrev pub after_line : Run → Option Event → Run
after_line r l = after_line_in the_box r l

-- the same for some lines, one after the other
abbrev pub told_to_all : Run → List (Option Event) → List Told
told_to_all r ls = told_all_in the_box r ls

abbrev pub after_lines : Run → List (Option Event) → Run
after_lines r ls = after_lines_in the_box r ls

-- what is handed back, and the lent room after it
pub record Lent : Type 0 where
  pub many : Many Run
  pub room : List ℕ

-- 12: "room as it was"; 13: "it, as it was"
abbrev pub untaken : Refusal → Run → List ℕ → Lent
untaken why r room = record { many = record { answer = Err why; run = r }; room = room }

-- "A writer changes nothing beyond the text."
abbrev pub taken : Run → List (Option Event) → List ℕ → Lent
taken r ls room =
    record {
      many = record { answer = Ok tt; run = after_lines r ls };
      room = all_values (told_to_all r ls) ++ drop (9 * length ls) room;
    }

-- "Others: 13 first"; 12, "lent room shorter than the text": nine numbers for each line
unfoldable pub many_of : Run → List ℕ → List ℕ → Lent
many_of r values room =
    unless sound r say untaken Unsound r room
    else unless leb (9 * length (lines_said values)) (length room) say untaken RoomShort r room
    else taken r (lines_said values) room

-- The taken ticks among some lines, one after the other; another line is no event.
abbrev pub ticks_at : Run → Option Event → List TakenTick
ticks_at r (Some e) = taken_by r e (event_of r e).answer
ticks_at r None = []

unfoldable pub ticks_among : Run → List (Option Event) → List TakenTick
ticks_among r [] = []
ticks_among r (l ∷ ls) = ticks_at r l ++ ticks_among (after_line r l) ls

-- Many event lines once more, and of the taken ticks among them what is told, in one lent room, and
-- what steps 5 and 2 find (Found.antt), in another.
pub record LentBoth : Type 0 where
  pub finding : Finding
  pub told : List ℕ
  pub found : List ℕ

abbrev pub unfound : Refusal → Run → List ℕ → List ℕ → LentBoth
unfound why r told found =
    record { finding = record { answer = Err why; run = r; ticks = 0 }; told = told; found = found }

abbrev pub taken_finding : Run → List (Option Event) → List ℕ → List ℕ → LentBoth
taken_finding r ls told found =
    let ms = ticks_among r ls in
    record {
      finding = record { answer = Ok tt; run = after_lines r ls; ticks = length ms };
      told = all_told ms ++ drop (9 * length ms) told;
      found = all_found r.table ms ++ drop (96 * length ms) found;
    }

-- "Others: 13 first"; 12, "lent room shorter than the text": each line may be a tick that is taken
unfoldable pub find_of : Run → List ℕ → List ℕ → List ℕ → LentBoth
find_of r values told found =
    unless sound r say unfound Unsound r told found
    else unless leb (9 * length (lines_said values)) (length told) && leb (96 * length (lines_said values)) (length found)
    say unfound RoomShort r told found
    else taken_finding r (lines_said values) told found
