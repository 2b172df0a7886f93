-- Many event lines at once, lent as plain numbers (crate events, specs/Values.antt): each is taken or
-- refused in turn, and what is told to them is left in a lent room. Whether the run is sound is decided
-- once for all of them.
use Rattle.std.specs.Prelude.{List, ◌++◌, ℕ, ◌*◌, leb, length, drop, Err, Ok, Option}
use Rattle.laws.specs.Choice.{unless◌say◌else◌}
use Rattle.table.specs.declared.Refusal.{Refusal}
use Rattle.table.specs.declared.Refusal.TheVariants.{RoomShort, Unsound}
use Rattle.events.specs.Values.{lines_said, all_values}
use Rattle.events.specs.Boxes.{told_all_in, after_lines_in}
use Rattle.framerun.specs.declared.FrameRun.{FrameRun}
use Rattle.events.specs.declared.Many.{Many}
use Rattle.framerun.specs.Sound.{frame_sound}
use Rattle.framerun.specs.Events.{frame_box}
use Rattle.events.specs.declared.Event.{Event}

-- what is handed back, and the lent room after it
pub record FrameLent : Type 0 where
  pub many : Many FrameRun
  pub room : List ℕ

-- 12: "room as it was"; 13: "it, as it was"
abbrev pub untaken : Refusal → FrameRun → List ℕ → FrameLent
untaken why r room = record { many = record { answer = Err why; run = r }; room = room }

-- "A writer changes nothing beyond the text."
abbrev pub taken : FrameRun → List (Option Event) → List ℕ → FrameLent
taken r ls room =
    record {
      many = record { answer = Ok tt; run = after_lines_in frame_box r ls };
      room = all_values (told_all_in frame_box r ls) ++ drop (9 * length ls) room;
    }

-- "Others: 13 first"; 12, "lent room shorter than the text": nine numbers for each line
unfoldable pub frame_many_of : FrameRun → List ℕ → List ℕ → FrameLent
frame_many_of r values room =
    unless frame_sound r say untaken Unsound r room
    else unless leb (9 * length (lines_said values)) (length room) say untaken RoomShort r room
    else taken r (lines_said values) room
