-- Only contracts of inner functions cite this file; a buyer need not read it. It says what is done
-- with lines that were cut.
use Rattle.std.specs.Prelude.{◌≡◌, Bool, true, false, List, ℕ, ◌*◌, ◌≤◌, length, Err, Ok, Option, Result}
use Rattle.laws.specs.Choice.{unless◌say◌else◌}
use Rattle.table.specs.declared.Refusal.TheVariants.{RoomShort, Unsound}
use Rattle.events.specs.Values.{lines_said, all_line_values}
use Rattle.events.specs.Boxes.{Box}
use Rattle.lines.specs.declared.Held.{Held}
use Rattle.lines.specs.declared.Cut.{Cut}
use Rattle.lines.specs.Print.{longest_answer}
use Rattle.lines.specs.Serving.{Service, unserved, answered_in, batch}
use Rattle.events.specs.declared.Event.{Event}
use Rattle.table.specs.declared.Refusal.{Refusal}

-- numbers that say lines as they are said, at most a batch, whose answers the room holds
pub record Fit (values : List ℕ) (room : ℕ) : Type 0 where
  pub said : values ≡ all_line_values (lines_said values)
  pub few : length (lines_said values) ≤ batch
  pub fits : longest_answer * length (lines_said values) ≤ room

abbrev pub is_taken : Result (Unit {0}) Refusal → Bool
is_taken (Ok tt) = true
is_taken (Err why) = false

-- the lines ls were cut: the box answers them, unless it is not sound or there was no room for one
unfoldable pub answered_cut : {S : Type 0} → Box S → S → Held → Cut → List (Option Event) → List ℕ → Service S
answered_cut b s h c ls room =
    unless b.sound s say unserved Unsound s h room
    else unless is_taken c.answer say unserved RoomShort s h room
    else answered_in b s ls c.held c.eaten room
