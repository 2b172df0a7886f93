-- What a run answers to many lines at once is what any box does (crate lines, specs/Many.antt). Assumes
-- nothing.
use mathlib.Core.Path.{◌≡◌}
use mathlib.Core.List.{List}
use Prim.Native.Nat.{ℕ, ◌*◌}
use lib.Dec.{leb}
use lib.ListN.{length}
use Rattle.table.specs.declared.Refusal.TheVariants.{RoomShort, Unsound}
use Rattle.events.specs.Values.{lines_said}
use Rattle.run.specs.declared.Run.{Run}
use Rattle.run.specs.Sound.{sound}
use Rattle.run.specs.Events.{the_box}
use Rattle.run.specs.Many.{Lent, untaken, taken, many_of}
use Rattle.lines.specs.Many.{LentIn, many_in}
use Rattle.lines.proofs.Serving.{doors_same}

abbrev pub as_any : Lent → LentIn Run
as_any x = record { many = x.many; room = x.room }

pub many_same : (r : Run) (values room : List ℕ) → as_any (many_of r values room) ≡ many_in the_box r values room
unfolding many_of many_in
many_same r values room =
    let ls = lines_said values in
    doors_same as_any (sound r) (leb (9 * length ls) (length room)) (untaken Unsound r room) (untaken RoomShort r room)
    (taken r ls room)
