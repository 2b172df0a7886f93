-- What a frame box answers to many lines at once is what any box does (crate lines, specs/Many.antt).
-- Assumes nothing.
use mathlib.Core.Path.{◌≡◌}
use mathlib.Core.List.{List}
use Prim.Native.Nat.{ℕ, ◌*◌}
use lib.Dec.{leb}
use lib.ListN.{length}
use Rattle.table.specs.declared.Refusal.TheVariants.{RoomShort, Unsound}
use Rattle.events.specs.Values.{lines_said}
use Rattle.framerun.specs.declared.FrameRun.{FrameRun}
use Rattle.framerun.specs.Sound.{frame_sound}
use Rattle.framerun.specs.Events.{frame_box}
use Rattle.framerun.specs.Many.{FrameLent, untaken, taken, frame_many_of}
use Rattle.lines.specs.Many.{LentIn, many_in}
use Rattle.lines.proofs.Serving.{doors_same}

abbrev pub as_any : FrameLent → LentIn FrameRun
as_any x = record { many = x.many; room = x.room }

pub many_same : (r : FrameRun) (values room : List ℕ) →
    as_any (frame_many_of r values room) ≡ many_in frame_box r values room
unfolding frame_many_of many_in
many_same r values room =
    let ls = lines_said values in
    doors_same as_any (frame_sound r) (leb (9 * length ls) (length room)) (untaken Unsound r room)
    (untaken RoomShort r room) (taken r ls room)
