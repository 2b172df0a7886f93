-- A frame box serves buffers as any box does (crate lines, proofs/Answered.antt): buffers of any length
-- are answered together as the whole file is. Assumes nothing.
use mathlib.Core.Path.{◌≡◌}
use mathlib.Core.Bool.{true}
use mathlib.Core.List.{List, ◌∷◌, ◌++◌}
use Prim.Native.Nat.{ℕ, ◌≤◌, ◌<◌}
use lib.ListN.{length}
use Rattle.framerun.specs.declared.FrameRun.{FrameRun}
use Rattle.framerun.specs.Sound.{frame_sound}
use Rattle.framerun.specs.Events.{frame_box}
use Rattle.lines.specs.declared.Held.{Held}
use Rattle.lines.specs.Print.{longest_answer}
use Rattle.lines.proofs.Answered.{AnsweredBy, eaten_of, put_of, two_served, served_some}
use Rattle.frameserving.specs.Buffer.{service_of, frame_serve_of}

-- What stands after two buffers is what stands after their bytes, and likewise for any number of them.
pub frame_two_buffers : (r : FrameRun) (h : Held) (xs ys room lent : List ℕ) →
    let a = service_of (frame_serve_of r h xs room) in
    let b = service_of (frame_serve_of a.run a.held ys lent) in
    AnsweredBy frame_box r h (eaten_of a xs ++ eaten_of b ys) (put_of a ++ put_of b) b.run b.held
frame_two_buffers r h xs ys room lent = two_served frame_box r h xs ys room lent

-- Where there is room for one answer, something is taken of any buffer that is not empty.
pub frame_eaten_some : (r : FrameRun) (h : Held) (b : ℕ) (bytes room : List ℕ) → frame_sound r ≡ true → longest_answer ≤ length room →
    0 < (frame_serve_of r h (b ∷ bytes) room).served.eaten
frame_eaten_some r h b bytes room q l = served_some frame_box r h b bytes room q l
