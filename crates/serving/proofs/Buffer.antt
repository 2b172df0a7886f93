-- A run serves buffers as any box does (crate lines, proofs/Answered.antt): buffers of any length are
-- answered together as the whole file is. Assumes nothing.
use mathlib.Core.Path.{◌≡◌}
use mathlib.Core.Bool.{true}
use mathlib.Core.List.{List, [], ◌∷◌, ◌++◌}
use Prim.Native.Nat.{ℕ, ◌≤◌, ◌<◌}
use lib.ListN.{length}
use Rattle.decimal.specs.Lines.{closed}
use Rattle.run.specs.declared.Run.{Run}
use Rattle.run.specs.Sound.{sound}
use Rattle.run.specs.Events.{the_box}
use Rattle.lines.specs.declared.Held.{Held}
use Rattle.lines.specs.EventLine.{event_lines}
use Rattle.lines.specs.HeldLine.{line_in, held_of}
use Rattle.lines.specs.Cutting.{last_line}
use Rattle.lines.specs.Print.{longest_answer}
use Rattle.lines.specs.Night.{answer_lines}
use Rattle.lines.proofs.Answered.{AnsweredBy, eaten_of, put_of, answered_file, two_served, served_some}
use Rattle.serving.specs.Buffer.{service_of, serve_of}

-- The file ends: from a start with nothing held, what is answered is what the night says.
pub answered_night : (r : Run) (bytes text : List ℕ) (z : Run) (k : Held) →
    AnsweredBy the_box r (held_of []) bytes text z k →
    text ++ closed (answer_lines z (last_line (line_in k))) ≡ closed (answer_lines r (event_lines bytes))
answered_night r bytes text z k a = answered_file the_box r bytes text z k a

-- So for two buffers, and likewise for any number of them.
pub two_buffers : (r : Run) (h : Held) (xs ys room lent : List ℕ) →
    let a = service_of (serve_of r h xs room) in
    let b = service_of (serve_of a.run a.held ys lent) in
    AnsweredBy the_box r h (eaten_of a xs ++ eaten_of b ys) (put_of a ++ put_of b) b.run b.held
two_buffers r h xs ys room lent = two_served the_box r h xs ys room lent

-- Where there is room for one answer, something is taken of any buffer that is not empty.
pub eaten_some : (r : Run) (h : Held) (b : ℕ) (bytes room : List ℕ) → sound r ≡ true → longest_answer ≤ length room →
    0 < (serve_of r h (b ∷ bytes) room).served.eaten
eaten_some r h b bytes room q l = served_some the_box r h b bytes room q l
