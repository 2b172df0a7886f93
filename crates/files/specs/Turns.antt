-- A turn of a program that answers an event file with any box: what is made of a read, by how it
-- ended and the bytes that it left (crate lines, specs/Pieces.antt).
use Rattle.std.specs.Prelude.{◌≡◌, Bool, false, List, [], ℕ, ◌≤◌, length, take}
use Rattle.events.specs.Boxes.{Box}
use Rattle.lines.specs.declared.Held.{Held}
use Rattle.lines.specs.Pieces.{Stand, piece_in, end_in}
use Rattle.files.specs.declared.How.{How}
use Rattle.files.specs.declared.How.TheVariants.{On, End, Failed}

unfoldable pub turn_in : {S : Type 0} → Box S → S → Held → How → List ℕ → Stand S
turn_in b s h On bytes = piece_in b s h bytes
turn_in b s h End bytes = end_in s h
turn_in b s h Failed bytes = record { run = s; held = h; text = []; going = false }

-- what stands after a turn, the bytes that were put at the front of the room
abbrev pub stand : {S : Type 0} → S → Held → ℕ → Bool → List ℕ → Stand S
stand s h put going room = record { run = s; held = h; text = take put room; going = going }

-- a piece, and room for its answers
pub record Lent (bytes room : List ℕ) : Type 0 where
  pub few : length bytes ≤ 4096
  pub long : length room ≡ 573440
