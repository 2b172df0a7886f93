-- What the contract of the night's turns says of a run is what this crate says of it, and the pieces of a
-- file together are answered as the night's definition says. Assumes nothing.
use Rattle.std.proofs.Common.{Ok}
use mathlib.Core.Path.{◌≡◌, refl}
use mathlib.Core.List.{List, []}
use Prim.Native.Nat.{ℕ}
use Rattle.text.specs.Read.{read, shown}
use Rattle.run.specs.Release.{fresh_run}
use Rattle.run.specs.Events.{the_box}
use Rattle.lines.specs.HeldLine.{held_of}
use Rattle.lines.specs.Night.{night}
use Rattle.lines.specs.Pieces.{joined, piece_in}
use Rattle.lines.proofs.Pieces.{pieces_lines}
use Rattle.night.specs.Pieces.{piece_of, turn_of, written}
use Rattle.run.specs.declared.Run.{Run}
use Rattle.lines.specs.declared.Held.{Held}
use Rattle.files.specs.declared.How.{How}
use Rattle.files.specs.Turns.{turn_in}

pub piece_same : (r : Run) (h : Held) (bytes : List ℕ) → piece_of r h bytes ≡ piece_in the_box r h bytes
piece_same r h bytes = refl

pub turn_same : (r : Run) (h : Held) (how : How) (bytes : List ℕ) →
    turn_of r h how bytes ≡ turn_in the_box r h how bytes
turn_same r h how bytes = refl

pub pieces_night : (table : List ℕ) (ps : List (List ℕ)) → (shown (read table)).answer ≡ Ok tt →
    written (fresh_run (shown (read table)).table) (held_of []) ps ≡ night table (joined ps)
unfolding night
pieces_night table ps e =
    let d = shown (read table) in pieces_lines the_box d.answer (fresh_run d.table) ps e
