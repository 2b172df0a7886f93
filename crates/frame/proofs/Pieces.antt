-- What the contract of the night's turns says of a frame box is what this crate says of it, and the pieces of
-- a file together are answered as the definition of a frame box's night says. Assumes nothing.
use Rattle.std.proofs.Common.{Ok}
use mathlib.Core.Path.{◌≡◌, refl}
use mathlib.Core.List.{List, []}
use Prim.Native.Nat.{ℕ}
use Rattle.frametable.specs.Text.{frame_read, frame_shown}
use Rattle.framerun.specs.Release.{fresh_frame}
use Rattle.framerun.specs.Events.{frame_box}
use Rattle.lines.specs.HeldLine.{held_of}
use Rattle.lines.specs.Pieces.{joined, piece_in}
use Rattle.lines.proofs.Pieces.{pieces_lines}
use Rattle.frameserving.specs.Night.{frame_night}
use Rattle.frame.specs.Pieces.{piece_of, turn_of, written}
use Rattle.framerun.specs.declared.FrameRun.{FrameRun}
use Rattle.lines.specs.declared.Held.{Held}
use Rattle.files.specs.declared.How.{How}
use Rattle.files.specs.Turns.{turn_in}

pub piece_same : (r : FrameRun) (h : Held) (bytes : List ℕ) → piece_of r h bytes ≡ piece_in frame_box r h bytes
piece_same r h bytes = refl

pub turn_same : (r : FrameRun) (h : Held) (how : How) (bytes : List ℕ) →
    turn_of r h how bytes ≡ turn_in frame_box r h how bytes
turn_same r h how bytes = refl

pub pieces_frame : (table : List ℕ) (ps : List (List ℕ)) → (frame_shown (frame_read table)).answer ≡ Ok tt →
    written (fresh_frame (frame_shown (frame_read table)).table) (held_of []) ps ≡ frame_night table (joined ps)
unfolding frame_night
pieces_frame table ps e =
    let d = frame_shown (frame_read table) in pieces_lines frame_box d.answer (fresh_frame d.table) ps e
