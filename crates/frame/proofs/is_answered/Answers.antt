-- `frame::is_answered` is safe, and the night that it begins is ready: a table that was taken keeps the
-- rules, so a fresh run of it is sound. Assumes nothing.
use Rattle.std.proofs.Common.{◌≡◌, [], Option, Some, Result, Ok, sym, rules}
use Rattle.frametable.specs.Inner.{FrameSized}
use Rattle.frametable.specs.declared.FrameTable.{FrameTable}
use Rattle.frametable.specs.Text.{frame_read, frame_shown}
use Rattle.text.specs.declared.ReadError.{ReadError}
use Rattle.text.specs.TableText.{handed}
use Rattle.events.specs.declared.Begun.{Begun}
use Rattle.framerun.specs.Release.{start_of}
use Rattle.framerun.specs.Events.{frame_box}
use Rattle.framerun.proofs.Kept.{fresh_keeps}
use Rattle.lines.specs.declared.Held.{Held}
use Rattle.lines.specs.HeldLine.{held_of}
use Rattle.lines.specs.Pieces.{Ready}
use Rattle.lines.proofs.HeldLine.{held_again}
use Rattle.files.specs.Handed.{Handed}
use Rattle.files.proofs.Handed.{given_taken}
use Rattle.frame.proofs.Handed.{frame_given_keeps, frame_start_run}
use Rattle.frame.proofs.is_answered.Goals as goal
use Rattle.framerun.specs.declared.FrameRun.{FrameRun}

begun : (g : Option (Result FrameTable ReadError)) → Handed (λ text. handed (frame_shown (frame_read text))) g → (t : FrameTable) → FrameSized t →
    g ≡ Some (Ok t) → (b : Begun FrameRun) → b ≡ start_of t → (h : Held) → h ≡ held_of [] → Ready frame_box b.run h
begun g d t z e b p h q =
    record {
      sound = rw (p, frame_start_run t) (fresh_keeps t z (frame_given_keeps g d t e)).1;
      held = rw q (sym (held_again []));
    }

pub invariant_of-night : goal.invariant_of-night
invariant_of-night g c =
    record {
      ready =
          begun c.take_table.result c.take_table.ensures _ (record { tasks = search rules })
          (given_taken c.in-Some-take_table.is c.say_refused.ensures c.in-Ok.is)
          c.start-started.result c.start-started.ensures c.no_line-held.result c.no_line-held.ensures;
    }
