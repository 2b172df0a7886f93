-- A frame box serves a buffer as any box does, and stays sound over it: its arrays have their rows.
-- Assumes nothing.
use mathlib.Core.Path.{ap}
use borrow.Author.Rules.{rules}
use Rattle.framerun.specs.Events.{frame_box}
use Rattle.framerun.proofs.Kept.{frame_lines_keep}
use Rattle.lines.proofs.Pieces.{served_sound}
use Rattle.frameserving.specs.Buffer.{FrameBuffered, service_of}
use Rattle.frame.proofs.TheBoxNightBox.serve.Goals as goal

pub returns : goal.returns
returns c =
    let a = c.args in
    record {
      served = ap service_of c.serve-served.ensures;
      sound =
          λ q.
          rw (ap (λ (d : FrameBuffered). d.served.run) c.serve-served.ensures)
          (served_sound frame_box a.r a.h a.input.now a.room.now q
          (λ ls.
          (frame_lines_keep a.r ls
          (record {
            table = record { tasks = search rules };
            state = record { waiting = search rules; runs = search rules };
          })
          q).1));
    }
