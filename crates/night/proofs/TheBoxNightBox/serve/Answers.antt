-- A run serves a buffer as any box does, and stays sound over it: its arrays have their rows. Assumes
-- nothing.
use mathlib.Core.Path.{ap}
use borrow.Author.Rules.{rules}
use Rattle.run.specs.Events.{the_box}
use Rattle.run.proofs.ManyLines.{lines_keep}
use Rattle.lines.proofs.Pieces.{served_sound}
use Rattle.serving.specs.Buffer.{Buffered, service_of}
use Rattle.night.proofs.TheBoxNightBox.serve.Goals as goal

pub returns : goal.returns
returns c =
    let a = c.args in
    record {
      served = ap service_of c.serve-served.ensures;
      sound =
          λ q.
          rw (ap (λ (d : Buffered). d.served.run) c.serve-served.ensures)
          (served_sound the_box a.r a.h a.input.now a.room.now q
          (λ ls.
          (lines_keep a.r ls
          (record {
            table = record { servers = search rules; tasks = search rules };
            state = record { used = search rules; elapsed = search rules; waiting = search rules; runs = search rules };
          })
          q).1));
    }
