-- A buffer of an event file served by a run (crate lines, specs/Serving.antt).
use Rattle.std.specs.Prelude.{List, ℕ, Err}
use Rattle.table.specs.declared.Refusal.{Refusal}
use Rattle.run.specs.declared.Run.{Run}
use Rattle.run.specs.Events.{the_box}
use Rattle.lines.specs.declared.Held.{Held}
use Rattle.lines.specs.Serving.{Service, service_in, serve_in}
use Rattle.lines.specs.declared.Served.{Served}

-- what is handed back, and the lent room after it
pub record Buffered : Type 0 where
  pub served : Served Run
  pub room : List ℕ

-- nothing of a buffer is taken: what was handed in comes back
abbrev pub untaken : {S : Type 0} → Refusal → S → Held → Served S
untaken why r h = record { answer = Err why; run = r; held = h; eaten = 0; put = 0 }

abbrev pub service_of : Buffered → Service Run
service_of d = service_in d.served d.room

abbrev pub buffered_of : Service Run → Buffered
buffered_of d =
    record {
      served = record { answer = d.answer; run = d.run; held = d.held; eaten = d.eaten; put = d.put };
      room = d.room;
    }

abbrev pub serve_of : Run → Held → List ℕ → List ℕ → Buffered
serve_of r h bytes room = buffered_of (serve_in the_box r h bytes room)
