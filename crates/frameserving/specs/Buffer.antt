-- A buffer of an event file served by a frame box (crate lines, specs/Serving.antt).
use Rattle.std.specs.Prelude.{List, ℕ}
use Rattle.framerun.specs.declared.FrameRun.{FrameRun}
use Rattle.framerun.specs.Events.{frame_box}
use Rattle.lines.specs.declared.Held.{Held}
use Rattle.lines.specs.Serving.{Service, service_in, serve_in}
use Rattle.lines.specs.declared.Served.{Served}

-- what is handed back, and the lent room after it
pub record FrameBuffered : Type 0 where
  pub served : Served FrameRun
  pub room : List ℕ

abbrev pub service_of : FrameBuffered → Service FrameRun
service_of d = service_in d.served d.room

abbrev pub buffered_of : Service FrameRun → FrameBuffered
buffered_of d =
    record {
      served = record { answer = d.answer; run = d.run; held = d.held; eaten = d.eaten; put = d.put };
      room = d.room;
    }

abbrev pub frame_serve_of : FrameRun → Held → List ℕ → List ℕ → FrameBuffered
frame_serve_of r h bytes room = buffered_of (serve_in frame_box r h bytes room)
