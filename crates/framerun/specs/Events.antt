-- A frame box takes events one after the other, in any order. Each is taken or refused, and answered.
-- It is a box (crate events), so what is said there of every box is said of it.
use Rattle.events.specs.declared.Event.{Event}
use Rattle.events.specs.declared.Event.TheVariants.{Release, Tick}
use Rattle.events.specs.Boxes.{Box}
use Rattle.framerun.specs.declared.FrameRun.{FrameRun}
use Rattle.events.specs.declared.Answered.{Answered}
use Rattle.framerun.specs.Sound.{frame_sound}
use Rattle.framerun.specs.Release.{release_of}
use Rattle.framerun.specs.Tick.{tick_of}

abbrev pub event_of : FrameRun → Event → Answered FrameRun
event_of r (Release k) = release_of r k
event_of r (Tick mark) = tick_of r mark

abbrev pub frame_box : Box FrameRun
frame_box = record { sound = frame_sound; answer = λ r e. (event_of r e).answer; next = λ r e. (event_of r e).run }
