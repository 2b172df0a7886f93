-- A run takes events one after the other, in any order. Each is taken or refused, and answered. It is
-- a box (crate events), so what is said there of every box is said of it.
use Rattle.std.specs.Prelude.{List}
use Rattle.events.specs.declared.Answer.{Answer}
use Rattle.events.specs.declared.Event.{Event}
use Rattle.events.specs.declared.Event.TheVariants.{Release, Tick}
use Rattle.events.specs.Boxes.{Box, after_in, answers_in}
use Rattle.run.specs.declared.Run.{Run}
use Rattle.events.specs.declared.Answered.{Answered}
use Rattle.run.specs.Sound.{sound}
use Rattle.run.specs.Release.{release_of}
use Rattle.run.specs.Tick.{tick_of}

abbrev pub event_of : Run → Event → Answered Run
event_of r (Release k) = release_of r k
event_of r (Tick mark) = tick_of r mark

abbrev pub the_box : Box Run
the_box = record { sound = sound; answer = λ r e. (event_of r e).answer; next = λ r e. (event_of r e).run }

-- the run after some events
abbrev pub after : Run → List Event → Run
after r es = after_in the_box r es

-- the answers to some events, in order
abbrev pub answers : Run → List Event → List Answer
answers r es = answers_in the_box r es
