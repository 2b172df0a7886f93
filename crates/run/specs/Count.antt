-- Jobs discarded, task by task. An answer tells how many were discarded, not of which tasks, so these
-- are read off the run at the ticks taken; all else is counted from the answers (crate events).
use Rattle.std.specs.Prelude.{List, [], ◌∷◌, ℕ, ◌+◌}
use Rattle.events.specs.declared.Event.{Event}
use Rattle.events.specs.declared.Event.TheVariants.{Release, Tick}
use Rattle.events.specs.Count.{if_ticked}
use Rattle.run.specs.declared.Run.{Run}
use Rattle.run.specs.Tick.{settle, tick_of}
use Rattle.run.specs.Events.{event_of}

abbrev pub discarded_by : Run → Event → ℕ → ℕ
discarded_by r (Release j) k = 0
discarded_by r (Tick mark) k = if_ticked (tick_of r mark).answer ((settle r.table r.state mark).discarded k)

unfoldable pub discarded_of : Run → List Event → ℕ → ℕ
discarded_of r [] k = 0
discarded_of r (e ∷ es) k = discarded_by r e k + discarded_of (event_of r e).run es k
