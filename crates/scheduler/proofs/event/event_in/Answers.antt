-- `scheduler::event::event_in` meets its contract: a release or a tick. Assumes nothing.
use Rattle.scheduler.proofs.Inner.Events.{few}
use Rattle.scheduler.proofs.event.event_in.Goals as goal

pub release_in-requires : goal.release_in-requires
release_in-requires c = (few _ _ _ c.requires.0.1).tasks
