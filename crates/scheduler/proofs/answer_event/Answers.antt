-- `scheduler::answer_event` meets its contract: 13 is decided first, and a sound state goes to the steps
-- behind the door. Assumes nothing.
use Rattle.scheduler.proofs.Inner.Events.{event_unsound}
use Rattle.scheduler.proofs.answer_event.Goals as goal

pub returns-in-Err : goal.returns-in-Err
returns-in-Err c = rw c.in-Err.ensures.0 (event_unsound c.args.r c.args.e c.in-Err.ensures.1)
