-- `scheduler::advance::advance` meets its contract: the three steps are put together. Assumes
-- nothing.
use mathlib.Core.Path.{refl}
use Rattle.scheduler.proofs.Inner.Steps.{advance_is}
use Rattle.scheduler.proofs.advance.advance.Goals as goal

pub returns : goal.returns
returns c =
    let s = c.args.state.now in
    λ t on i k.
    rw c.last_of-state.ensures
    (advance_is t c.args.turn s _ _ _ (c.charge.ensures t i) (c.run_front.ensures t k) (c.age.ensures t s on refl))
