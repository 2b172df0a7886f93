-- `scheduler::settle::settle` meets its contract: each call makes one step, and the four are put
-- together. Assumes nothing.
use Rattle.scheduler.proofs.Inner.Steps.{settled_is}
use Rattle.scheduler.proofs.settle.settle.Goals as goal

pub returns : goal.returns
returns c =
    λ t ss ks.
    let told = c.discard-discarded.ensures t ks in
    let s₃ = c.settle_mode.new.state in
    settled_is t c.args.state.now c.args.mark c.mark_job-left.new.state c.discard-discarded.new.state s₃ _
    c.mark_job-left.result c.discard-discarded.result (c.mark_job-left.ensures t ks) told.0 told.1
    (c.settle_mode.ensures t ks) (c.refill.ensures t s₃ ss) _ told.2
