-- `framescheduler::steps::tick_in` meets its contract: each way through the code is a case of a tick. Assumes nothing.
use mathlib.Core.Path.{◌≡◌, sym, ap, ◌∙◌}
use Rattle.slots.specs.Frame.{owner_at}
use Rattle.slots.proofs.Frame.{owner_in}
use Rattle.queues.specs.Queues.{turn_of}
use Rattle.framescheduler.specs.Inner.{Head, state_of, head_of, highest_in, Settles}
use Rattle.framescheduler.proofs.Inner.{last_low, numbered, tick_no_job, tick_spent, tick_taken_lem, turn_low, tick_is}
use Rattle.framescheduler.proofs.steps.tick_in.Goals as goal
use Rattle.framescheduler.proofs.steps.tick_in.Goals.{After-settle-left, After-turn_of-turn}

pub returns-then-not-mark_may_come : goal.returns-then-not-mark_may_come
returns-then-not-mark_may_come c =
    tick_no_job c.args.r.now c.args.mark c.requires.0.sound
    (sym c.mark_may_come.ensures ∙ c.if-not-mark_may_come.true)

pub returns-then-tick-ge-MOST : goal.returns-then-tick-ge-MOST
returns-then-tick-ge-MOST c =
    tick_spent c.args.r.now c.args.mark c.requires.0.sound
    (sym c.mark_may_come.ensures ∙ c.if-not-mark_may_come.false) c.if-tick-ge-MOST.true

pub settle-left-requires : goal.settle-left-requires
settle-left-requires c =
    last_low c.args.r.now.table (head_of c.args.r.now.state) c.args.r.now.state.waiting c.args.r.now.state.runs c.requires.0

pub highest_task-requires : goal.highest_task-requires
highest_task-requires c =
    numbered c.args.r.now.table (head_of c.args.r.now.state) c.args.r.now.state.waiting c.args.r.now.state.runs c.requires.0

-- the mark changes the queues alone
settles : (c : After-settle-left) →
    let r = c.args.r.now in
    let z = c.settle-left.new.s in
    Settles r.table (head_of r.state) c.args.mark r.state.waiting r.state.runs z.waiting z.runs c.settle-left.result
settles c =
    let z = c.settle-left.new.s in
    c.settle-left.ensures.settles
    ∙ ap (λ h. record { state = state_of h z.waiting z.runs; left = c.settle-left.result }) c.settle-left.ensures.kept

-- the turn is the one of the tick's slot
turn : (c : After-turn_of-turn) →
    let o = owner_at c.args.r.now.state.ticks.0 in
    c.turn_of-turn.result ≡ turn_of o (highest_in c.args.r.now.table c.settle-left.new.s.waiting o)
turn c =
    let own = c.slot_in-p.ensures ∙ owner_in c.args.frame.now c.args.r.now.state.ticks.0 c.requires.1 in
    c.turn_of-turn.ensures
    ∙ ap (turn_of c.slot_in-p.result) c.highest_task.ensures
    ∙ ap (λ x. turn_of x (highest_in c.args.r.now.table c.settle-left.new.s.waiting x)) own

pub run_turn-requires : goal.run_turn-requires
run_turn-requires c =
    turn_low c.args.r.now.table (head_of c.args.r.now.state) c.args.r.now.state.waiting c.args.r.now.state.runs c.args.mark c.requires.0 _ _ _
    (settles (goal.at.run_turn-requires c).After-settle-left) c.turn_of-turn.result (turn (goal.at.run_turn-requires c).After-turn_of-turn)

pub returns : goal.returns
returns c =
    rw (c.last_of-r.ensures, ap (λ (h : Head). h.accepted) c.settle-left.ensures.kept)
    (tick_is c.args.r.now.table (head_of c.args.r.now.state) c.args.r.now.state.waiting c.args.r.now.state.runs c.args.mark c.requires.0 _ _ _
    (settles (goal.at.returns c).After-settle-left) c.turn_of-turn.result _ (turn (goal.at.returns c).After-turn_of-turn) c.run_turn.ensures
    ∙ tick_taken_lem c.args.r.now c.args.mark c.requires.0.sound
    (sym c.mark_may_come.ensures ∙ c.if-not-mark_may_come.false) c.if-tick-ge-MOST.false)
