-- `scheduler::event::tick_in` meets its contract: the steps that the calls make, put together, are
-- a tick that is taken. Assumes nothing.
use mathlib.Core.Bool.{not, ◌||◌}
use mathlib.Core.Path.{◌≡◌, sym, ap, ◌∙◌}
use lib.ListN.{take}
use Rattle.table.specs.declared.Refusal.TheVariants.{NoJobRan, CountSpent}
use Rattle.table.specs.declared.Table.{Table}
use Rattle.run.specs.declared.State.{State}
use Rattle.run.specs.Found.{top_priority}
use Rattle.queues.specs.Queues.{ran_job}
use Rattle.run.specs.Tick.{choose}
use Rattle.scheduler.specs.Inner.Choose.{with_tops}
use Rattle.scheduler.specs.Inner.Steps.{SettledSo}
use Rattle.scheduler.specs.Inner.Events.{SoundRun, run_of}
use Rattle.scheduler.proofs.Inner.Events.{few, ran_job_lem, server_in, task_in, room}
use Rattle.scheduler.proofs.Inner.Events.{tick_no_job, tick_spent, tick_taken_lem, refused_finds, taken_finds}
use Rattle.scheduler.proofs.event.tick_in.Goals as goal
use Rattle.scheduler.proofs.event.tick_in.Goals.{After-choose_turn-turn, After-mark_may_come}

-- whether the mark may come, as the definition asks it
asked : (c : After-mark_may_come) → (not c.args.mark || ran_job c.args.state.now.last) ≡ c.mark_may_come.result
asked c = rw (← c.ran_job.ensures) (sym c.mark_may_come.ensures)

-- what steps 1 to 4 left, and the turn of that state
module _ (c : After-choose_turn-turn) where
  abbrev after : State
  after = c.settle-settled.new.state

  settled : (t : Table) → SoundRun t c.args.sheets.now c.args.state.now →
      SettledSo t c.args.mark c.args.state.now after c.settle-settled.new.found c.settle-settled.result
  settled t p = c.settle-settled.ensures t p.shows.servers p.shows.tasks

  chosen : (t : Table) → SoundRun t c.args.sheets.now c.args.state.now →
      (c.choose_turn-turn.result ≡ choose t after)
      × (c.choose_turn-turn.new.found ≡ with_tops (top_priority t after) c.settle-settled.new.found)
  chosen t p = c.choose_turn-turn.ensures t p.shows

pub returns-then-not-mark_may_come : goal.returns-then-not-mark_may_come
returns-then-not-mark_may_come c =
    let m = asked (goal.at.returns-then-not-mark_may_come c).After-mark_may_come in
    λ t p.
    let r = run_of t c.args.state.now in
    let q = tick_no_job r c.args.mark p.sound (m ∙ c.if-not-mark_may_come.true) in
    record { says = q; found = refused_finds r c.args.mark _ NoJobRan (ap (λ x. x.answer) q) c.requires.1 }

pub returns-then-tick-ge-MOST : goal.returns-then-tick-ge-MOST
returns-then-tick-ge-MOST c =
    let m = asked (goal.at.returns-then-tick-ge-MOST c).After-mark_may_come in
    λ t p.
    let r = run_of t c.args.state.now in
    let q = tick_spent r c.args.mark p.sound (m ∙ c.if-not-mark_may_come.false) c.if-tick-ge-MOST.true in
    record { says = q; found = refused_finds r c.args.mark _ CountSpent (ap (λ x. x.answer) q) c.requires.1 }

pub settle-settled-requires : goal.settle-settled-requires
settle-settled-requires c =
    let p = c.requires in
    (few _ _ _ p.0.1, ran_job_lem _ _ _ p.0.1, p.1)

pub choose_turn-turn-requires : goal.choose_turn-turn-requires
choose_turn-turn-requires c =
    let p = c.requires.0 in
    let q = p.1.shows in
    ((p.0, q), ap (take 32) (c.settle-settled.ensures p.0 q.servers q.tasks).found)

pub advance-requires : goal.advance-requires
advance-requires c =
    let b = (goal.at.advance-requires c).After-choose_turn-turn in
    let t = c.requires.0.0 in
    let p = c.requires.0.1 in
    room t _ _ p c.args.mark _ _ _ _ (settled b t p) (chosen b t p).0 c.if-tick-ge-MOST.false

pub returns : goal.returns
returns c =
    let b = (goal.at.returns c).After-choose_turn-turn in
    let m = asked (goal.at.returns c).After-mark_may_come in
    let mark = c.args.mark in
    let turn = c.choose_turn-turn.result in
    let z = after b in
    λ t p.
    let g = settled b t p in
    let o = chosen b t p in
    let r = run_of t c.args.state.now in
    let q =
    tick_taken_lem r mark p.sound (m ∙ c.if-not-mark_may_come.false) c.if-tick-ge-MOST.false z _
    c.settle-settled.result.left c.settle-settled.result.discarded turn g.state g.left g.count o.0
    (c.advance.ensures t p.shows.servers (server_in t z turn o.0) (task_in t z turn o.0)) in
    record { says = q; found = taken_finds r mark _ _ (ap (λ x. x.answer) q) z _ g.state g.found o.1 }
