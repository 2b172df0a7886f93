-- `framescheduler::sound::tasks_sound` meets its contract: each row passed is sound, so the first that is not
-- decides. Assumes nothing.
use mathlib.Core.Path.{sym, ◌∙◌}
use native.Mathlib.Omega.{arith}
use lib.ListN.{length-take}
use Rattle.laws.specs.Choice.{every}
use Rattle.laws.proofs.Rows.{all_none, all_more, all_fails}
use Rattle.framerun.specs.Sound.{sound_task}
use Rattle.framescheduler.proofs.Inner.{task_asked}
use Rattle.framescheduler.proofs.sound.tasks_sound.Goals as goal

pub loop-k-init : goal.loop-k-init
loop-k-init c = sym (all_none _)

pub returns-then-not-queue_sound : goal.returns-then-not-queue_sound
returns-then-not-queue_sound c =
    let t = c.args.r.now.table in
    let s = c.args.r.now.state in
    let k = c.loop-k.k in
    sym
    (all_fails (λ j. every (sound_task t s j)) t.ntasks k
    (omega (arith, length-take t.ntasks t.tasks, c.loop-k-test.true))
    (task_asked t s k c.loop-k-test.true
    ∙ rw (← c.is_last-ran.ensures)
    (sym c.queue_sound.ensures ∙ c.if-not-queue_sound.true)))

pub loop-k-preserved : goal.loop-k-preserved
loop-k-preserved c =
    let t = c.args.r.now.table in
    let s = c.args.r.now.state in
    let l = c.loop-k in
    all_more (λ j. every (sound_task t s j)) l.k l.invariant
    (task_asked t s l.k c.loop-k-test.true
    ∙ rw (← c.is_last-ran.ensures)
    (sym c.queue_sound.ensures ∙ c.if-not-queue_sound.false))
