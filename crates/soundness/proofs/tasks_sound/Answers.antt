-- `soundness::tasks_sound` meets its contract: each row passed is sound, so the first that is not
-- decides. Assumes nothing.
use mathlib.Core.Path.{sym, ◌∙◌}
use native.Mathlib.Omega.{arith}
use lib.ListN.{length-take}
use Rattle.laws.specs.Choice.{every}
use Rattle.laws.proofs.Rows.{all_none, all_more, all_fails}
use Rattle.run.specs.Sound.{sound_task}
use Rattle.soundness.proofs.Inner.{task_asked}
use Rattle.soundness.proofs.tasks_sound.Goals as goal

pub loop-k-init : goal.loop-k-init
loop-k-init c = sym (all_none _)

pub returns-then-not-task_sound : goal.returns-then-not-task_sound
returns-then-not-task_sound c =
    let t = c.args.t.now in
    let s = c.args.s.now in
    let k = c.loop-k.k in
    sym
    (all_fails (λ j. every (sound_task t s j)) t.ntasks k
    (omega (arith, length-take t.ntasks t.tasks, c.loop-k-test.true))
    (task_asked t s k c.loop-k-test.true
    ∙ rw (← c.is_last-ran.ensures)
    (sym c.task_sound.ensures ∙ c.if-not-task_sound.true)))

pub loop-k-preserved : goal.loop-k-preserved
loop-k-preserved c =
    let t = c.args.t.now in
    let s = c.args.s.now in
    let l = c.loop-k in
    all_more (λ j. every (sound_task t s j)) l.k l.invariant
    (task_asked t s l.k c.loop-k-test.true
    ∙ rw (← c.is_last-ran.ensures)
    (sym c.task_sound.ensures ∙ c.if-not-task_sound.false))
