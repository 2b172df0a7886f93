-- `framescheduler::sound::tasks_sound` meets its contract: each row passed is sound, so the first that is not
-- decides. Assumes nothing.
use mathlib.Core.Path.{◌≡◌}
use mathlib.Core.Bool.{true}
use Rattle.framescheduler.specs.Inner.{tasks_sound}
use Rattle.framescheduler.proofs.sound.tasks_sound.Given as goal

abbrev pub invariant-loop-k : goal.invariant-loop-k
invariant-loop-k l = tasks_sound l.r.table l.r.state l.k ≡ true
