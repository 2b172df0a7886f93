-- `soundness::tasks_sound` meets its contract: each row passed is sound, so the first that is not
-- decides. Assumes nothing.
use mathlib.Core.Path.{◌≡◌}
use mathlib.Core.Bool.{true}
use Rattle.soundness.specs.Inner.{tasks_sound}
use Rattle.soundness.proofs.tasks_sound.Given as goal

abbrev pub invariant-loop-k : goal.invariant-loop-k
invariant-loop-k l = tasks_sound l.t l.s l.k ≡ true
