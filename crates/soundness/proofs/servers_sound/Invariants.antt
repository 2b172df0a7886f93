-- `soundness::servers_sound` meets its contract: each row passed is sound, so the first that is not
-- decides. Assumes nothing.
use mathlib.Core.Path.{◌≡◌}
use mathlib.Core.Bool.{true}
use Rattle.soundness.specs.Inner.{servers_sound}
use Rattle.soundness.proofs.servers_sound.Given as goal

abbrev pub invariant-loop-i : goal.invariant-loop-i
invariant-loop-i l = servers_sound l.t l.s l.i ≡ true
