-- The contract of crate soundness settles what it answers: two outcomes that it allows equal the
-- same definition's value. Assumes nothing.
use mathlib.Core.Path.{refl, sym, ◌∙◌}
use Rattle.soundness.proofs.run_sound
use Rattle.outcomes.specs.OneOutcome.{OneOutcome}
use Rattle.outcomes.proofs.OneOutcome.{settled}

pub run_sound_settled : OneOutcome run_sound.Kinds.ps run_sound.Kinds.r run_sound.Reads.Asked run_sound.Reads.Learnt
run_sound_settled = settled (λ κs a. tt) (λ κs a x y p q. (p ∙ sym q, refl))
