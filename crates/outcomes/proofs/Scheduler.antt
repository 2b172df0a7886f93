-- The contracts of crate scheduler settle what they answer and what they leave in the lent rooms:
-- two outcomes that one of them allows equal the same definition's value. Assumes nothing.
use mathlib.Core.Path.{refl, ap, sym, ◌∙◌}
use Rattle.scheduler.proofs.start
use Rattle.scheduler.proofs.release
use Rattle.scheduler.proofs.tick
use Rattle.scheduler.proofs.many.answer_many
use Rattle.scheduler.proofs.many.find_many
use Rattle.outcomes.specs.OneOutcome.{OneOutcome}
use Rattle.outcomes.proofs.OneOutcome.{settled}

pub start_settled : OneOutcome start.Kinds.ps start.Kinds.r start.Reads.Asked start.Reads.Learnt
start_settled = settled (λ κs a. tt) (λ κs a x y p q. (p ∙ sym q, refl))

pub release_settled : OneOutcome release.Kinds.ps release.Kinds.r release.Reads.Asked release.Reads.Learnt
release_settled = settled (λ κs a. tt) (λ κs a x y p q. (p ∙ sym q, refl))

pub tick_settled : OneOutcome tick.Kinds.ps tick.Kinds.r tick.Reads.Asked tick.Reads.Learnt
tick_settled = settled (λ κs a. tt) (λ κs a x y p q. (p ∙ sym q, refl))

pub answer_many_settled : OneOutcome answer_many.Kinds.ps answer_many.Kinds.r answer_many.Reads.Asked answer_many.Reads.Learnt
answer_many_settled = settled (λ κs a. tt) (λ κs a x y p q.
    (ap (λ v. v.many) (p ∙ sym q), ap (λ v. (tt, (tt, (v.room, tt)))) (p ∙ sym q)))

pub find_many_settled : OneOutcome find_many.Kinds.ps find_many.Kinds.r find_many.Reads.Asked find_many.Reads.Learnt
find_many_settled = settled (λ κs a. tt) (λ κs a x y p q.
    (ap (λ v. v.finding) (p ∙ sym q), ap (λ v. (tt, (tt, (v.told, (v.found, tt))))) (p ∙ sym q)))
