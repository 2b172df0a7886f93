-- The contracts of crate queues settle what they answer and what they leave in the lent arrays: two
-- outcomes that one of them allows equal the same definition's value. Assumes nothing.
use mathlib.Core.Path.{refl, ap, sym, ◌∙◌}
use Rattle.queues.proofs.is_last
use Rattle.queues.proofs.ran_job
use Rattle.queues.proofs.join
use Rattle.queues.proofs.leave
use Rattle.queues.proofs.run_front
use Rattle.queues.proofs.queue_sound
use Rattle.queues.proofs.job_count
use Rattle.queues.proofs.jobs_waiting
use Rattle.queues.proofs.last_sound
use Rattle.queues.proofs.counts_sound
use Rattle.outcomes.specs.OneOutcome.{OneOutcome}
use Rattle.outcomes.proofs.OneOutcome.{settled}

pub is_last_settled : OneOutcome is_last.Kinds.ps is_last.Kinds.r is_last.Reads.Asked is_last.Reads.Learnt
is_last_settled = settled (λ κs a. tt) (λ κs a x y p q. (p ∙ sym q, refl))

pub ran_job_settled : OneOutcome ran_job.Kinds.ps ran_job.Kinds.r ran_job.Reads.Asked ran_job.Reads.Learnt
ran_job_settled = settled (λ κs a. tt) (λ κs a x y p q. (p ∙ sym q, refl))

pub join_settled : OneOutcome join.Kinds.ps join.Kinds.r join.Reads.Asked join.Reads.Learnt
join_settled = settled (λ κs a. tt) (λ κs a x y p q. (refl, ap (λ w. (tt, (w, tt))) (p ∙ sym q)))

pub leave_settled : OneOutcome leave.Kinds.ps leave.Kinds.r leave.Reads.Asked leave.Reads.Learnt
leave_settled = settled (λ κs a. tt) (λ κs a x y p q.
    (refl, λ i. (tt, ((p.0 ∙ sym q.0) i, ((p.1 ∙ sym q.1) i, tt)))))

pub run_front_settled : OneOutcome run_front.Kinds.ps run_front.Kinds.r run_front.Reads.Asked run_front.Reads.Learnt
run_front_settled = settled (λ κs a. tt) (λ κs a x y p q. (refl, ap (λ w. (tt, (w, tt))) (p ∙ sym q)))

pub queue_sound_settled : OneOutcome queue_sound.Kinds.ps queue_sound.Kinds.r queue_sound.Reads.Asked queue_sound.Reads.Learnt
queue_sound_settled = settled (λ κs a. tt) (λ κs a x y p q. (p ∙ sym q, refl))

pub job_count_settled : OneOutcome job_count.Kinds.ps job_count.Kinds.r job_count.Reads.Asked job_count.Reads.Learnt
job_count_settled = settled (λ κs a. tt) (λ κs a x y p q. (p.0 ∙ sym q.0, refl))

pub jobs_waiting_settled : OneOutcome jobs_waiting.Kinds.ps jobs_waiting.Kinds.r jobs_waiting.Reads.Asked jobs_waiting.Reads.Learnt
jobs_waiting_settled = settled (λ κs a. tt) (λ κs a x y p q. (p ∙ sym q, refl))

pub last_sound_settled : OneOutcome last_sound.Kinds.ps last_sound.Kinds.r last_sound.Reads.Asked last_sound.Reads.Learnt
last_sound_settled = settled (λ κs a. tt) (λ κs a x y p q. (p ∙ sym q, refl))

pub counts_sound_settled : OneOutcome counts_sound.Kinds.ps counts_sound.Kinds.r counts_sound.Reads.Asked counts_sound.Reads.Learnt
counts_sound_settled = settled (λ κs a. tt) (λ κs a x y p q. (p ∙ sym q, refl))
