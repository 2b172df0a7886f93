-- Condition 2, proved: each statement of specs/Condition2.antt from its facts. Why a tick goes by
-- the rules: ByTheRules.antt. Assumes nothing.
use mathlib.Core.Path.{◌≡◌, refl, ap, ap₂, subst}
use mathlib.Core.Bool.{false}
use mathlib.Core.Logic.{inl, inr}
use Prim.Native.Nat.{ℕ}
use native.Mathlib.Omega.{arith}
use native.Mathlib.Nat.{mul-le-mul_right}
use Rattle.std.proofs.lemmas.Bool.{cases_Bool}
use Rattle.laws.proofs.Choice.{clash}
use Rattle.laws.proofs.RoundUp.{up_le, le_up}
use Rattle.table.specs.Rows.{task_at, is_low}
use Rattle.table.proofs.Rows.{low_exactly}
use Rattle.table.proofs.Rules.{table_rules}
use Rattle.verdict.proofs.Interference.{part_at, interference_is, part_timed, part_event, part_lower}
use Rattle.verdict.proofs.Verdicts.{response_exactly}
use Rattle.verdict.proofs.Verdicts.{response_for_none, misses_exactly as misses}
use Rattle.run.specs.declared.Run.{Run}
use Rattle.events.specs.declared.Event.{Event}
use Rattle.events.specs.declared.Event.TheVariants.{Release, Tick}
use Rattle.events.specs.declared.TickAnswer.{TickAnswer}
use Rattle.events.specs.declared.Answer.TheVariants.{Released, Ticked}
use Rattle.events.specs.declared.Answered.{Answered}
use Rattle.run.specs.Sound.{sound}
use Rattle.events.specs.Answers.{no_of}
use Rattle.run.specs.Tick.{tick_taken}
use Rattle.run.specs.Events.{event_of, after}
use Rattle.run.proofs.Taken.{ReleaseTaken, release_taken, release_ind, tick_ind}
use Rattle.run.proofs.Sound.{sound_table, sound_state_lem}
use Rattle.events.proofs.Answers.{one_past_lem}
use Rattle.events.proofs.Answers.{one_same}
use Rattle.run.proofs.Count.{jobs_balance, jobs_balance_kept}
use Rattle.run.proofs.Kept.{waiting_taken, after_keeps}
use Rattle.run.proofs.Refused.{release_13, tick_13, start_run}
use Rattle.promises.specs.Condition2.{StartsFresh, JobAdded, EveryRelease, ByTheRules}
use Rattle.promises.specs.Condition2.{EveryTick, StaysSound}
use Rattle.promises.specs.Condition2.{RoundUp, Interference, WithoutCapacity, LeastResponse}
use Rattle.promises.specs.Condition2.{MissesExactly, JobsCounted, JobsCountedOf}
use Rattle.promises.proofs.Ticks.{zeros}
use Rattle.promises.proofs.ByTheRules.{held_shaped, by_the_rules}

pub starts_fresh : StartsFresh
starts_fresh t =
    rw (start_run t)
    (record {
      table = refl;
      mode = refl;
      used = zeros 32;
      elapsed = zeros 32;
      waiting = zeros 64;
      runs = zeros 64;
      last = refl;
      ticks = refl;
      accepted = refl;
    })

pub every_release : EveryRelease
every_release r k z h =
    release_ind
    (λ (a : Answered Run). a ≡ record { answer = Released k; run = z } → JobAdded r k z)
    r
    k
    (λ why e.
    let d = ap (λ (a : Answered Run). a.answer) e in
    let n : ◌≡◌ {A = ℕ} 0 1 = cc in
    absurd (omega arith))
    (λ y e. subst (JobAdded r k) (ap (λ (a : Answered Run). a.run) e) (added y))
  where
    added : ReleaseTaken r k → JobAdded r k (release_taken r k).run
    added y =
        record {
          waiting = omega (arith, waiting_taken r k k (held_shaped r h) y, one_same k);
          others = λ j n. omega (arith, waiting_taken r k j (held_shaped r h) y, one_past_lem k j n);
          runs = refl;
          used = refl;
          elapsed = refl;
          mode = refl;
          last = refl;
          ticks = refl;
          accepted = refl;
          table = refl;
        }

pub every_tick : EveryTick
every_tick x h =
    let r = x.before in
    tick_ind
    (λ (a : Answered Run). a ≡ record { answer = Ticked x.says; run = x.after } → ByTheRules x)
    r
    x.mark
    (λ why e.
    let d = ap (λ (a : Answered Run). a.answer) e in
    let z : ◌≡◌ {A = ℕ} 0 1 = cc in
    absurd (omega arith))
    (λ y e.
    let shape = held_shaped r h.held in
    let d = ap (λ (a : Answered Run). a.answer) e in
    let says : (tick_taken r.table r.state x.mark).answer ≡ x.says = cc in
    subst
    ByTheRules
    (ap₂
    (λ (a : TickAnswer) (z : Run). record { before = r; mark = x.mark; says = a; after = z })
    says
    (ap (λ (a : Answered Run). a.run) e))
    (by_the_rules r.table r.state x.mark
    (table_rules r.table shape.table (sound_table r y.sound))
    shape.state
    (sound_state_lem r y.sound)))
    h.taken

pub stays_sound : StaysSound
stays_sound r es e h q =
    let safe = after_keeps r es (held_shaped r h) q in
    (safe, λ a. clash (sound (after r es)) safe (unsound e a))
  where
    unsound : (e : Event) → no_of (event_of (after r es) e).answer ≡ 13 → sound (after r es) ≡ false
    unsound (Release k) = (release_13 (after r es) k).0
    unsound (Tick mark) = (tick_13 (after r es) mark).0

-- Verdicts.
pub round_up : RoundUp
round_up a t q h = (
  λ l. omega (arith, le_up a t h, mul-le-mul_right t l),
  λ l. up_le a t q h l,
)

pub interference_adds : Interference
interference_adds t i m R = (
  part_at t m i R,
  record {
    sum = interference_is t m i R;
    lower = part_lower t m i R;
    timed = λ j Tj Cj h e p q. rw (p, q) (part_timed t m i R j h e);
    event = λ j Tj Cj h e p q. rw (p, q) (part_event t m i R j h e);
  },
)

pub without_capacity : WithoutCapacity
without_capacity t i m e h z = response_for_none t m i e h z

pub least_response : LeastResponse
least_response t i m T R e h c p =
    let x = response_exactly t m i (record { 0 = R }) c in (
      λ v. let l = (x.0 v).1 in (l.from_one, omega (arith, l.to_period), l.meets, l.none_below),
      λ q.
          x.1 (
            record { keeps = e; there = h; some = c },
            record { from_one = q.0; to_period = omega (arith, q.1); meets = q.2; none_below = q.3 },
          ),
    )

pub misses_exactly : MissesExactly
misses_exactly t i m T e h c p =
    let x = misses t m i in (
      λ v R l u. (x.0 v).1 R l (omega arith),
      λ f. x.1 (record { keeps = e; there = h; some = c }, λ R l u. f R l (omega arith)),
    )

-- The sum.
pub jobs_counted : JobsCounted
jobs_counted t es given z e q = rw q (jobs_balance t es z e)

pub jobs_counted_of : JobsCountedOf
jobs_counted_of t es given k z e q l n =
    rw q
    (jobs_balance_kept t es z e k l
    (elim (cases_Bool (is_low (task_at t k).level)) [
      | inl y ↦ absurd (n ((low_exactly (task_at t k).level).0 y))
      | inr y ↦ y
    ]))
