-- "Refusals: 6, 8, 9, 10 and 13 keep their order", each given exactly in its case, "state as it was".
-- The tests stand in that order in the definitions, and each answer is the first that fails. Assumes
-- nothing.
use Rattle.std.proofs.Common.{None, Option}
use mathlib.Core.Path.{ap, ◌≡◌, refl, subst}
use mathlib.Core.Bool.{Bool, true, false}
use mathlib.Core.List.{[], ◌∷◌}
use mathlib.Core.Logic.{◌↔◌}
use Prim.Native.Nat.{ℕ, ◌≤◌, ◌<◌}
use native.Mathlib.Omega.{arith}
use borrow.Author.Tests.{ltb-true, ltb-false, lt-ltb, le-ltb}
use Rattle.laws.proofs.Choice.{if_ind}
use Rattle.table.specs.declared.Refusal.{Refusal}
use Rattle.events.specs.declared.Event.{Event}
use Rattle.events.specs.declared.Event.TheVariants.{Release, Tick}
use Rattle.events.specs.declared.Answer.TheVariants.{Released, Ticked, No}
use Rattle.events.specs.Answers.{no_of, starting_number}
use Rattle.events.proofs.Answers.{holds_iff, Given}
use Rattle.queues.proofs.Queues.{no_job}
use Rattle.frametable.specs.declared.FrameTable.{FrameTable}
use Rattle.frametable.specs.Rules.{frame_table_keeps}
use Rattle.framerun.specs.declared.FrameRun.{FrameRun}
use Rattle.events.specs.declared.Begun.{Begun}
use Rattle.events.specs.declared.Answered.{Answered}
use Rattle.framerun.specs.State.{waiting_at}
use Rattle.framerun.specs.Sound.{frame_sound}
use Rattle.framerun.specs.Release.{fresh_frame, start_of, release_of}
use Rattle.framerun.specs.Tick.{tick_taken, tick_of}
use Rattle.framerun.specs.Events.{event_of}
use Rattle.framerun.proofs.Taken.{mark_taken, release_cases, tick_cases, release_ind, tick_ind}
use Rattle.framerun.proofs.Sound.{sound_state_lem}

-- A refused event leaves the run as it was.
pub refused_as_it_was : (r : FrameRun) (e : Event) (why : Refusal) → (event_of r e).answer ≡ No why → (event_of r e).run ≡ r
refused_as_it_was r (Release k) why =
    release_ind (λ (a : Answered FrameRun). a.answer ≡ No why → a.run ≡ r) r k (λ w e. refl)
    (λ y e. let z : ◌≡◌ {A = ℕ} 0 1 = cc in absurd (omega arith))
refused_as_it_was r (Tick mark) why =
    tick_ind (λ (a : Answered FrameRun). a.answer ≡ No why → a.run ≡ r) r mark (λ w e. refl)
    (λ y e. let z : ◌≡◌ {A = ℕ} 0 1 = cc in absurd (omega arith))

-- When a release is refused and why, each case in its order: what comes before it has held.
module _ (r : FrameRun) (k : ℕ) where
  abbrev tasks : ℕ
  tasks = r.table.ntasks

  abbrev waiting : ℕ
  waiting = waiting_at r.state k

  abbrev accepted : ℕ
  accepted = r.state.accepted

  abbrev pub ReleaseCase : ℕ → Type 0
  ReleaseCase =
      Given
      ((13, frame_sound r ≡ false)
      ∷ (6, (frame_sound r ≡ true) × (tasks ≤ k))
      ∷ (8, (frame_sound r ≡ true) × (k < tasks) × (waiting ≡ 16))
      ∷ (10, (frame_sound r ≡ true) × (k < tasks) × (waiting < 16) × (accepted ≡ 4000000000))
      ∷ (0, (frame_sound r ≡ true) × (k < tasks) × (waiting < 16) × (accepted < 4000000000))
      ∷ [])

  pub release_number_lem : ReleaseCase (no_of (release_of r k).answer)
  release_number_lem =
      release_cases (λ (a : Answered FrameRun). ReleaseCase (no_of a.answer)) r k (λ e. e) (λ a e. (a, ltb-false k tasks e))
      (λ a b e.
      let l : k < tasks = ltb-true k tasks b in
      (a, l, omega (arith, ltb-false waiting 16 e, ((sound_state_lem r a).tasks k l).queue)))
      (λ a b h e.
      let x = (sound_state_lem r a).counts.accepted in
      (a, ltb-true k tasks b, ltb-true waiting 16 h, omega (arith, ltb-false accepted 4000000000 e, x)))
      (λ y. (
        y.sound,
        ltb-true k tasks y.task,
        ltb-true waiting 16 y.queue,
        ltb-true accepted 4000000000 y.count,
      ))

  pub release_13 : (no_of (release_of r k).answer ≡ 13) ↔ (frame_sound r ≡ false)
  unfolding release_of
  release_13 = (λ e. subst ReleaseCase e release_number_lem, λ p. rw p)

  pub release_6 : (no_of (release_of r k).answer ≡ 6) ↔ ((frame_sound r ≡ true) × (tasks ≤ k))
  unfolding release_of
  release_6 = (λ e. subst ReleaseCase e release_number_lem, λ p. rw (p.0, le-ltb k tasks p.1))

  pub release_8 : (no_of (release_of r k).answer ≡ 8) ↔ ((frame_sound r ≡ true) × (k < tasks) × (waiting ≡ 16))
  unfolding release_of
  release_8 = (
    λ e. subst ReleaseCase e release_number_lem,
    λ p. rw (p.0, lt-ltb k tasks p.1, le-ltb waiting 16 (omega (arith, p.2))),
  )

  pub release_10 : (no_of (release_of r k).answer ≡ 10) ↔
      ((frame_sound r ≡ true) × (k < tasks) × (waiting < 16) × (accepted ≡ 4000000000))
  unfolding release_of
  release_10 = (
    λ e. subst ReleaseCase e release_number_lem,
    λ p.
        rw (
          p.0,
          lt-ltb k tasks p.1,
          lt-ltb waiting 16 p.2,
          le-ltb accepted 4000000000 (omega (arith, p.3)),
        ),
  )

  -- else it is taken
  pub release_taken_lem : ((release_of r k).answer ≡ Released k) ↔
      ((frame_sound r ≡ true) × (k < tasks) × (waiting < 16) × (accepted < 4000000000))
  unfolding release_of
  release_taken_lem = (
    λ e. subst ReleaseCase (ap no_of e) release_number_lem,
    λ p. rw (p.0, lt-ltb k tasks p.1, lt-ltb waiting 16 p.2, lt-ltb accepted 4000000000 p.3),
  )

-- The same for a tick.
module _ (r : FrameRun) (mark : Bool) where
  abbrev last : Option ℕ
  last = r.state.last

  abbrev ticks : ℕ
  ticks = r.state.ticks.0

  -- "mark 1, but no tick was taken yet or the last one ran no job"
  abbrev pub NoJobRan : Type 0
  NoJobRan = (mark ≡ true) × (last ≡ None)

  abbrev pub TickCase : ℕ → Type 0
  TickCase =
      Given
      ((13, frame_sound r ≡ false)
      ∷ (9, (frame_sound r ≡ true) × NoJobRan)
      ∷ (10, (frame_sound r ≡ true) × (NoJobRan → ⊥) × (ticks ≡ 4000000000))
      ∷ (0, (frame_sound r ≡ true) × (NoJobRan → ⊥) × (ticks < 4000000000))
      ∷ [])

  -- the test of 9 holds exactly where 9 is not the case
  job : (mark_taken r mark ≡ true) ↔ (NoJobRan → ⊥)
  job = holds_iff (mark_taken r mark) (no_job mark last)

  pub tick_number_lem : TickCase (no_of (tick_of r mark).answer)
  tick_number_lem =
      tick_cases (λ (a : Answered FrameRun). TickCase (no_of a.answer)) r mark (λ e. e)
      (λ a e. (a, (no_job mark last).0 e))
      (λ a f e. (a, job.0 f, omega (arith, ltb-false ticks 4000000000 e, (sound_state_lem r a).counts.ticks)))
      (λ y. (y.sound, job.0 y.job, ltb-true ticks 4000000000 y.count))

  pub tick_13 : (no_of (tick_of r mark).answer ≡ 13) ↔ (frame_sound r ≡ false)
  unfolding tick_of
  tick_13 = (λ e. subst TickCase e tick_number_lem, λ p. rw p)

  pub tick_9 : (no_of (tick_of r mark).answer ≡ 9) ↔ ((frame_sound r ≡ true) × NoJobRan)
  unfolding tick_of
  tick_9 = (λ e. subst TickCase e tick_number_lem, λ p. rw (p.0, (no_job mark last).1 p.1))

  pub tick_10 : (no_of (tick_of r mark).answer ≡ 10) ↔
      ((frame_sound r ≡ true) × (NoJobRan → ⊥) × (ticks ≡ 4000000000))
  unfolding tick_of
  tick_10 = (
    λ e. subst TickCase e tick_number_lem,
    λ p. rw (p.0, job.1 p.1, le-ltb ticks 4000000000 (omega (arith, p.2))),
  )

  -- else it is taken, and says what the steps make of it
  pub tick_taken_lem : ((tick_of r mark).answer ≡ Ticked (tick_taken r.table r.state mark).answer) ↔
      ((frame_sound r ≡ true) × (NoJobRan → ⊥) × (ticks < 4000000000))
  unfolding tick_of
  tick_taken_lem = (
    λ e. subst TickCase (ap no_of e) tick_number_lem,
    λ p. rw (p.0, job.1 p.1, lt-ltb ticks 4000000000 p.2),
  )

-- A start is refused exactly if the table breaks the rules, and hands the table back either way.
pub start_13 : (t : FrameTable) → (starting_number (start_of t).answer ≡ 13) ↔ (frame_table_keeps t ≡ false)
unfolding start_of
start_13 t = (
  if_ind
      (λ (a : Begun FrameRun). starting_number a.answer ≡ 13 → frame_table_keeps t ≡ false)
      (frame_table_keeps t)
      (λ e q. absurd (omega arith))
      (λ e q. e),
  λ p. rw p,
)

pub start_run : (t : FrameTable) → (start_of t).run ≡ fresh_frame t
unfolding start_of
start_run t = if_ind (λ (a : Begun FrameRun). a.run ≡ fresh_frame t) (frame_table_keeps t) (λ e. refl) (λ e. refl)
