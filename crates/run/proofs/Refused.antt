-- 01, Numbers for no: "Each is given exactly in its case", "state as it was", "Others: 13 first;
-- release 6, 7, 8, 10; tick 9, 10". The tests stand in that order in the definitions, and each
-- answer is the first that fails. Assumes nothing.
use Rattle.std.proofs.Common.{None, Option}
use mathlib.Core.Path.{ap, ◌≡◌, refl, subst}
use mathlib.Core.Bool.{Bool, true, false, not, ◌&&◌}
use mathlib.Core.List.{List, [], ◌∷◌}
use mathlib.Core.Logic.{◌↔◌}
use Prim.Native.Nat.{ℕ, ◌≤◌, ◌<◌}
use native.Mathlib.Omega.{arith}
use borrow.Author.Tests.{ltb-true, ltb-false, lt-ltb, le-ltb}
use Rattle.laws.proofs.Choice.{clash, if_ind}
use Rattle.units.specs.declared.Ticks.{Ticks}
use Rattle.table.specs.declared.Level.{Level}
use Rattle.table.specs.declared.Level.TheVariants.{LO, MI, HI}
use Rattle.table.specs.declared.Mode.{Mode}
use Rattle.table.specs.declared.Mode.TheVariants.{N, D1, D2}
use Rattle.table.specs.declared.Refusal.{Refusal}
use Rattle.table.specs.declared.Table.{Table}
use Rattle.table.specs.Rows.{task_at, is_low, is_d2}
use Rattle.table.specs.Rules.{table_keeps}
use Rattle.events.specs.Boxes.{after_in}
use Rattle.run.specs.declared.Run.{Run}
use Rattle.events.specs.declared.Event.{Event}
use Rattle.events.specs.declared.Event.TheVariants.{Release, Tick}
use Rattle.events.specs.declared.Answer.TheVariants.{Released, Ticked, No}
use Rattle.events.specs.declared.Begun.{Begun}
use Rattle.events.specs.declared.Answered.{Answered}
use Rattle.run.specs.State.{waiting_at}
use Rattle.run.specs.Sound.{sound}
use Rattle.events.specs.Answers.{no_of}
use Rattle.events.proofs.Answers.{holds_iff, Given}
use Rattle.queues.proofs.Queues.{no_job}
use Rattle.events.specs.Answers.{starting_number}
use Rattle.run.specs.Release.{fresh_run, start_of, release_of}
use Rattle.run.specs.Tick.{advance, tick_taken, tick_of}
use Rattle.run.specs.Events.{event_of, after}
use Rattle.run.proofs.Taken.{level_taken, mark_taken, release_cases, tick_cases, release_ind, tick_ind}
use Rattle.run.proofs.Shape.{settle_counts}
use Rattle.run.proofs.Sound.{sound_state_lem}

-- A refused event leaves the run as it was.
pub refused_as_it_was : (r : Run) (e : Event) (why : Refusal) → (event_of r e).answer ≡ No why → (event_of r e).run ≡ r
refused_as_it_was r (Release k) why =
    release_ind (λ (a : Answered Run). a.answer ≡ No why → a.run ≡ r) r k (λ w e. refl)
    (λ y e. let z : ◌≡◌ {A = ℕ} 0 1 = cc in absurd (omega arith))
refused_as_it_was r (Tick mark) why =
    tick_ind (λ (a : Answered Run). a.answer ≡ No why → a.run ≡ r) r mark (λ w e. refl)
    (λ y e. let z : ◌≡◌ {A = ℕ} 0 1 = cc in absurd (omega arith))

-- 7's case: the test says of mode and level what the page says
low_in_d2 : (m : Mode) (l : Level) → (not (is_d2 m && is_low l) ≡ false) ↔ ((m ≡ D2) × (l ≡ LO))
low_in_d2 m l = (to m l, λ p. rw (p.0, p.1))
  where
    to : (m : Mode) (l : Level) → not (is_d2 m && is_low l) ≡ false → (m ≡ D2) × (l ≡ LO)
    to D2 LO e = (refl, refl)
    to D2 MI e = absurd (clash true refl e)
    to D2 HI e = absurd (clash true refl e)
    to N l e = absurd (clash true refl e)
    to D1 l e = absurd (clash true refl e)

-- When a release is refused and why, each case in the page's order: what comes before it has held.
module _ (r : Run) (k : ℕ) where
  abbrev tasks : ℕ
  tasks = r.table.ntasks

  abbrev mode : Mode
  mode = r.state.mode

  abbrev level : Level
  level = (task_at r.table k).level

  abbrev waiting : ℕ
  waiting = waiting_at r.state k

  abbrev accepted : ℕ
  accepted = r.state.accepted

  -- "a table or state handed in breaks the rules of this page"
  abbrev Release13 : Type 0
  Release13 = sound r ≡ false

  -- "no such task"
  abbrev Release6 : Type 0
  Release6 = (sound r ≡ true) × (tasks ≤ k)

  -- "LO release in D2"
  abbrev LowInD2 : Type 0
  LowInD2 = (mode ≡ D2) × (level ≡ LO)

  abbrev Release7 : Type 0
  Release7 = (sound r ≡ true) × (k < tasks) × LowInD2

  abbrev NotSeven : Type 0
  NotSeven = LowInD2 → ⊥

  -- "16 jobs of this task already wait"
  abbrev Release8 : Type 0
  Release8 = (sound r ≡ true) × (k < tasks) × NotSeven × (waiting ≡ 16)

  -- "a release when as many are accepted"
  abbrev Release10 : Type 0
  Release10 = (sound r ≡ true) × (k < tasks) × NotSeven × (waiting < 16) × (accepted ≡ 4000000000)

  abbrev ReleaseYes : Type 0
  ReleaseYes = (sound r ≡ true) × (k < tasks) × NotSeven × (waiting < 16) × (accepted < 4000000000)

  abbrev pub ReleaseCase : ℕ → Type 0
  ReleaseCase =
      Given
      ((13, Release13) ∷ (6, Release6) ∷ (7, Release7) ∷ (8, Release8) ∷ (10, Release10) ∷ (0, ReleaseYes) ∷ [])

  -- the test of 7 holds exactly where 7 is not the case
  not_seven : (level_taken r k ≡ true) ↔ NotSeven
  not_seven = holds_iff (level_taken r k) (low_in_d2 mode level)

  pub release_number_lem : ReleaseCase (no_of (release_of r k).answer)
  release_number_lem =
      release_cases (λ (a : Answered Run). ReleaseCase (no_of a.answer)) r k (λ e. e) (λ a e. (a, ltb-false k tasks e))
      (λ a b e. (a, ltb-true k tasks b, (low_in_d2 mode level).0 e))
      (λ a b f e.
      let l : k < tasks = ltb-true k tasks b in
      (a, l, not_seven.0 f, omega (arith, ltb-false waiting 16 e, ((sound_state_lem r a).tasks k l).queue)))
      (λ a b f h e.
      let x = (sound_state_lem r a).counts.accepted in
      (a, ltb-true k tasks b, not_seven.0 f, ltb-true waiting 16 h, omega (arith, ltb-false accepted 4000000000 e, x)))
      (λ y. (
        y.sound,
        ltb-true k tasks y.task,
        not_seven.0 y.level,
        ltb-true waiting 16 y.queue,
        ltb-true accepted 4000000000 y.count,
      ))

  pub release_13 : (no_of (release_of r k).answer ≡ 13) ↔ Release13
  unfolding release_of
  release_13 = (λ e. subst ReleaseCase e release_number_lem, λ p. rw p)

  pub release_6 : (no_of (release_of r k).answer ≡ 6) ↔ Release6
  unfolding release_of
  release_6 = (λ e. subst ReleaseCase e release_number_lem, λ p. rw (p.0, le-ltb k tasks p.1))

  pub release_7 : (no_of (release_of r k).answer ≡ 7) ↔ Release7
  unfolding release_of
  release_7 = (
    λ e. subst ReleaseCase e release_number_lem,
    λ p. rw (p.0, lt-ltb k tasks p.1, (low_in_d2 mode level).1 p.2),
  )

  pub release_8 : (no_of (release_of r k).answer ≡ 8) ↔ Release8
  unfolding release_of
  release_8 = (
    λ e. subst ReleaseCase e release_number_lem,
    λ p. rw (p.0, lt-ltb k tasks p.1, not_seven.1 p.2, le-ltb waiting 16 (omega (arith, p.3))),
  )

  pub release_10 : (no_of (release_of r k).answer ≡ 10) ↔ Release10
  unfolding release_of
  release_10 = (
    λ e. subst ReleaseCase e release_number_lem,
    λ p.
        rw (
          p.0,
          lt-ltb k tasks p.1,
          not_seven.1 p.2,
          lt-ltb waiting 16 p.3,
          le-ltb accepted 4000000000 (omega (arith, p.4)),
        ),
  )

  -- else it is taken
  pub release_taken_lem : ((release_of r k).answer ≡ Released k) ↔ ReleaseYes
  unfolding release_of
  release_taken_lem = (
    λ e. subst ReleaseCase (ap no_of e) release_number_lem,
    λ p.
        rw (
          p.0,
          lt-ltb k tasks p.1,
          not_seven.1 p.2,
          lt-ltb waiting 16 p.3,
          lt-ltb accepted 4000000000 p.4,
        ),
  )

-- The same for a tick.
module _ (r : Run) (mark : Bool) where
  abbrev last : Option ℕ
  last = r.state.last

  abbrev ticks : ℕ
  ticks = r.state.ticks.0

  abbrev Tick13 : Type 0
  Tick13 = sound r ≡ false

  -- "mark 1, but no tick was taken yet or the last one ran no job"
  abbrev NoJobRan : Type 0
  NoJobRan = (mark ≡ true) × (last ≡ None)

  abbrev Tick9 : Type 0
  Tick9 = (sound r ≡ true) × NoJobRan

  abbrev NotNine : Type 0
  NotNine = NoJobRan → ⊥

  -- "a tick when 4,000,000,000 are taken"
  abbrev Tick10 : Type 0
  Tick10 = (sound r ≡ true) × NotNine × (ticks ≡ 4000000000)

  abbrev TickYes : Type 0
  TickYes = (sound r ≡ true) × NotNine × (ticks < 4000000000)

  abbrev pub TickCase : ℕ → Type 0
  TickCase = Given ((13, Tick13) ∷ (9, Tick9) ∷ (10, Tick10) ∷ (0, TickYes) ∷ [])

  -- the test of 9 holds exactly where 9 is not the case
  job : (mark_taken r mark ≡ true) ↔ NotNine
  job = holds_iff (mark_taken r mark) (no_job mark last)

  pub tick_number_lem : TickCase (no_of (tick_of r mark).answer)
  tick_number_lem =
      tick_cases (λ (a : Answered Run). TickCase (no_of a.answer)) r mark (λ e. e) (λ a e. (a, (no_job mark last).0 e))
      (λ a f e. (a, job.0 f, omega (arith, ltb-false ticks 4000000000 e, (sound_state_lem r a).counts.ticks)))
      (λ y. (y.sound, job.0 y.job, ltb-true ticks 4000000000 y.count))

  pub tick_13 : (no_of (tick_of r mark).answer ≡ 13) ↔ Tick13
  unfolding tick_of
  tick_13 = (λ e. subst TickCase e tick_number_lem, λ p. rw p)

  pub tick_9 : (no_of (tick_of r mark).answer ≡ 9) ↔ Tick9
  unfolding tick_of
  tick_9 = (λ e. subst TickCase e tick_number_lem, λ p. rw (p.0, (no_job mark last).1 p.1))

  pub tick_10 : (no_of (tick_of r mark).answer ≡ 10) ↔ Tick10
  unfolding tick_of
  tick_10 = (
    λ e. subst TickCase e tick_number_lem,
    λ p. rw (p.0, job.1 p.1, le-ltb ticks 4000000000 (omega (arith, p.2))),
  )

  -- else it is taken, and says what the steps make of it
  pub tick_taken_lem : ((tick_of r mark).answer ≡ Ticked (tick_taken r.table r.state mark).answer) ↔ TickYes
  unfolding tick_of
  tick_taken_lem = (
    λ e. subst TickCase (ap no_of e) tick_number_lem,
    λ p. rw (p.0, job.1 p.1, lt-ltb ticks 4000000000 p.2),
  )

-- A start is refused exactly if the table breaks the rules, and hands the table back either way.
pub start_13 : (t : Table) → (starting_number (start_of t).answer ≡ 13) ↔ (table_keeps t ≡ false)
unfolding start_of
start_13 t = (
  if_ind
      (λ (a : Begun Run). starting_number a.answer ≡ 13 → table_keeps t ≡ false)
      (table_keeps t)
      (λ e q. absurd (omega arith))
      (λ e q. e),
  λ p. rw p,
)

pub start_run : (t : Table) → (start_of t).run ≡ fresh_run t
unfolding start_of
start_run t = if_ind (λ (a : Begun Run). a.run ≡ fresh_run t) (table_keeps t) (λ e. refl) (λ e. refl)

-- The counts of 10 are never passed, whatever the run.
ticks_within : (r : Run) (e : Event) → r.state.ticks.0 ≤ 4000000000 → (event_of r e).run.state.ticks.0 ≤ 4000000000
unfolding tick_taken advance
ticks_within r (Release k) h =
    release_ind (λ (a : Answered Run). a.run.state.ticks.0 ≤ 4000000000) r k (λ why. h) (λ y. h)
ticks_within r (Tick mark) h =
    tick_ind (λ (a : Answered Run). a.run.state.ticks.0 ≤ 4000000000) r mark (λ why. h)
    (λ y. omega (
      arith,
      ltb-true r.state.ticks.0 4000000000 y.count,
      ap (λ (n : Ticks). n.0) (settle_counts r.table r.state mark).0,
    ))

accepted_within : (r : Run) (e : Event) → r.state.accepted ≤ 4000000000 →
    (event_of r e).run.state.accepted ≤ 4000000000
unfolding tick_taken advance
accepted_within r (Release k) h =
    release_ind (λ (a : Answered Run). a.run.state.accepted ≤ 4000000000) r k (λ why. h)
    (λ y. omega (arith, ltb-true r.state.accepted 4000000000 y.count))
accepted_within r (Tick mark) h =
    tick_ind (λ (a : Answered Run). a.run.state.accepted ≤ 4000000000) r mark (λ why. h)
    (λ y. omega (arith, (settle_counts r.table r.state mark).1))

pub counts_within : (r : Run) (es : List Event) → r.state.ticks.0 ≤ 4000000000 → r.state.accepted ≤ 4000000000 →
    ((after r es).state.ticks.0 ≤ 4000000000) × ((after r es).state.accepted ≤ 4000000000)
unfolding after_in
counts_within r [] h g = (h, g)
counts_within r (e ∷ es) h g = counts_within (event_of r e).run es (ticks_within r e h) (accepted_within r e g)
