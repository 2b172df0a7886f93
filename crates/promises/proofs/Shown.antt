-- Three runs, computed, that show the bounds at work: their premises can be met, and where one of
-- their words is changed the statement is false. Assumes nothing.
use mathlib.Core.Path.{◌≡◌, refl}
use mathlib.Core.Bool.{Bool, true, false, ◌&&◌, ◌||◌}
use mathlib.Core.List.{List, [], ◌∷◌, ◌++◌, map}
use Prim.Native.Nat.{ℕ, ◌+◌, ◌*◌, ◌-◌, ◌≤◌, ◌<◌}
use native.Mathlib.Omega.{arith}
use lib.Dec.{eqb}
use lib.ListN.{length, replicate}
use Rattle.laws.specs.RoundUp.{up}
use Rattle.table.specs.declared.Kind.TheVariants.{Timed}
use Rattle.table.specs.declared.Level.TheVariants.{HI}
use Rattle.table.specs.declared.Mode.TheVariants.{N, D1}
use Rattle.table.specs.declared.Table.{Table}
use Rattle.table.specs.Rows.{server_at, period_at, capacity_at, is_timed, table_of}
use Rattle.table.specs.Rules.{table_keeps}
use Rattle.verdict.specs.declared.Verdict.TheVariants.{Response}
use Rattle.verdict.specs.Verdict.{verdict_of}
use Rattle.events.specs.declared.Turn.TheVariants.{Run as Ran, Empty}
use Rattle.events.specs.declared.Event.{Event}
use Rattle.events.specs.declared.Event.TheVariants.{Release, Tick}
use Rattle.run.specs.Release.{fresh_run}
use Rattle.table.specs.Example.{by_mode, server, late_server, task, rows, example}
use Rattle.run.specs.Found.{TakenTick, taken_ticks}
use Rattle.promises.specs.Bounds.{in_row, charges, in_force_at, largest_capacity, elapsed_first, touched, normal}
use Rattle.promises.specs.Bounds.{whole_period}
use Rattle.promises.specs.Bounds.{waits_until}
use Rattle.promises.proofs.Opened.{opened}
use Rattle.promises.proofs.Bounds.{first_bound, second_bound}

-- The first run is one of document 01's example. Row 1 has period 20, capacity 5 and verdict 9.
-- Four jobs of the event server come before tick 18, so that it is charged late in one period, at
-- ticks 18 and 19, and early in the next, at 20 and 21; row 1 then has its 5 ticks from tick 22 on,
-- within the first 9 of its period.
--
-- 18 ticks without a job; four jobs of task 0, and a release that is refused; a tick for each of
-- the four, the later ones with the mark of the job before; the mark of the last; and 17 ticks
-- more: 40 taken ticks
unfoldable pub events : List Event
events =
    replicate 18 (Tick false)
    ++ (replicate 4 (Release 0) ++ (Release 9 ∷ Tick false ∷ (replicate 4 (Tick true) ++ replicate 17 (Tick false))))

unfoldable pub ticks : List TakenTick
ticks = taken_ticks (fresh_run example) events

-- how often server i is charged in w of them, from tick s on
abbrev pub charged_in : ℕ → ℕ → ℕ → ℕ
charged_in i s w = charges i (in_row ticks s w)

unfoldable computed : Unit {0}
unfolding opened taken_ticks charges largest_capacity normal waits_until events ticks
computed = tt

keeps_rules : table_keeps example ≡ true
unfolding computed
keeps_rules = refl

taken_forty : length ticks ≡ 40
unfolding computed
taken_forty = refl

all_normal : normal (in_row ticks 0 40) ≡ true
unfolding computed
all_normal = refl

-- Row 1: its verdict is 9, and ticks 20 to 39 are a whole period of it.
verdict_nine : verdict_of example 1 N ≡ Response (record { 0 = 9 })
unfolding computed
verdict_nine = refl

second_period : whole_period example 1 (in_row ticks 20 20) ≡ true
unfolding computed
second_period = refl

-- so the second bound says that it is charged 5 times in ticks 20 to 39, and 5 times in ticks 20 to
-- 28
pub five : (charged_in 1 20 20 ≡ 5) × (charged_in 1 20 9 ≡ 5)
unfolding computed
five =
    second_bound
    example
    events
    ticks
    1
    20
    20
    5
    9
    keeps_rules
    refl
    (omega arith)
    refl
    refl
    (omega arith)
    verdict_nine
    all_normal
    second_period
    refl

-- Row 0, the event server: its verdict is 2, and in its period from tick 20 on a job waits until it
-- is charged twice.
verdict_two : verdict_of example 0 N ≡ Response (record { 0 = 2 })
unfolding computed
verdict_two = refl

third_period : whole_period example 0 (in_row ticks 20 10) ≡ true
unfolding computed
third_period = refl

jobs_wait : waits_until example 0 2 (in_row ticks 20 10) ≡ true
unfolding computed
jobs_wait = refl

normal_to_thirty : normal (in_row ticks 0 30) ≡ true
unfolding computed
normal_to_thirty = refl

pub two_of_two : (charged_in 0 20 10 ≡ 2) × (charged_in 0 20 2 ≡ 2)
unfolding computed
two_of_two =
    second_bound
    example
    events
    ticks
    0
    20
    10
    2
    2
    keeps_rules
    refl
    (omega arith)
    refl
    refl
    (omega arith)
    verdict_two
    normal_to_thirty
    third_period
    jobs_wait

-- The first bound, of its charges in ticks 18 to 21: B is 2, its period 10.
pub four : charged_in 0 18 4 ≤ 2 * (up (4 - 1) 10 + 1)
unfolding computed
four =
    first_bound
    example
    events
    ticks
    0
    18
    4
    10
    2
    keeps_rules
    refl
    (omega arith)
    refl
    (omega arith)
    (omega (arith, taken_forty))
    refl

-- And so the run counts: rows 0 and 1 in ticks 18 to 21, in 20 to 28, and in 20 to 39. The 4 is as
-- much as the first bound allows.
pub counted : map (λ i. charged_in i 18 4 ∷ charged_in i 20 9 ∷ charged_in i 20 20 ∷ []) (0 ∷ 1 ∷ []) ≡
    (4 ∷ 2 ∷ 2 ∷ []) ∷ (0 ∷ 5 ∷ 5 ∷ []) ∷ []
unfolding computed
counted = refl

-- The second run. Row 0, the higher, has period 4 and capacities 2, 0, 0; row 1 has period 3,
-- capacities 1, 3, 3 and verdict 3. A job of row 1 runs in tick 2, reaches its limit there, and the
-- mode is D1 in ticks 3, 4 and 5: row 1 is charged in all three, and row 0, which has no capacity
-- in D1, in none. From tick 6 on the mode is N, and row 0 has the rest of its period and the next
-- for itself, ticks 6 to 8: row 1 is not charged in its period from tick 6 on.
unfoldable pub raised : Table
raised =
    table_of
    (rows
    (server 0 Timed 2 4 (by_mode 2 0 0) ∷ server 0 Timed 1 3 (by_mode 1 3 3) ∷ [])
    (task 1 1 1 HI (by_mode 1 9 9) ∷ []))

unfoldable pub raised_events : List Event
raised_events = Release 0 ∷ (replicate 6 (Tick false) ++ (Tick true ∷ Tick false ∷ Tick false ∷ []))

unfoldable pub raised_ticks : List TakenTick
raised_ticks = taken_ticks (fresh_run raised) raised_events

unfoldable recomputed : Unit {0}
unfolding computed raised raised_events raised_ticks
recomputed = tt

-- the turns and modes of its nine ticks
pub raised_turns : map (λ m. m.answer.turn) raised_ticks ≡
    replicate 2 (Empty 0) ++ (replicate 4 (Ran 1 0) ++ replicate 3 (Empty 0))
unfolding recomputed
raised_turns = refl

pub raised_modes : map (λ m. m.answer.mode) raised_ticks ≡ replicate 3 N ++ (replicate 3 D1 ++ replicate 3 N)
unfolding recomputed
raised_modes = refl

-- row 1's largest capacity in force in the periods that ticks 2 to 5 touch
pub raised_largest : largest_capacity raised 1 (touched raised raised_ticks 1 2 4) ≡ 3
unfolding recomputed
raised_largest = refl

-- The first bound, with another number of charges for B (the round-up of (W-1)/T, plus 1).
abbrev pub FirstWith : (Table → List TakenTick → ℕ → ℕ → ℕ → ℕ) → Type 0
FirstWith most =
    (t : Table) (es : List Event) (ms : List TakenTick) (i s W : ℕ) → table_keeps t ≡ true →
    ms ≡ taken_ticks (fresh_run t) es → i < t.nservers → 1 ≤ W → s + W ≤ length ms →
    charges i (in_row ms s W) ≤ most t ms i s W

-- as it stands
pub first_as_stated :
    FirstWith (λ t ms i s W. largest_capacity t i (touched t ms i s W) * (up (W - 1) (period_at t i) + 1))
first_as_stated t es ms i s W e q l h m = first_bound t es ms i s W _ _ e q l refl h m refl

-- without the "plus 1": 4 charges in ticks 18 to 21 of the first run, and 2 times the round-up of
-- 3/10 is 2
pub needs_the_one_more : FirstWith (λ t ms i s W. largest_capacity t i (touched t ms i s W) * up (W - 1) (period_at t i)) →
    ⊥
unfolding computed
needs_the_one_more f =
    let n : 4 ≤ 2 =
    f example events ticks 0 18 4 keeps_rules refl (omega arith) (omega arith) (omega (arith, taken_forty)) in
    omega (arith, n)

-- with the capacity of normal mode: 4 charges of row 1 in ticks 2 to 5 of the second run, and 1
-- times 2 is 2
pub needs_the_largest : FirstWith (λ t ms i s W. capacity_at t N i * (up (W - 1) (period_at t i) + 1)) → ⊥
unfolding recomputed
needs_the_largest f =
    let n : 4 ≤ 2 = f raised raised_events raised_ticks 1 2 4 refl refl (omega arith) (omega arith) (omega arith) in
    omega (arith, n)

-- with the capacity in force at the first tick of the periods touched, which was in N: 2 again
abbrev pub first_capacity : Table → ℕ → List TakenTick → ℕ
first_capacity t i [] = 0
first_capacity t i (m ∷ ms) = in_force_at t i m

pub needs_every_tick : FirstWith (λ t ms i s W. first_capacity t i (touched t ms i s W) * (up (W - 1) (period_at t i) + 1)) →
    ⊥
unfolding recomputed
needs_every_tick f =
    let n : 4 ≤ 2 = f raised raised_events raised_ticks 1 2 4 refl refl (omega arith) (omega arith) (omega arith) in
    omega (arith, n)

-- The second bound, with other ticks to be normal, another test of a whole period, another of who
-- waits, and another number of ticks for R.
abbrev pub SecondWith : (List TakenTick → ℕ → ℕ → List TakenTick) → (Table → ℕ → List TakenTick → Bool) →
    (Table → ℕ → ℕ → List TakenTick → Bool) → (ℕ → ℕ) → Type 0
SecondWith calm whole works first =
    (t : Table) (es : List Event) (ms : List TakenTick) (i s R : ℕ) → table_keeps t ≡ true →
    ms ≡ taken_ticks (fresh_run t) es → i < t.nservers → 1 ≤ capacity_at t N i →
    verdict_of t i N ≡ Response (record { 0 = R }) → normal (calm ms s (period_at t i)) ≡ true →
    whole t i (in_row ms s (period_at t i)) ≡ true →
    works t i (capacity_at t N i) (in_row ms s (period_at t i)) ≡ true →
    (charges i (in_row ms s (period_at t i)) ≡ capacity_at t N i) × (charges i (in_row ms s (first R)) ≡ capacity_at t N i)

abbrev pub since_the_start : List TakenTick → ℕ → ℕ → List TakenTick
since_the_start ms s T = in_row ms 0 (s + T)

abbrev pub timed_or_waits : Table → ℕ → ℕ → List TakenTick → Bool
timed_or_waits t i C ms = is_timed (server_at t i).kind || waits_until t i C ms

-- as it stands
pub second_as_stated : SecondWith since_the_start whole_period timed_or_waits (λ R. R)
second_as_stated t es ms i s R e q l c v n u w = second_bound t es ms i s _ _ R e q l refl refl c v n u w

-- with the mode normal in the period only: row 1 in the second run's ticks 6 to 8, where it is
-- charged 0 times and not 1
pub needs_since_the_start : SecondWith in_row whole_period timed_or_waits (λ R. R) → ⊥
unfolding recomputed
needs_since_the_start f =
    let n : (◌≡◌ {A = ℕ} 0 1) × (◌≡◌ {A = ℕ} 0 1) =
    f raised raised_events raised_ticks 1 6 3 refl refl (omega arith) (omega arith) refl refl refl refl in
    omega (arith, n.0)

-- without a waiting job: row 0 in the first run's ticks 0 to 9, where no job waits
pub needs_a_waiting_job : SecondWith since_the_start whole_period (λ t i C ms. true) (λ R. R) → ⊥
unfolding computed
needs_a_waiting_job f =
    let n : (◌≡◌ {A = ℕ} 0 2) × (◌≡◌ {A = ℕ} 0 2) =
    f example events ticks 0 0 2 keeps_rules refl (omega arith) (omega arith) verdict_two refl refl refl in
    omega (arith, n.0)

-- within the first R - 1 ticks: row 0 is charged once in the first of its ticks 20 to 29, and its
-- verdict is 2
pub needs_all_of_r : SecondWith since_the_start whole_period timed_or_waits (λ R. R - 1) → ⊥
unfolding computed
needs_all_of_r f =
    let n : (◌≡◌ {A = ℕ} 2 2) × (◌≡◌ {A = ℕ} 1 2) =
    f example events ticks 0 20 2 keeps_rules refl (omega arith) (omega arith) verdict_two normal_to_thirty third_period
    jobs_wait in
    omega (arith, n.1)

-- The third run: one timed server of period 2 and capacity 1, which starts with tick 1, and two
-- ticks. With any two ticks in a row at whose first none is elapsed: ticks 0 and 1, where its one
-- charge is in tick 1, after the phase, and its verdict is 1.
unfoldable pub late_start : Table
late_start = table_of (rows (late_server 1 0 Timed 1 2 (by_mode 1 1 1) ∷ []) (task 0 0 1 HI (by_mode 1 1 1) ∷ []))

abbrev pub none_elapsed : Table → ℕ → List TakenTick → Bool
none_elapsed t i ms = eqb (length ms) (period_at t i) && eqb (elapsed_first i ms) 0

pub needs_the_phase : SecondWith since_the_start none_elapsed timed_or_waits (λ R. R) → ⊥
unfolding computed late_start
needs_the_phase f =
    let es = replicate 2 (Tick false) in
    let n : (◌≡◌ {A = ℕ} 1 1) × (◌≡◌ {A = ℕ} 0 1) =
    f late_start es (taken_ticks (fresh_run late_start) es) 0 0 1 refl refl (omega arith) (omega arith) refl refl refl refl in
    omega (arith, n.1)
