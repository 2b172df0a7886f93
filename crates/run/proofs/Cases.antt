-- Small runs on the table of document 01's example, worked out by hand from its words, and
-- computed. The laws say more than these; but a slip in a definition shows here as an equation that
-- is false. Assumes nothing.
use Rattle.std.proofs.Common.{Some}
use mathlib.Core.Path.{◌≡◌, refl}
use mathlib.Core.Bool.{true, false}
use mathlib.Core.List.{List, [], ◌∷◌, ◌++◌, map}
use Prim.Native.Nat.{ℕ}
use lib.ListN.{set, replicate}
use Rattle.laws.specs.Choice.{every}
use Rattle.laws.specs.Search.{least}
use Rattle.laws.specs.Rows.{all_below, any_below, sum_below, highest, anew}
use Rattle.table.specs.declared.Kind.TheVariants.{Timed}
use Rattle.table.specs.declared.Level.TheVariants.{LO, MI, HI}
use Rattle.table.specs.declared.Mode.{Mode}
use Rattle.table.specs.declared.Mode.TheVariants.{N, D1, D2}
use Rattle.table.specs.declared.Table.{Table}
use Rattle.table.specs.Rows.{table_of}
use Rattle.table.specs.Rules.{table_keeps, keeps, server_keeps, task_keeps, task_fault, task_stands, differ}
use Rattle.events.specs.Boxes.{after_in, answers_in}
use Rattle.run.specs.declared.State.{State}
use Rattle.events.specs.declared.Turn.{Turn}
use Rattle.events.specs.declared.Turn.TheVariants.{Run as Ran, Empty, Idle}
use Rattle.events.specs.declared.Left.{Left}
use Rattle.events.specs.declared.Left.TheVariants.{Nobody, Done, Cut}
use Rattle.events.specs.declared.Event.{Event}
use Rattle.events.specs.declared.Event.TheVariants.{Release, Tick}
use Rattle.events.specs.declared.Answer.{Answer}
use Rattle.events.specs.declared.Answer.TheVariants.{Released, Ticked, No}
use Rattle.run.specs.State.{used_at, elapsed_at, waiting_at, runs_at, in_force, waits, some_waits, with_mode, with_budgets, with_queues}
use Rattle.run.specs.State.{with_last, with_counts, fresh}
use Rattle.run.specs.Sound.{sound_server, sound_task, sound_last, sound_counts, sound_state, sound}
use Rattle.events.specs.Answers.{no_of}
use Rattle.run.specs.Release.{fresh_run, release_of}
use Rattle.run.specs.Tick.{raises, judge, step1, drops, discards, step2, step3, step4, settle, able, highest_able, highest_task}
use Rattle.run.specs.Tick.{choose, advance, tick_taken, tick_of}
use Rattle.run.specs.Events.{event_of, after, answers}
use Rattle.table.specs.Example.{by_mode, server, late_server, task, rows, example}

-- an event handed in with a state of the example: its number
abbrev no_in : State → Event → ℕ
no_in s e = no_of (event_of (record { table = example; state = s }) e).answer

-- some events from a fresh start: the answers, their numbers, and the state after them
abbrev told : List Event → List Answer
told es = answers (fresh_run example) es

abbrev numbers : List Event → List ℕ
numbers es = map no_of (told es)

abbrev state_after : List Event → State
state_after es = (after (fresh_run example) es).state

-- what a taken tick says, as a line of the night has it
abbrev says : ℕ → Mode → Turn → Left → ℕ → Answer
says n m u l d = Ticked (record { tick = record { 0 = n }; mode = m; turn = u; left = l; discarded = d })

-- the turns that some answers tell
unfoldable pub turns : List Answer → List Turn
turns [] = []
turns (Released k ∷ rest) = turns rest
turns (Ticked a ∷ rest) = a.turn ∷ turns rest
turns (No why ∷ rest) = turns rest

-- Two timed servers of period 4 and two tasks, the higher in row 1 each time. Row 0 has capacity 1,
-- row 1 has 2.
unfoldable pub crossed : Table
crossed =
    table_of
    (rows
    (server 0 Timed 10 4 (by_mode 1 1 1) ∷ server 0 Timed 20 4 (by_mode 2 2 2) ∷ [])
    (task 1 1 10 MI (by_mode 1 1 1) ∷ task 1 1 20 HI (by_mode 1 1 1) ∷ []))

-- One timed server with a HI task whose three limits are equal and, below it, a LO task.
unfoldable pub tight : Table
tight =
    table_of
    (rows
    (server 0 Timed 10 4 (by_mode 4 4 4) ∷ [])
    (task 0 0 20 HI (by_mode 1 1 1) ∷ task 0 0 10 LO (by_mode 2 2 2) ∷ []))

-- One timed server with a task of each level, the higher the level the higher: the MI task's limits
-- of N and D1 are equal.
unfoldable pub levels : Table
levels =
    table_of
    (rows
    (server 0 Timed 10 9 (by_mode 9 9 9) ∷ [])
    (task 0 0 30 HI (by_mode 1 2 3) ∷ task 0 0 20 MI (by_mode 1 1 2) ∷ task 0 0 10 LO (by_mode 1 2 2) ∷ []))

-- The same two servers, both of period 4, row 0 with capacity 1 and row 1 with 2; row 1, the higher,
-- starts with tick 2. The one task belongs to row 1.
unfoldable pub late : Table
late =
    table_of
    (rows
    (server 0 Timed 10 4 (by_mode 1 1 1) ∷ late_server 2 0 Timed 20 4 (by_mode 2 2 2) ∷ [])
    (task 1 1 10 LO (by_mode 1 1 1) ∷ []))

unfoldable computed : Unit {0}
unfolding
    every least all_below any_below sum_below highest anew table_of table_keeps keeps server_keeps task_keeps
    task_fault task_stands differ in_force waits some_waits sound_server sound_task sound_last sound_counts sound_state sound
    release_of judge step1 drops discards step2 step3 step4 settle able highest_able highest_task choose advance
    tick_taken tick_of after_in answers_in example turns crossed tight levels late
computed = tt

-- What one tick does.

-- "A release adds one job at the back of its task's queue; releases are never merged."
pub two_releases : waiting_at (state_after (Release 1 ∷ Release 1 ∷ [])) 1 ≡ 2
unfolding computed
two_releases = refl

-- Step 7, "All elapsed counts and the tick number rise by 1": after 11 ticks server 0, of period
-- 10, has 1 elapsed
pub eleven_ticks : map (elapsed_at (state_after (replicate 11 (Tick false)))) (0 ∷ 1 ∷ 2 ∷ []) ≡ 1 ∷ 11 ∷ 11 ∷ []
unfolding computed
eleven_ticks = refl

-- Steps 4 and 5 without a job: row 1 is charged its 2 ticks, row 0 its 1, then nobody, and at tick
-- 4 a period is over
pub without_jobs : turns (answers (fresh_run crossed) (replicate 5 (Tick false))) ≡
    Empty 1 ∷ Empty 1 ∷ Empty 0 ∷ Idle ∷ Empty 1 ∷ []
unfolding computed
without_jobs = refl

-- 02, No. 7. "Until that tick the server has no budget and is not able; from it on, periods count
-- from it.": row 1 is charged in ticks 2 and 3 and again, after 4 ticks, in 6 and 7; row 0 in tick 0,
-- and in tick 4, with which its own second period begins
pub late_turns : turns (answers (fresh_run late) (replicate 9 (Tick false))) ≡
    Empty 0 ∷ Idle ∷ Empty 1 ∷ Empty 1 ∷ Empty 0 ∷ Idle ∷ Empty 1 ∷ Empty 1 ∷ Empty 0 ∷ []
unfolding computed
late_turns = refl

-- a job that waits for it is not run before; nothing is elapsed for it before, and one tick after
pub late_job : turns (answers (fresh_run late) (Release 0 ∷ replicate 3 (Tick false))) ≡ Empty 0 ∷ Idle ∷ Ran 1 0 ∷ []
unfolding computed
late_job = refl

pub late_elapsed : map (λ n. elapsed_at (after (fresh_run late) (replicate n (Tick false))).state 1) (0 ∷ 2 ∷ 3 ∷ 6 ∷ 7 ∷ []) ≡
    0 ∷ 0 ∷ 1 ∷ 4 ∷ 1 ∷ []
unfolding computed
late_elapsed = refl

-- Step 1, "Mark 1: that job leaves, finished."
pub finished_by_mark : told (Release 0 ∷ Tick false ∷ Tick true ∷ []) ≡
    Released 0 ∷ says 0 N (Ran 0 0) Nobody 0 ∷ says 1 N (Empty 1) (Done 0) 0 ∷ []
unfolding computed
finished_by_mark = refl

-- Step 6, "run count plus 1. The front job's count starts at 0": the first job of task 1 ran two
-- ticks, the second one
pub counts_from_0 : runs_at (state_after (Release 1 ∷ Release 1 ∷ Tick false ∷ Tick false ∷ Tick true ∷ [])) 1 ≡ 1
unfolding computed
counts_from_0 = refl

-- Steps 5 and 6, "The highest is charged", "Its highest task with a waiting job runs the front
-- job": row 1 each time
pub highest_first : turns (answers (fresh_run crossed) (Release 0 ∷ Release 1 ∷ Tick false ∷ Tick true ∷ Tick true ∷ Tick false ∷ [])) ≡
    Ran 1 1 ∷ Ran 1 0 ∷ Empty 0 ∷ Idle ∷ []
unfolding computed
highest_first = refl

-- Step 1, "at its limit a job raises the mode only if its level lies above the present one": task
-- 0 is HI with limits 1, 2, 3. In D2 it is cut; step 3 then finds no job waiting, and that tick is
-- in N.
pub rises_and_is_cut : told (Release 0 ∷ replicate 4 (Tick false)) ≡
    Released 0
    ∷ says 0 N (Ran 0 0) Nobody 0
    ∷ says 1 D1 (Ran 1 0) Nobody 0
    ∷ says 2 D2 (Ran 1 0) Nobody 0
    ∷ says 3 N (Empty 1) (Cut 0) 0
    ∷ []
unfolding computed
rises_and_is_cut = refl

-- "Used counts stay; only the capacity compared with them changes": of that run, which was in N,
-- D1, D2 and N
pub used_over_modes : map (used_at (state_after (Release 0 ∷ replicate 4 (Tick false)))) (0 ∷ 1 ∷ 2 ∷ []) ≡ 1 ∷ 3 ∷ 0 ∷ []
unfolding computed
used_over_modes = refl

-- "otherwise it is cut. A LO job in N .. now cut": at its limit of 1, and the tick stays in N; the
-- next one is finished by mark.
pub low_cut_in_n : answers (fresh_run levels) (Release 2 ∷ Release 2 ∷ Tick false ∷ Tick false ∷ Tick true ∷ []) ≡
    Released 2
    ∷ Released 2
    ∷ says 0 N (Ran 0 2) Nobody 0
    ∷ says 1 N (Ran 0 2) (Cut 2) 0
    ∷ says 2 N (Empty 0) (Done 2) 0
    ∷ []
unfolding computed
low_cut_in_n = refl

-- ".. and a MI job in D1 are now cut", "After a rise, judge again at the new limit": the MI job's
-- limit is 1 in N and in D1, so it raises the mode to D1 and is cut there. The LO job waits, so the
-- tick is in D1; there it has 2 ticks, is cut, and leaves no job waiting.
pub middle_cut_in_d1 : answers (fresh_run levels) (Release 1 ∷ Release 2 ∷ replicate 4 (Tick false)) ≡
    Released 1
    ∷ Released 2
    ∷ says 0 N (Ran 0 1) Nobody 0
    ∷ says 1 D1 (Ran 0 2) (Cut 1) 0
    ∷ says 2 D1 (Ran 0 2) Nobody 0
    ∷ says 3 N (Empty 0) (Cut 2) 0
    ∷ []
unfolding computed
middle_cut_in_d1 = refl

-- which job at its limit raises the mode: of the levels LO, MI and HI, in N, D1 and D2
pub who_raises : map (λ m. map (raises m) (LO ∷ MI ∷ HI ∷ [])) (N ∷ D1 ∷ D2 ∷ []) ≡
    (false ∷ true ∷ true ∷ []) ∷ (false ∷ false ∷ true ∷ []) ∷ (false ∷ false ∷ false ∷ []) ∷ []
who_raises = refl

-- Step 2, "On entering D2 every waiting LO job is discarded and counted": three of task 2 wait when
-- task 0 rises to D2.
pub low_discarded : told (Release 0 ∷ (replicate 3 (Release 2) ++ replicate 3 (Tick false))) ≡
    Released 0
    ∷ Released 2
    ∷ Released 2
    ∷ Released 2
    ∷ says 0 N (Ran 0 0) Nobody 0
    ∷ says 1 D1 (Ran 1 0) Nobody 0
    ∷ says 2 D2 (Ran 1 0) Nobody 3
    ∷ []
unfolding computed
low_discarded = refl

-- Step 3 comes after step 2, "A rise that step 3 takes back in the same tick leaves that tick in N":
-- at tick 1 the HI job rises to D2 and is cut there, the LO job is discarded, and no job waits.
pub rise_taken_back : answers (fresh_run tight) (Release 0 ∷ Release 1 ∷ Tick false ∷ Tick false ∷ []) ≡
    Released 0 ∷ Released 1 ∷ says 0 N (Ran 0 0) Nobody 0 ∷ says 1 N (Empty 0) (Cut 0) 1 ∷ []
unfolding computed
rise_taken_back = refl

-- Numbers for no.

-- 6, "no such task": the example's last task is 2
pub no_6 : numbers (Release 3 ∷ []) ≡ 6 ∷ []
unfolding computed
no_6 = refl

-- 7, "LO release in D2": task 2 is LO, tasks 0 and 1 are not
pub no_7 : map (λ m. map (λ k. no_in (with_mode fresh m) (Release k)) (0 ∷ 1 ∷ 2 ∷ [])) (N ∷ D1 ∷ D2 ∷ []) ≡
    (0 ∷ 0 ∷ 0 ∷ []) ∷ (0 ∷ 0 ∷ 0 ∷ []) ∷ (0 ∷ 0 ∷ 7 ∷ []) ∷ []
unfolding computed
no_7 = refl

-- 8, "16 jobs of this task already wait": the 17th is refused, one of another task is not
pub no_8 : numbers (replicate 17 (Release 2) ++ (Release 1 ∷ [])) ≡ replicate 16 0 ++ (8 ∷ 0 ∷ [])
unfolding computed
no_8 = refl

-- 9, "mark 1, but no tick was taken yet or the last one ran no job": before any tick, after an
-- empty one, and a second time after a job
pub no_9 : numbers (Tick true ∷ Tick false ∷ Tick true ∷ Release 0 ∷ Tick false ∷ Tick true ∷ Tick true ∷ []) ≡
    9 ∷ 0 ∷ 9 ∷ 0 ∷ 0 ∷ 0 ∷ 9 ∷ []
unfolding computed
no_9 = refl

-- a fresh state with these counts of taken ticks and accepted releases
abbrev counted : ℕ → ℕ → State
counted ticks accepted = with_counts fresh (record { 0 = ticks }) accepted

-- 10, "a tick when 4,000,000,000 are taken, or a release when as many are accepted; neither count
-- refuses the other event": a tick and a release, where so many ticks are taken and so many
-- releases accepted
abbrev at_counts : ℕ → ℕ → List ℕ
at_counts ticks accepted = map (no_in (counted ticks accepted)) (Tick false ∷ Release 0 ∷ [])

pub no_10_tick : map (λ n. at_counts n 0) (3999999999 ∷ 4000000000 ∷ []) ≡ (0 ∷ 0 ∷ []) ∷ (10 ∷ 0 ∷ []) ∷ []
unfolding computed
no_10_tick = refl

pub no_10_release : map (at_counts 0) (3999999999 ∷ 4000000000 ∷ []) ≡ (0 ∷ 0 ∷ []) ∷ (0 ∷ 10 ∷ []) ∷ []
unfolding computed
no_10_release = refl

-- a state in which so many jobs of task k wait, the front one after so many ticks
abbrev queued : ℕ → ℕ → ℕ → State
queued k waiting runs =
    with_counts (with_queues fresh (record { waiting = set fresh.waiting k waiting; runs = set fresh.runs k runs })) fresh.ticks waiting

-- a state with these counts of server i
abbrev spent : ℕ → ℕ → ℕ → State
spent i used elapsed = with_budgets fresh (set fresh.used i used) (set fresh.elapsed i elapsed)

-- a state with task 0 as the last-run one and so many ticks taken
abbrev last_ran : State → ℕ → State
last_ran s ticks = with_counts (with_last s (Some 0)) (record { 0 = ticks }) s.accepted

-- 13: a table without rows; each clause of a sound state broken, a bound by one; and the states
-- beside them
pub no_13_table : no_of (event_of (fresh_run (table_of (rows [] []))) (Tick false)).answer ≡ 13
unfolding computed
no_13_table = refl

pub no_13 : map (λ s. no_in s (Tick false))
    -- elapsed past the period; used past elapsed; used past the largest capacity
    (spent 0 0 11
    ∷ spent 1 4 3
    ∷ spent 1 8 20
    -- 17 wait; a run count where none waits; one at the limit of a job that is not the last-run one
    ∷ queued 2 17 0
    ∷ queued 1 0 1
    ∷ queued 1 1 3
    -- the last-run task has no waiting job; its run count is 0; no tick was taken
    ∷ last_ran fresh 1
    ∷ last_ran (queued 0 1 0) 1
    ∷ last_ran (queued 0 1 1) 0
    -- a LO job waits in D2; a tick too many; a release too many; fewer accepted than wait
    ∷ with_mode (queued 2 1 0) D2
    ∷ counted 4000000001 0
    ∷ counted 0 4000000001
    ∷ with_counts (queued 2 2 0) fresh.ticks 1
    ∷ []) ≡ replicate 13 13
unfolding computed
no_13 = refl

pub no_13_beside : map (λ s. no_in s (Tick false))
    (spent 0 0 10
    ∷ spent 1 3 3
    ∷ spent 1 7 20
    ∷ queued 2 16 0
    ∷ queued 1 1 2
    ∷ last_ran (queued 0 1 1) 1
    ∷ with_mode (queued 1 1 0) D2
    ∷ []) ≡ replicate 7 0
unfolding computed
no_13_beside = refl

-- 02, No. 7: "a server before its phase has used 0 and elapsed 0", row 1 of `late`, whose phase is 2:
-- elapsed 1 after 1 tick; used 1 and elapsed 1; and beside them elapsed 0, and, at the phase, elapsed 1
pub no_13_late :
    map
    (λ s. no_of (event_of (record { table = late; state = s }) (Tick false)).answer)
    (with_counts (spent 1 0 1) (record { 0 = 1 }) 0
    ∷ with_counts (spent 1 1 1) (record { 0 = 1 }) 0
    ∷ with_counts (spent 1 0 0) (record { 0 = 1 }) 0
    ∷ with_counts (spent 1 1 1) (record { 0 = 2 }) 0
    ∷ []) ≡ 13 ∷ 13 ∷ 0 ∷ 0 ∷ []
unfolding computed
no_13_late = refl

-- "state as it was": a job of task 1 waits, and then come a release and a tick that are refused.
-- Who waits after that:
pub as_it_was : map (waiting_at (state_after (Release 1 ∷ Release 3 ∷ Tick true ∷ []))) (0 ∷ 1 ∷ 2 ∷ []) ≡ 0 ∷ 1 ∷ 0 ∷ []
unfolding computed
as_it_was = refl

-- "Others: 13 first; release 6, 7, 8, 10; tick 9, 10": of two reasons the first is told
pub first_told :
    no_in (counted 0 4000000001) (Release 3)
    ∷ no_in (counted 0 4000000000) (Release 3)
    ∷ no_in (with_mode (counted 0 4000000000) D2) (Release 2)
    ∷ no_in (with_counts (queued 2 16 0) fresh.ticks 4000000000) (Release 2)
    ∷ no_in (counted 4000000001 0) (Tick true)
    ∷ no_in (counted 4000000000 0) (Tick true)
    ∷ [] ≡ 13 ∷ 6 ∷ 7 ∷ 8 ∷ 13 ∷ 9 ∷ []
unfolding computed
first_told = refl
