-- The definitions on small runs, computed: a slip in a definition shows here as an equation that fails.
-- The laws say more than these. Assumes nothing.
use Rattle.std.proofs.Common.{None, Option, Some}
use mathlib.Core.Path.{◌≡◌, refl}
use mathlib.Core.Bool.{true, false}
use mathlib.Core.List.{List, [], ◌∷◌, map}
use Prim.Native.Nat.{ℕ}
use lib.ListN.{replicate, set}
use Rattle.laws.specs.Choice.{every}
use Rattle.laws.specs.Search.{least}
use Rattle.laws.specs.Rows.{all_below, sum_below, highest, anew}
use Rattle.table.specs.declared.Mode.TheVariants.{N}
use Rattle.table.specs.Rules.{differ}
use Rattle.slots.specs.Frame.{rule_of, owner_at}
use Rattle.events.specs.declared.Answer.{Answer}
use Rattle.events.specs.declared.Answer.TheVariants.{Released, Ticked}
use Rattle.events.specs.declared.Event.{Event}
use Rattle.events.specs.declared.Event.TheVariants.{Release, Tick}
use Rattle.events.specs.declared.Left.{Left}
use Rattle.events.specs.declared.Left.TheVariants.{Nobody, Done, Cut}
use Rattle.events.specs.declared.Turn.{Turn}
use Rattle.events.specs.declared.Turn.TheVariants.{Run as Ran, Empty}
use Rattle.events.specs.Answers.{no_of}
use Rattle.events.specs.Boxes.{after_in, answers_in}
use Rattle.frametable.specs.declared.FrameTask.{FrameTask}
use Rattle.frametable.specs.declared.FrameTable.{FrameTable}
use Rattle.frametable.specs.Rows.{frame_table_of}
use Rattle.frametable.specs.Rules.{frame_task_keeps, frame_keeps, frame_table_keeps}
use Rattle.framerun.specs.declared.FrameState.{FrameState}
use Rattle.framerun.specs.declared.FrameRun.{FrameRun}
use Rattle.framerun.specs.State.{waiting_at, runs_at, fresh}
use Rattle.framerun.specs.Sound.{sound_task, sound_state, frame_sound}
use Rattle.framerun.specs.Release.{fresh_frame, release_of}
use Rattle.framerun.specs.Tick.{settle, highest_task, turn_at, advance, tick_taken, tick_of}
use Rattle.framerun.specs.Events.{frame_box}

task : ℕ → ℕ → ℕ → FrameTask
task partition priority limit = record { partition = partition; priority = priority; limit = record { 0 = limit } }

-- two tasks of measuring, the higher in row 1, one of alarm sending and one of the panel
unfoldable pub cabinet : FrameTable
unfolding task
cabinet =
    frame_table_of
    (record {
      tick = record { 0 = 1000 };
      tasks = task 0 10 2 ∷ task 0 40 1 ∷ task 1 30 2 ∷ task 2 20 3 ∷ [];
    })

-- a state with these queues of task k and these counts
unfoldable pub state : ℕ → ℕ → ℕ → Option ℕ → ℕ → ℕ → FrameState
state k waiting runs last ticks accepted =
    record {
      waiting = set fresh.waiting k waiting;
      runs = set fresh.runs k runs;
      last = last;
      ticks = record { 0 = ticks };
      accepted = accepted;
    }

says : ℕ → Turn → Left → Answer
says tick turn left =
    Ticked (record { tick = record { 0 = tick }; mode = N; turn = turn; left = left; discarded = 0 })

run : FrameState → FrameRun
run s = record { table = cabinet; state = s }

unfoldable computed : Unit {0}
unfolding
    every least all_below sum_below highest anew differ rule_of owner_at after_in answers_in frame_table_of frame_task_keeps frame_keeps
    frame_table_keeps sound_task sound_state frame_sound release_of settle highest_task turn_at advance tick_taken tick_of cabinet
    task state says run
computed = tt

told : List Event → List Answer
told es = answers_in frame_box (fresh_frame cabinet) es

-- The first twelve slots, nothing waiting: each is empty, and shows its partition.
empty_frame :
    told (replicate 12 (Tick false)) ≡
    says 0 (Empty 0) Nobody ∷ says 1 (Empty 1) Nobody ∷ says 2 (Empty 2) Nobody ∷ says 3 (Empty 0) Nobody
    ∷ says 4 (Empty 2) Nobody ∷ says 5 (Empty 2) Nobody ∷ says 6 (Empty 0) Nobody ∷ says 7 (Empty 1) Nobody
    ∷ says 8 (Empty 2) Nobody ∷ says 9 (Empty 0) Nobody ∷ says 10 (Empty 2) Nobody ∷ says 11 (Empty 2) Nobody ∷ []
unfolding told computed
empty_frame = refl

-- A job runs only in its partition's slots, and the partition's highest first; mark 1 ends it.
own_slots :
    told (Release 0 ∷ Release 1 ∷ Tick false ∷ Tick true ∷ Tick false ∷ Tick false ∷ Tick true ∷ []) ≡
    Released 0 ∷ Released 1 ∷ says 0 (Ran 0 1) Nobody ∷ says 1 (Empty 1) (Done 1) ∷ says 2 (Empty 2) Nobody
    ∷ says 3 (Ran 0 0) Nobody ∷ says 4 (Empty 2) (Done 0) ∷ []
unfolding told computed
own_slots = refl

-- "a job reaching its limit is cut", at the tick after, and the next one's count starts at 0.
cut_at_limit :
    told (Release 1 ∷ Release 1 ∷ Tick false ∷ Tick false ∷ Tick false ∷ Tick false ∷ Tick false ∷ []) ≡
    Released 1 ∷ Released 1 ∷ says 0 (Ran 0 1) Nobody ∷ says 1 (Empty 1) (Cut 1) ∷ says 2 (Empty 2) Nobody
    ∷ says 3 (Ran 0 1) Nobody ∷ says 4 (Empty 2) (Cut 1) ∷ []
unfolding told computed
cut_at_limit = refl

-- a job stays until its limit, over the slots of others
stays_below :
    told (Release 3 ∷ Tick false ∷ Tick false ∷ Tick false ∷ Tick false ∷ Tick false ∷ Tick false ∷ Tick false ∷ []) ≡
    Released 3 ∷ says 0 (Empty 0) Nobody ∷ says 1 (Empty 1) Nobody ∷ says 2 (Ran 2 3) Nobody ∷ says 3 (Empty 0) Nobody
    ∷ says 4 (Ran 2 3) Nobody ∷ says 5 (Ran 2 3) Nobody ∷ says 6 (Empty 0) (Cut 3) ∷ []
unfolding told computed
stays_below = refl

next_starts_at_0 : runs_at (after_in frame_box (fresh_frame cabinet) (Release 1 ∷ Release 1 ∷ Tick false ∷ Tick false ∷ [])).state 1 ≡ 0
unfolding computed
next_starts_at_0 = refl

two_releases : waiting_at (after_in frame_box (fresh_frame cabinet) (Release 1 ∷ Release 1 ∷ [])).state 1 ≡ 2
unfolding computed
two_releases = refl

-- around the self_test: slot 601 is measuring's, slot 613 alarm sending's again; and round the end
self_test :
    map (λ n. answers_in frame_box (run (state 2 1 0 None n 1)) (Tick false ∷ [])) (601 ∷ 607 ∷ 613 ∷ 1201 ∷ [])
    ≡ (says 601 (Empty 0) Nobody ∷ []) ∷ (says 607 (Empty 0) Nobody ∷ []) ∷ (says 613 (Ran 1 2) Nobody ∷ [])
    ∷ (says 1201 (Ran 1 2) Nobody ∷ []) ∷ []
unfolding computed
self_test = refl

-- Refusals, and their order: 13; release 6, 8, 10; tick 9, 10.
numbers : FrameRun → Event → ℕ
numbers r e = no_of (frame_box.answer r e)

release_refused :
    numbers (run (state 2 17 0 None 0 17)) (Release 9)
    ∷ numbers (run (state 2 16 0 None 0 4000000000)) (Release 4)
    ∷ numbers (run (state 2 16 0 None 0 4000000000)) (Release 2)
    ∷ numbers (run (state 2 15 0 None 0 4000000000)) (Release 2)
    ∷ numbers (run (state 2 15 0 None 4000000000 3999999999)) (Release 2)
    ∷ []
    ≡ 13 ∷ 6 ∷ 8 ∷ 10 ∷ 0 ∷ []
unfolding numbers computed
release_refused = refl

tick_refused :
    numbers (run (state 2 1 2 None 5 1)) (Tick true)
    ∷ numbers (run (state 2 1 1 None 4000000000 1)) (Tick true)
    ∷ numbers (run (state 2 1 1 None 4000000000 1)) (Tick false)
    ∷ numbers (run (state 2 1 1 (Some 2) 3999999999 1)) (Tick true)
    ∷ []
    ≡ 13 ∷ 9 ∷ 10 ∷ 0 ∷ []
unfolding numbers computed
tick_refused = refl

-- what is refused leaves the state as it was
as_it_was : waiting_at (frame_box.next (run (state 2 1 0 None 0 1)) (Release 9)).state 2 ≡ 1
unfolding computed
as_it_was = refl

-- The clauses of 13, each at its bound and past it.
sound_states :
    map (λ s. frame_sound (run s))
    (state 2 16 0 None 0 16 ∷ state 2 17 0 None 0 17 ∷ state 2 0 1 None 9 5 ∷ state 2 1 1 None 9 5 ∷ state 2 1 2 None 9 5
    ∷ state 2 1 2 (Some 2) 9 5 ∷ state 2 1 3 (Some 2) 9 5 ∷ state 2 1 0 (Some 2) 9 5 ∷ state 2 1 1 (Some 2) 0 5
    ∷ state 2 1 1 (Some 4) 9 5 ∷ state 2 5 1 None 9 4 ∷ state 2 0 0 None 4000000001 5 ∷ state 2 0 0 None 9 4000000001 ∷ [])
    ≡ true ∷ false ∷ false ∷ true ∷ false ∷ true ∷ false ∷ false ∷ false ∷ false ∷ false ∷ false ∷ false ∷ []
unfolding computed
sound_states = refl
