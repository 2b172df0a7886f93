-- Small nights worked out by hand from the words of request 1, and computed. So a slip in a
-- definition shows as an equation that is false. Assumes nothing.
use mathlib.Core.Path.{◌≡◌, refl}
use mathlib.Core.Bool.{true, false}
use mathlib.Core.List.{List, [], ◌∷◌, ◌++◌, map}
use Prim.Native.Nat.{ℕ}
use Prim.Native.String.{String}
use lib.ListN.{replicate}
use Rattle.laws.specs.Choice.{every}
use Rattle.laws.specs.Quoted.{bytes, lined}
use Rattle.laws.specs.Search.{least, first_failed, first_of}
use Rattle.laws.specs.RoundUp.{up}
use Rattle.laws.specs.Rows.{all_below, any_below, sum_below, highest, anew}
use Rattle.decimal.specs.Number.{are_digits, number_form, is_number, worth_from, digits_in, digits}
use Rattle.decimal.specs.Lines.{split, join, closed, same}
use Rattle.table.specs.declared.Kind.TheVariants.{Timed}
use Rattle.table.specs.declared.Level.TheVariants.{LO, HI}
use Rattle.table.specs.declared.Mode.TheVariants.{N, D1, D2}
use Rattle.table.specs.declared.Table.{Table}
use Rattle.table.specs.Rows.{table_of}
use Rattle.table.specs.Rules.{table_keeps, keeps, server_keeps, task_keeps, task_fault, task_stands, differ}
use Rattle.table.specs.Pairs.{later_equal, first_pair}
use Rattle.text.specs.Words.{tick_word, server_word, task_word, event_word, timed_word, lo_word, mi_word, hi_word}
use Rattle.text.specs.Line.{tick_form, server_form, task_form, field_tests, form_tests, line_by, line_of, read_line}
use Rattle.text.specs.Standing.{placed, server_bounds, task_bounds, bounds, server_whole, wholes, fault, standing, grown}
use Rattle.text.specs.Read.{compared, ended, read, shown}
use Rattle.events.specs.declared.Event.{Event}
use Rattle.events.specs.declared.Event.TheVariants.{Release, Tick}
use Rattle.events.specs.Boxes.{after_in, answers_in}
use Rattle.run.specs.State.{in_force, waits, some_waits}
use Rattle.run.specs.Sound.{sound, sound_state, sound_server, sound_task, sound_last, sound_counts}
use Rattle.run.specs.Release.{fresh_run, release_of}
use Rattle.run.specs.Tick.{judge, step1, drops, discards, step2, step3, step4, settle, able, highest_able, highest_task}
use Rattle.run.specs.Tick.{choose, advance, tick_taken, tick_of}
use Rattle.events.specs.Count.{over_all}
use Rattle.run.specs.Count.{discarded_of}
use Rattle.run.specs.Found.{taken_ticks}
use Rattle.table.specs.Example.{by_mode, server, task, rows, example}
use Rattle.lines.specs.EventLine.{release_form, tick_form as tickLineForm, event_said, event_line, closed_lines, event_lines}
use Rattle.morning.specs.Numbers.{events_in, passed_over, row_from, longest_row, server_numbers, task_numbers}
use Rattle.morning.specs.Numbers.{mode_number}
use Rattle.morning.specs.Page.{row_lines, page_lines, morning_lines, report}

-- The numbers of some rows, and of the modes N, D1 and D2, from a fresh start.
abbrev charges : Table → List Event → List ℕ → List ℕ
charges t es = map (λ i. (server_numbers (fresh_run t) es i).charged)

abbrev empties : Table → List Event → List ℕ → List ℕ
empties t es = map (λ i. (server_numbers (fresh_run t) es i).empty)

abbrev longest : Table → List Event → List ℕ → List ℕ
longest t es = map (λ i. (server_numbers (fresh_run t) es i).longest)

abbrev discards_of : Table → List Event → List ℕ → List ℕ
discards_of t es = map (λ k. (task_numbers (fresh_run t) es k).discarded)

abbrev modes_of : Table → List Event → List ℕ
modes_of t es = map (mode_number (fresh_run t) es) (N ∷ D1 ∷ D2 ∷ [])

-- Server 0, the higher, has capacity 0 in N.
unfoldable pub without : Table
without =
    table_of
    (rows
    (server 0 Timed 20 4 (by_mode 0 1 1) ∷ server 0 Timed 10 4 (by_mode 2 2 2) ∷ [])
    (task 0 0 20 HI (by_mode 2 2 2) ∷ []))

-- One server with a HI task that may run 1, 3 and 6 ticks and, below it, two LO tasks.
unfoldable pub lows : Table
lows =
    table_of
    (rows
    (server 0 Timed 10 20 (by_mode 20 20 20) ∷ [])
    (task 0 0 30 HI (by_mode 1 3 6) ∷ task 0 0 20 LO (by_mode 2 2 2) ∷ task 0 0 10 LO (by_mode 2 2 2) ∷ []))

unfoldable computed : Unit {0}
unfolding
    every least first_failed first_of up all_below any_below sum_below highest anew are_digits number_form is_number worth_from digits_in
    digits split join closed same table_of table_keeps keeps server_keeps task_keeps task_fault task_stands differ later_equal
    first_pair tick_word server_word task_word event_word timed_word lo_word mi_word hi_word tick_form server_form
    task_form field_tests form_tests line_by line_of read_line placed server_bounds task_bounds bounds server_whole wholes fault standing grown
    compared ended read shown in_force waits some_waits
    sound sound_state sound_server sound_task sound_last sound_counts release_of judge step1
    drops discards step2 step3 step4 settle able highest_able highest_task choose advance tick_taken tick_of after_in
    answers_in over_all discarded_of taken_ticks release_form tickLineForm event_said event_line closed_lines event_lines example
    events_in passed_over row_from longest_row row_lines page_lines morning_lines report without lows
computed = tt

-- At tick 0 the event server 0 runs a job; at tick 1 the timed server 1 has an empty turn.
abbrev event_then_empty : List Event
event_then_empty = Release 0 ∷ Tick false ∷ Tick true ∷ []

-- "the ticks charged"
pub charged_both : charges example event_then_empty (0 ∷ 1 ∷ 2 ∷ []) ≡ 1 ∷ 1 ∷ 0 ∷ []
unfolding computed
charged_both = refl

-- "the empty turns"
pub empty_only_timed : empties example event_then_empty (0 ∷ 1 ∷ 2 ∷ []) ≡ 0 ∷ 1 ∷ 0 ∷ []
unfolding computed
empty_only_timed = refl

-- "refused lines count nowhere": server 2 has a waiting job and is not charged at ticks 0 and 1. A
-- tick refused by 9 and a release refused by 6 between them do not break that row.
pub row_not_broken :
    longest example (Release 2 ∷ Tick false ∷ Tick true ∷ Release 3 ∷ Tick false ∷ []) (2 ∷ []) ≡ 2 ∷ []
unfolding computed
row_not_broken = refl

-- "the longest row": server 1 has five turns, in which server 2 waits, as it does at tick 8, where
-- server 0 runs; between them it runs at ticks 5 and 6 and has a turn, an empty one, at tick 7
pub longest_not_last :
    longest
    example
    (Release 2 ∷ (replicate 7 (Tick false) ++ (Tick true ∷ Release 2 ∷ Release 0 ∷ Tick false ∷ [])))
    (2 ∷ []) ≡
    5 ∷ []
unfolding computed
longest_not_last = refl

-- "in which it had a waiting job and was not charged": with capacity 0 in the mode too, and in an
-- idle tick. Server 1 has two turns, and tick 2 is idle.
pub capacity_0 : longest without (Release 0 ∷ replicate 3 (Tick false)) (0 ∷ 1 ∷ []) ≡ 3 ∷ 0 ∷ []
unfolding computed
capacity_0 = refl

-- "from the queues as steps 5 and 2 find them": before tick 1 a job of task 1 waits for server 1.
-- The mark ends it in step 1, and step 5, which charges server 0, finds none waiting for server 1.
pub as_step_5_finds : longest example (Release 1 ∷ Tick false ∷ Release 0 ∷ Tick true ∷ []) (0 ∷ 1 ∷ []) ≡ 0 ∷ 0 ∷ []
unfolding computed
as_step_5_finds = refl

-- the other way round: a job of task 1 is released before tick 1, and waits there for server 1
pub waits_as_released : longest example (Tick false ∷ Release 0 ∷ Release 1 ∷ Tick false ∷ []) (0 ∷ 1 ∷ []) ≡ 0 ∷ 1 ∷ []
unfolding computed
waits_as_released = refl

-- "each task's discards": two jobs of task 1 and one of task 2 are discarded at tick 3, on entering
-- D2
abbrev rise_to_d2 : ℕ → List Event
rise_to_d2 n = Release 0 ∷ Release 1 ∷ Release 1 ∷ Release 2 ∷ replicate n (Tick false)

pub discards_by_task : discards_of lows (rise_to_d2 4) (1 ∷ 2 ∷ []) ≡ 2 ∷ 1 ∷ []
unfolding computed
discards_by_task = refl

-- "ticks spent in each mode": tick 0, then 1 and 2, then 3, 4 and 5
pub ticks_by_mode : modes_of lows (rise_to_d2 6) ≡ 1 ∷ 2 ∷ 3 ∷ []
unfolding computed
ticks_by_mode = refl

-- "the jobs finished, cut, discarded and still waiting": of task 0 one is cut at tick 4, one is
-- finished at tick 5, and one waits that was released after the last tick
pub jobs_of_task_0 :
    task_numbers
    (fresh_run example)
    (Release 0 ∷ (replicate 4 (Tick false) ++ (Release 0 ∷ Tick false ∷ Tick true ∷ Release 0 ∷ [])))
    0 ≡
    record { finished = 1; cut = 1; discarded = 0; waiting = 1 }
unfolding computed
jobs_of_task_0 = refl

-- a mark above 1, another word and an unclosed last line are no events
pub other_lines : events_in (event_lines (lined ("R\t2" ∷ "T\t0" ∷ "T\t2" ∷ "tick" ∷ "T\t0" ∷ []) ++ bytes "T\t0")) ≡
    Release 2 ∷ Tick false ∷ Tick false ∷ []
unfolding computed
other_lines = refl

-- The page, from the two files.
abbrev table_text : List String
table_text =
    "tick\t1000"
    ∷ "server\t0\tevent\t30\t10000\t2000\t0\t0"
    ∷ "server\t0\ttimed\t20\t20000\t5000\t7000\t7000"
    ∷ "server\t1\ttimed\t10\t40000\t8000\t8000\t4000"
    ∷ "task\t0\t1\t50\tHI\t1000\t2000\t3000"
    ∷ "task\t1\t1\t40\tMI\t3000\t4000\t4000"
    ∷ "task\t2\t2\t10\tLO\t2000\t2000\t2000"
    ∷ []

-- of document 01's night
pub page_of_the_night :
    report
    (lined table_text)
    (lined ("R\t0" ∷ "R\t0" ∷ "T\t0" ∷ "T\t1" ∷ "T\t0" ∷ "T\t0" ∷ "T\t0" ∷ "T\t1" ∷ "R\t9" ∷ [])) ≡
    lined
    ("server\t0\t2\t0\t0"
    ∷ "server\t1\t3\t1\t0"
    ∷ "server\t2\t0\t0\t0"
    ∷ "task\t0\t1\t1\t0\t0"
    ∷ "task\t1\t0\t0\t0\t0"
    ∷ "task\t2\t0\t0\t0\t0"
    ∷ "mode\tN\t3"
    ∷ "mode\tD1\t1"
    ∷ "mode\tD2\t1"
    ∷ [])
unfolding computed
page_of_the_night = refl

-- "An empty file gives all zeros."
pub page_of_no_line : report (lined table_text) [] ≡
    lined
    ("server\t0\t0\t0\t0"
    ∷ "server\t1\t0\t0\t0"
    ∷ "server\t2\t0\t0\t0"
    ∷ "task\t0\t0\t0\t0\t0"
    ∷ "task\t1\t0\t0\t0\t0"
    ∷ "task\t2\t0\t0\t0\t0"
    ∷ "mode\tN\t0"
    ∷ "mode\tD1\t0"
    ∷ "mode\tD2\t0"
    ∷ [])
unfolding computed
page_of_no_line = refl

-- a table without a tick length
pub page_of_no_table : report (lined ("tick\t0" ∷ [])) (lined ("T\t0" ∷ [])) ≡ lined ("table\tno\t2\t1\t1" ∷ [])
unfolding computed
page_of_no_table = refl
