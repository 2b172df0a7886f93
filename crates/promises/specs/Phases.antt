-- Request No. 7 of document 02. "Servers that start late. Four servers refilling on the same tick
-- make the panel flicker. Each server row gets a phase, 0 to period less 1, in whole ticks, as a last
-- field. Until that tick the server has no budget and is not able; from it on, periods count from
-- it." Condition1.antt has what is asked of a table and of a state, Condition2.antt the rule of a
-- tick, Bounds.antt the periods; here is what may be concluded. proofs/Phases.antt proves it.
use Rattle.std.specs.Prelude.{◌≡◌, Bool, true, false, not, ◌&&◌, ◌||◌, List, [], ◌∷◌, ◌++◌, map, ℕ, ◌+◌, ◌<◌, leb, ltb, eqb, length, get_or, drop, replicate}
use Rattle.laws.specs.Choice.{unless◌say◌else◌, every, within}
use Rattle.laws.specs.Rows.{all_below, sum_below, highest, anew}
use Rattle.table.specs.declared.Kind.TheVariants.{Event as EventKind, Timed}
use Rattle.table.specs.declared.Level.TheVariants.{LO}
use Rattle.table.specs.declared.Mode.{Mode}
use Rattle.table.specs.declared.Mode.TheVariants.{N}
use Rattle.table.specs.declared.Server.{Server}
use Rattle.table.specs.declared.Table.{Table}
use Rattle.table.specs.declared.Refusal.TheVariants.{NoTask, LowInD2, QueueFull, NoJobRan, CountSpent, Unsound}
use Rattle.table.specs.Rows.{Rows, rows_of, table_of, no_server, no_task, server_at, task_at, priority_at, period_at, phase_at}
use Rattle.table.specs.Rows.{capacity_at, largest, is_timed, is_low, is_d2}
use Rattle.table.specs.Rules.{tick_keeps, priority_keeps, task_stands, differ, table_keeps}
use Rattle.table.specs.Example.{by_mode, server, late_server, task, rows}
use Rattle.verdict.specs.declared.Verdict.TheVariants.{Response}
use Rattle.verdict.specs.Verdict.{verdict_of}
use Rattle.verdict.specs.Fits.{fits_of}
use Rattle.queues.specs.Queues.{ran_job}
use Rattle.events.specs.declared.Answer.TheVariants.{Released}
use Rattle.events.specs.declared.Event.{Event}
use Rattle.events.specs.declared.Event.TheVariants.{Release, Tick}
use Rattle.events.specs.declared.Turn.{Turn}
use Rattle.events.specs.Answers.{charged}
use Rattle.events.specs.Boxes.{Box, after_in, answers_in}
use Rattle.run.specs.declared.State.{State}
use Rattle.run.specs.declared.Run.{Run}
use Rattle.events.specs.declared.Answered.{Answered}
use Rattle.run.specs.State.{used_at, elapsed_at, waiting_at, waits, with_budgets, with_counts}
use Rattle.run.specs.Sound.{sound_task, sound_last, sound_counts}
use Rattle.run.specs.Release.{refused, with_job, fresh_run}
use Rattle.run.specs.Tick.{settle, highest_task, turn_for, step5, step6, Stepped, ticked}
use Rattle.run.specs.Events.{after, answers}
use Rattle.run.specs.Found.{TakenTick, taken_ticks}
use Rattle.morning.specs.Numbers.{passed_over}
use Rattle.promises.specs.Bounds.{in_row, charges, whole_period, normal}
use Rattle.promises.specs.Condition2.{OneTick, IsTaken, table, new}

-- "Until that tick the server has no budget and is not able": a tick whose number is below its phase
-- does not charge it and leaves it used 0 and elapsed 0, from any state that is handed in.
abbrev pub BeforeItsPhase : Type 0
BeforeItsPhase =
    (x : OneTick) (i : ℕ) → IsTaken x → i < (table x).nservers → x.says.tick.0 < phase_at (table x) i →
    (charged x.says.turn i ≡ 0) × (used_at (new x) i ≡ 0) × (elapsed_at (new x) i ≡ 0)

-- In the morning report such a tick counts as one in which the server "had a waiting job and was not
-- charged", exactly if it had one.
abbrev pub ReportedBefore : Type 0
ReportedBefore =
    (r : Run) (es : List Event) (x i : ℕ) (m : TakenTick) (ms : List TakenTick) →
    drop x (taken_ticks r es) ≡ m ∷ ms → m.answer.tick.0 < phase_at r.table i →
    passed_over r.table i m ≡ waits r.table m.found i

-- "Verdicts are unchanged." What is left of a table without its phases: all its servers start at once.
abbrev pub at_once : Server → Server
at_once s =
    record {
      partition = s.partition;
      kind = s.kind;
      priority = s.priority;
      period = s.period;
      capacity = s.capacity;
      phase = record { 0 = 0 };
    }

abbrev pub all_at_once : Table → Table
all_at_once t =
    record {
      tick = t.tick;
      nservers = t.nservers;
      ntasks = t.ntasks;
      servers = map at_once t.servers;
      tasks = t.tasks;
    }

-- two accepted tables that differ in their phases alone have the same verdicts, and fit alike
abbrev pub VerdictsUnchanged : Type 0
VerdictsUnchanged =
    (t u : Table) → table_keeps t ≡ true → table_keeps u ≡ true → all_at_once t ≡ all_at_once u →
    ((i : ℕ) (m : Mode) → verdict_of t i m ≡ verdict_of u i m) × (fits_of t ≡ fits_of u)

-- "A row without the field has phase 0": with all phases 0 every answer is that of the base. What the
-- request changed stands here as it was before it, its names beginning with `base`; what these are
-- made of is what it left alone.
abbrev pub no_phases : Table → Bool
no_phases t = all_below t.nservers (λ i. eqb (phase_at t i) 0)

abbrev pub base_server_keeps : Server → List Bool
base_server_keeps s =
    within 0 15 s.partition
    ∷ priority_keeps s.priority
    ∷ within 1 1000000 s.period.0
    ∷ leb s.capacity.n.0 s.period.0
    ∷ leb s.capacity.d1.0 s.period.0
    ∷ leb s.capacity.d2.0 s.period.0
    ∷ []

abbrev pub base_keeps : Rows → Bool
base_keeps a =
    every
    (tick_keeps a.tick.0
    ∷ within 1 32 (length a.servers)
    ∷ within 1 64 (length a.tasks)
    ∷ all_below (length a.servers) (λ i. every (base_server_keeps (get_or a.servers i no_server)))
    ∷ all_below (length a.tasks) (λ k. task_stands a.servers (get_or a.tasks k no_task))
    ∷ differ (length a.servers) (λ i. (get_or a.servers i no_server).priority)
    ∷ differ (length a.tasks) (λ k. (get_or a.tasks k no_task).priority)
    ∷ [])

abbrev pub base_table_keeps : Table → Bool
base_table_keeps t = within 1 32 t.nservers && (within 1 64 t.ntasks && base_keeps (rows_of t))

abbrev pub base_sound_server : Table → State → ℕ → List Bool
base_sound_server t s i =
    leb (elapsed_at s i) (period_at t i)
    ∷ leb (used_at s i) (elapsed_at s i)
    ∷ leb (used_at s i) (largest (server_at t i).capacity).0
    ∷ []

abbrev pub base_sound_state : Table → State → Bool
base_sound_state t s =
    every
    (all_below t.nservers (λ i. every (base_sound_server t s i))
    ∷ all_below t.ntasks (λ k. every (sound_task t s k))
    ∷ sound_last t s s.last
    ∷ every (sound_counts t s)
    ∷ [])

abbrev pub base_sound : Run → Bool
base_sound r = base_table_keeps r.table && base_sound_state r.table r.state

-- step 5, "Able servers: used below capacity in the present mode, and timed, or with a waiting job."
abbrev pub base_able : Table → State → ℕ → Bool
base_able t s i = ltb (used_at s i) (capacity_at t s.mode i) && (is_timed (server_at t i).kind || waits t s i)

abbrev pub base_choose : Table → State → Turn
base_choose t s = turn_for (highest_task t s) (highest t.nservers (base_able t s) (priority_at t))

-- step 7, "All elapsed counts and the tick number rise by 1."
abbrev pub base_step7 : Table → State → State
base_step7 t s =
    with_counts
    (with_budgets s s.used (anew t.nservers (λ i e. e + 1) s.elapsed))
    (record { 0 = s.ticks.0 + 1 })
    s.accepted

abbrev pub base_tick_taken : Table → State → Bool → Stepped
base_tick_taken t s mark =
    let z = settle t s mark in
    let turn = base_choose t z.state in
    record {
      answer =
          record {
            tick = s.ticks;
            mode = z.state.mode;
            turn = turn;
            left = z.left;
            discarded = sum_below t.ntasks z.discarded;
          };
      state = base_step7 t (step6 t (step5 t z.state turn) turn);
    }

abbrev pub base_event_of : Run → Event → Answered Run
base_event_of r (Release k) =
    unless base_sound r say refused r Unsound
    else unless ltb k r.table.ntasks say refused r NoTask
    else unless not (is_d2 r.state.mode && is_low (task_at r.table k).level) say refused r LowInD2
    else unless ltb (waiting_at r.state k) 16 say refused r QueueFull
    else unless ltb r.state.accepted 4000000000 say refused r CountSpent
    else record { answer = Released k; run = record { table = r.table; state = with_job r.state k } }
base_event_of r (Tick mark) =
    unless base_sound r say refused r Unsound
    else unless not mark || ran_job r.state.last say refused r NoJobRan
    else unless ltb r.state.ticks.0 4000000000 say refused r CountSpent
    else ticked r (base_tick_taken r.table r.state mark)

abbrev pub base_box : Box Run
base_box =
    record { sound = base_sound; answer = λ r e. (base_event_of r e).answer; next = λ r e. (base_event_of r e).run }

-- of a table, and of any state and any events
abbrev pub AllPhases0 : Type 0
AllPhases0 =
    ((t : Table) → no_phases t ≡ true → table_keeps t ≡ base_table_keeps t)
    × ((r : Run) (es : List Event) → no_phases r.table ≡ true →
    (answers r es ≡ answers_in base_box r es) × (after r es ≡ after_in base_box r es))

-- P9, "event 4 and 2 above timed 8 and 2 gives 6": once the event server starts at tick 2, a run
-- reaches it. A job of 4 ticks is released after 8 ticks; the event server runs it in ticks 8 and 9,
-- at the end of a period, and 10 and 11, at the start of the next. So of its whole period from tick 8
-- on the timed server is charged in the 5th and the 6th tick.
unfoldable pub late : Table
late =
    table_of
    (rows
    (late_server 2 0 EventKind 2 4 (by_mode 2 2 2) ∷ server 0 Timed 1 8 (by_mode 2 2 2) ∷ [])
    (task 0 1 1 LO (by_mode 4 4 4) ∷ []))

abbrev pub late_events : List Event
late_events =
    replicate 8 (Tick false) ++ (Release 0 ∷ (replicate 4 (Tick false) ++ (Tick true ∷ replicate 3 (Tick false))))

abbrev pub P9Reached : Type 0
P9Reached =
    let ms = taken_ticks (fresh_run late) late_events in
    (verdict_of late 1 N ≡ Response (record { 0 = 6 }))
    × (normal ms ≡ true)
    × (whole_period late 1 (in_row ms 8 8) ≡ true)
    × (charges 1 (in_row ms 8 5) ≡ 1)
    × (charges 1 (in_row ms 8 6) ≡ 2)
