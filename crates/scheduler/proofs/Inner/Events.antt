-- A start, a release and a tick, case by case in the order of their refusals; and what a sound run
-- says of its parts: the counts that a tick raises fit. Assumes nothing.
use Rattle.std.proofs.Common.{Err, Ok, None, Option, Some}
use mathlib.Core.Path.{◌≡◌, sym, ap, ◌∙◌}
use mathlib.Core.Bool.{Bool, true, false, not, ◌&&◌, ◌||◌}
use mathlib.Core.List.{List}
use Prim.Native.Nat.{ℕ, ◌≤◌, ◌<◌}
use native.Mathlib.Omega.{arith}
use lib.Dec.{eqb}
use borrow.Author.Tests.{lt-ltb, le-ltb, ltb-true}
use Rattle.laws.proofs.Choice.{if_ind}
use Rattle.table.specs.declared.Table.{Table}
use Rattle.table.specs.declared.Refusal.{Refusal}
use Rattle.table.specs.declared.Refusal.TheVariants.{NoTask, LowInD2, QueueFull, NoJobRan, CountSpent, Unsound}
use Rattle.table.specs.Rows.{period_at, task_at, is_low, is_d2}
use Rattle.table.specs.Rules.{table_keeps}
use Rattle.table.specs.Inner.{Sized}
use Rattle.table.proofs.Rules.{TableRules, table_rules}
use Rattle.events.specs.declared.Answer.TheVariants.{Released, Ticked, No}
use Rattle.events.specs.declared.Event.{Event}
use Rattle.events.specs.declared.Event.TheVariants.{Release, Tick}
use Rattle.events.specs.declared.Left.{Left}
use Rattle.run.specs.declared.Run.{Run}
use Rattle.run.specs.declared.State.{State}
use Rattle.events.specs.declared.TickAnswer.{TickAnswer}
use Rattle.events.specs.declared.Turn.{Turn}
use Rattle.events.specs.declared.Turn.TheVariants.{Run as Ran, Empty, Idle}
use Rattle.laws.specs.Rows.{sum_below}
use Rattle.events.specs.Answers.{charged}
use Rattle.run.specs.State.{used_at, elapsed_at, waiting_at}
use Rattle.run.specs.Sound.{sound}
use Rattle.run.specs.Events.{event_of}
use Rattle.run.specs.Found.{taken_by, top_priority, found_values}
use Rattle.run.specs.Release.{refused, fresh_run, start_of, with_job, release_of}
use Rattle.queues.specs.Queues.{ran_job}
use Rattle.run.specs.Tick.{settle, choose, advance, tick_taken, tick_of}
use Rattle.run.proofs.Shape.{Shaped, settle_counts}
use Rattle.run.proofs.Sound.{LastSound, StateSound, sound_table, sound_state_lem}
use Rattle.run.proofs.Steps.{settled_row}
use Rattle.events.proofs.Answers.{one_same}
use Rattle.run.proofs.Tick.{charged_able, able_room, force_low, ran_front, elapsed_settled}
use Rattle.scheduler.specs.declared.settle.Settling.{Settling}
use Rattle.scheduler.specs.declared.sheets.Sheets.{Sheets}
use Rattle.scheduler.specs.Inner.Columns.{SheetsOf}
use Rattle.scheduler.specs.Inner.Steps.{Few, RanJob, none_found, noted_of, SettledSo}
use Rattle.scheduler.specs.Inner.Steps.{ServerIn, TaskIn, ChargeFits, RunFits, CountsFit}
use Rattle.scheduler.specs.Inner.Choose.{with_tops}
use Rattle.scheduler.specs.Inner.Events.{SoundRun, FoundAt, run_of}

-- a start
pub start_taken : (t : Table) → table_keeps t ≡ true → record { answer = Ok tt; run = fresh_run t } ≡ start_of t
unfolding start_of
start_taken t e = rw e

pub start_unsound : (t : Table) → table_keeps t ≡ false → record { answer = Err Unsound; run = fresh_run t } ≡ start_of t
unfolding start_of
start_unsound t e = rw e

-- a release
release_unsound : (r : Run) (k : ℕ) → sound r ≡ false → refused r Unsound ≡ release_of r k
unfolding release_of
release_unsound r k e = rw e

module _ (r : Run) (k : ℕ) (e : sound r ≡ true) where
  pub release_no_task : r.table.ntasks ≤ k → refused r NoTask ≡ release_of r k
  unfolding release_of
  release_no_task h = rw (e, le-ltb k r.table.ntasks h)

  module _ (h : k < r.table.ntasks) where
    pub release_low : (is_d2 r.state.mode && is_low (task_at r.table k).level) ≡ true →
        refused r LowInD2 ≡ release_of r k
    unfolding release_of
    release_low l = rw (e, lt-ltb k r.table.ntasks h, l)

    module _ (l : (is_d2 r.state.mode && is_low (task_at r.table k).level) ≡ false) where
      pub release_full : 16 ≤ waiting_at r.state k → refused r QueueFull ≡ release_of r k
      unfolding release_of
      release_full q = rw (e, lt-ltb k r.table.ntasks h, l, le-ltb (waiting_at r.state k) 16 q)

      module _ (q : waiting_at r.state k < 16) where
        pub release_spent : 4000000000 ≤ r.state.accepted → refused r CountSpent ≡ release_of r k
        unfolding release_of
        release_spent c =
            rw (
              e,
              lt-ltb k r.table.ntasks h,
              l,
              lt-ltb (waiting_at r.state k) 16 q,
              le-ltb r.state.accepted 4000000000 c,
            )

        pub release_taken_lem : r.state.accepted < 4000000000 →
            record { answer = Released k; run = record { table = r.table; state = with_job r.state k } } ≡
            release_of r k
        unfolding release_of
        release_taken_lem c =
            rw (
              e,
              lt-ltb k r.table.ntasks h,
              l,
              lt-ltb (waiting_at r.state k) 16 q,
              lt-ltb r.state.accepted 4000000000 c,
            )

-- a tick
tick_unsound : (r : Run) (mark : Bool) → sound r ≡ false → refused r Unsound ≡ tick_of r mark
unfolding tick_of
tick_unsound r mark e = rw e

module _ (r : Run) (mark : Bool) (e : sound r ≡ true) where
  pub tick_no_job : (not mark || ran_job r.state.last) ≡ false → refused r NoJobRan ≡ tick_of r mark
  unfolding tick_of
  tick_no_job m = rw (e, m)

  module _ (m : (not mark || ran_job r.state.last) ≡ true) where
    pub tick_spent : 4000000000 ≤ r.state.ticks.0 → refused r CountSpent ≡ tick_of r mark
    unfolding tick_of
    tick_spent h = rw (e, m, le-ltb r.state.ticks.0 4000000000 h)

    pub tick_taken_lem : r.state.ticks.0 < 4000000000 → (z y : State) (l : Left) (n : ℕ) (turn : Turn) →
        (settle r.table r.state mark).state ≡ z → (settle r.table r.state mark).left ≡ l →
        sum_below r.table.ntasks (settle r.table r.state mark).discarded ≡ n → turn ≡ choose r.table z →
        advance r.table z turn ≡ y →
        record {
          answer = Ticked (record { tick = r.state.ticks; mode = z.mode; turn = turn; left = l; discarded = n });
          run = record { table = r.table; state = y };
        }
        ≡ tick_of r mark
    unfolding tick_of tick_taken
    tick_taken_lem h z y l n turn q₁ q₂ q₃ c a =
        rw (e, m, lt-ltb r.state.ticks.0 4000000000 h, q₁, q₂, q₃, ← c, a)

-- What is found at it: that of the tick, if it is taken, else nothing.
module _ (r : Run) (mark : Bool) (f' : List ℕ) where
  pub refused_finds : (why : Refusal) → No why ≡ (tick_of r mark).answer → f' ≡ none_found →
      FoundAt r.table (taken_by r (Tick mark) (tick_of r mark).answer) f'
  refused_finds why e z = rw (← e) z

  pub taken_finds : (a : TickAnswer) → Ticked a ≡ (tick_of r mark).answer → (z : State) (f : List ℕ) →
      (settle r.table r.state mark).state ≡ z →
      f ≡ noted_of r.table.ntasks (settle r.table r.state mark).discarded →
      f' ≡ with_tops (top_priority r.table z) f →
      FoundAt r.table (taken_by r (Tick mark) (tick_of r mark).answer) f'
  unfolding found_values
  taken_finds a e z f q₁ q₂ q₃ =
      let t = r.table in
      rw (← e)
      (q₃
      ∙ ap (with_tops (top_priority t z)) q₂
      ∙ ap (λ y. with_tops (top_priority t y) (noted_of t.ntasks (settle t r.state mark).discarded)) (sym q₁))

pub event_unsound : (r : Run) (e : Event) → sound r ≡ false → refused r Unsound ≡ event_of r e
event_unsound r (Release k) q = release_unsound r k q
event_unsound r (Tick mark) q = tick_unsound r mark q

-- A sound run with the sheets of its table is one that a step takes.
pub sound_run : (t : Table) (s : State) (ss : Sheets) → SheetsOf t ss → sound (run_of t s) ≡ true → Shaped s → SoundRun t ss s
sound_run t s ss q e l =
    let z : Sized t = record { servers = q.servers.0; tasks = q.tasks.0 } in
    let keeps = sound_table (run_of t s) e in
    let r = table_rules t z keeps in
    record {
      shows =
          record {
            keeps = keeps;
            sized = z;
            servers = record { count = q.nservers; cells = λ c i b d. q.servers.1 c i b (omega (arith, r.servers_high)) };
            tasks = record { count = q.ntasks; cells = λ c i b d. q.tasks.1 c i b (omega (arith, r.tasks_high)) };
          };
      sound = e;
      used_long = l.used;
      elapsed_long = l.elapsed;
      waiting_long = l.waiting;
      runs_long = l.runs;
    }

-- What such a run says.
module _ (t : Table) (ss : Sheets) (s : State) (p : SoundRun t ss s) where
  pub rules : TableRules t
  rules = table_rules t p.shows.sized p.shows.keeps

  pub shaped : Shaped s
  shaped = record { used = p.used_long; elapsed = p.elapsed_long; waiting = p.waiting_long; runs = p.runs_long }

  facts : StateSound t s
  facts = sound_state_lem (run_of t s) p.sound

  pub few : Few ss
  few =
      record {
        servers = omega (arith, p.shows.servers.count, rules.servers_high);
        tasks = omega (arith, p.shows.tasks.count, rules.tasks_high);
      }

  pub ran_job_lem : RanJob ss s.waiting s.last
  ran_job_lem = go s.last facts.last
    where
      go : (l : Option ℕ) → LastSound t s l → RanJob ss s.waiting l
      go None q = tt
      go (Some k) q = (omega (arith, q.below, p.shows.tasks.count), q.waits)

-- The rows of a turn are rows of the table.
pub server_in : (t : Table) (z : State) (turn : Turn) → turn ≡ choose t z → ServerIn t turn
server_in t z (Ran i k) q = (charged_able t z i (rw (← q) (one_same i))).0
server_in t z (Empty i) q = (charged_able t z i (rw (← q) (one_same i))).0
server_in t z Idle q = tt

pub task_in : (t : Table) (z : State) (turn : Turn) → turn ≡ choose t z → TaskIn t turn
task_in t z (Ran i k) q = (ran_front t z k (rw (← q) (one_same k))).1.below
task_in t z (Empty i) q = tt
task_in t z Idle q = tt

-- Counts fit. What is charged is below a capacity, and a front job that runs below its limit.
module _ (t : Table) (s : State) (mark : Bool) (r : TableRules t) (h : Shaped s) (f : StateSound t s) where
  server_room : (z : State) (i : ℕ) → charged (choose t z) i ≡ 1 → (i < 32) × (used_at z i ≤ 1000000)
  server_room z i e =
      let a = charged_able t z i e in
      let x = r.server i a.0 in (
        omega (arith, a.0, r.servers_high),
        omega (arith, able_room t z i a.1, force_low t z i, x.capacity z.mode, x.period_high),
      )

  charge_fits : (z : State) (turn : Turn) → turn ≡ choose t z → ChargeFits turn z.used
  charge_fits z (Ran i k) e = server_room z i (rw (← e) (one_same i))
  charge_fits z (Empty i) e = server_room z i (rw (← e) (one_same i))
  charge_fits z Idle e = tt

  run_fits_lem : (turn : Turn) → turn ≡ choose t (settle t s mark).state → RunFits turn (settle t s mark).state.runs
  run_fits_lem (Ran i k) e =
      let z = (settle t s mark).state in
      let a = (ran_front t z k (rw (← e) (one_same k))).1 in
      let j = settled_row t s mark r h f k a.below in (
        omega (arith, a.below, r.tasks_high),
        omega (arith, j.front (ltb-true 0 (waiting_at z k) a.waits), (r.task k a.below).limit_high z.mode),
      )
  run_fits_lem (Empty i) e = tt
  run_fits_lem Idle e = tt

  elapsed_low : (i : ℕ) → i < t.nservers → elapsed_at (settle t s mark).state i ≤ 1000000
  elapsed_low i l =
      rw (elapsed_settled t s mark i l r.servers_high h)
      (if_ind (λ (n : ℕ). n ≤ 1000000) (eqb (elapsed_at s i) (period_at t i))
      (λ e. omega arith)
      (λ e. omega (arith, (f.servers i l).elapsed, (r.server i l).period_high)))

pub room : (t : Table) (ss : Sheets) (s : State) (p : SoundRun t ss s) (mark : Bool) (z : State) (f' : List ℕ)
    (d : Settling) (turn : Turn) → SettledSo t mark s z f' d → turn ≡ choose t z → s.ticks.0 < 4000000000 →
    CountsFit ss turn z
room t ss s p mark z f' d turn q g l =
    let r = rules t ss s p in
    let a = shaped t ss s p in
    let f = sound_state_lem (run_of t s) p.sound in
    record {
      servers = (few t ss s p).servers;
      charge = charge_fits t s mark r a f z turn g;
      run = rw q.state at (run_fits_lem t s mark r a f turn (g ∙ ap (choose t) (sym q.state)));
      elapsed =
          λ i b.
          rw q.state at (elapsed_low t s mark r a f i (omega (arith, p.shows.servers.count)));
      ticks = rw (sym (ap (λ y. y.ticks) q.state) ∙ (settle_counts t s mark).0) l;
    }
