-- Condition 2. "Every tick goes as document 01's rules say: mode, budgets, the one server charged,
-- the one job run. Every verdict is the least response that meets the stated inequality, "misses"
-- exactly if none does within the period. From a fresh start, jobs released = finished + cut +
-- discarded + waiting, counted from the answers given." proofs/Condition2.antt proves it.
use Rattle.std.specs.Prelude.{◌≡◌, Bool, true, false, List, ◌⊎◌, ◌↔◌, ℕ, ◌+◌, ◌*◌, ◌-◌, ◌≤◌, ◌<◌, length, None, Option, Some}
use Rattle.laws.specs.Rows.{sum_below}
use Rattle.laws.specs.RoundUp.{up}
use Rattle.table.specs.declared.Kind.TheVariants.{Event as EventKind, Timed}
use Rattle.table.specs.declared.Level.TheVariants.{LO}
use Rattle.table.specs.declared.Mode.{Mode}
use Rattle.table.specs.declared.Mode.TheVariants.{N, D2}
use Rattle.table.specs.declared.Table.{Table}
use Rattle.table.specs.Rows.{server_at, task_at, period_at, phase_at, priority_at, capacity_at, limit_at}
use Rattle.table.specs.Rows.{task_priority_at}
use Rattle.table.specs.Rules.{table_keeps}
use Rattle.table.specs.Inner.{Sized}
use Rattle.verdict.specs.declared.Verdict.TheVariants.{Response, Misses}
use Rattle.verdict.specs.Verdict.{interference, verdict_of}
use Rattle.run.specs.declared.State.{State}
use Rattle.run.specs.declared.Run.{Run}
use Rattle.events.specs.declared.Event.{Event}
use Rattle.events.specs.declared.Turn.TheVariants.{Run as Ran, Empty, Idle}
use Rattle.events.specs.declared.Left.{Left}
use Rattle.events.specs.declared.Left.TheVariants.{Nobody, Done, Cut}
use Rattle.events.specs.declared.TickAnswer.{TickAnswer}
use Rattle.events.specs.declared.Answer.{Answer}
use Rattle.events.specs.declared.Answer.TheVariants.{Released, Ticked}
use Rattle.run.specs.State.{used_at, elapsed_at, waiting_at, runs_at}
use Rattle.run.specs.Sound.{sound}
use Rattle.events.specs.Answers.{no_of, ran, finished_by, cut_by}
use Rattle.run.specs.Release.{fresh_run, start_of, release_of}
use Rattle.run.specs.Tick.{height, counts_as, raised, tick_of}
use Rattle.run.specs.Events.{event_of, after, answers}
use Rattle.events.specs.Count.{any_finished, any_cut, released_in, finished_in, cut_in, discarded_in}
use Rattle.events.specs.Count.{released_of, finished_of, cut_of}

-- a run that code holds: its arrays have 32 and 64 rows
pub record RunSized (r : Run) : Type 0 where
  pub table : Sized r.table
  pub used : length r.state.used ≡ 32
  pub elapsed : length r.state.elapsed ≡ 32
  pub waiting : length r.state.waiting ≡ 64
  pub runs : length r.state.runs ≡ 64

-- "A fresh run is in N, all counts 0."
pub record Fresh (t : Table) (r : Run) : Type 0 where
  pub table : r.table ≡ t
  pub mode : r.state.mode ≡ N
  pub used : (i : ℕ) → used_at r.state i ≡ 0
  pub elapsed : (i : ℕ) → elapsed_at r.state i ≡ 0
  pub waiting : (k : ℕ) → waiting_at r.state k ≡ 0
  pub runs : (k : ℕ) → runs_at r.state k ≡ 0
  pub last : r.state.last ≡ None
  pub ticks : r.state.ticks.0 ≡ 0
  pub accepted : r.state.accepted ≡ 0

abbrev pub StartsFresh : Type 0
StartsFresh = (t : Table) → Fresh t (start_of t).run

-- "A release adds one job at the back of its task's queue; releases are never merged." The front
-- jobs' run counts stay, and so does all else.
pub record JobAdded (r : Run) (k : ℕ) (z : Run) : Type 0 where
  pub waiting : waiting_at z.state k ≡ waiting_at r.state k + 1
  pub others : (j : ℕ) → (k ≡ j → ⊥) → waiting_at z.state j ≡ waiting_at r.state j
  pub runs : z.state.runs ≡ r.state.runs
  pub used : z.state.used ≡ r.state.used
  pub elapsed : z.state.elapsed ≡ r.state.elapsed
  pub mode : z.state.mode ≡ r.state.mode
  pub last : z.state.last ≡ r.state.last
  pub ticks : z.state.ticks ≡ r.state.ticks
  pub accepted : z.state.accepted ≡ r.state.accepted + 1
  pub table : z.table ≡ r.table

abbrev pub EveryRelease : Type 0
EveryRelease =
    (r : Run) (k : ℕ) (z : Run) → RunSized r →
    release_of r k ≡ record { answer = Released k; run = z } → JobAdded r k z

-- Every tick goes as the rules say.

-- One tick: the run and the mark handed in, what is answered, and the run after it.
pub record OneTick : Type 0 where
  pub before : Run
  pub mark : Bool
  pub says : TickAnswer
  pub after : Run

-- the tick is taken; which are, condition 1 says
pub record IsTaken (x : OneTick) : Type 0 where
  pub held : RunSized x.before
  pub taken : tick_of x.before x.mark ≡ record { answer = Ticked x.says; run = x.after }

abbrev pub table : OneTick → Table
table x = x.before.table

-- the state that is handed in, and the one after the tick
abbrev pub old : OneTick → State
old x = x.before.state

abbrev pub new : OneTick → State
new x = x.after.state

-- What the steps leave on the way: the mode after step 1, the front jobs' run counts after step 2,
-- and the servers' counts after step 4.
pub record OnTheWay : Type 0 where
  pub mode : Mode
  pub runs : ℕ → ℕ
  pub used : ℕ → ℕ
  pub elapsed : ℕ → ℕ

-- Step 1 is as request No. 4 of document 02 has it. "its level lies above the present one, N
-- counting as LO and D1 as MI"
abbrev pub LiesAbove : Table → ℕ → Mode → Type 0
LiesAbove t k m = height (counts_as m) < height (task_at t k).level

-- What becomes of a job of task k whose run count is c: the mode before, the mode after, and the
-- job that left.
pub data Judging (t : Table) (k c : ℕ) : Mode → Mode → Left → Type 0 where
  -- "Mark 0 and its run count equals its limit in the present mode": else it stays
  stays : (m : Mode) → (c ≡ limit_at t m k → ⊥) → Judging t k c m m Nobody
  -- "at its limit a job raises the mode only if its level lies above the present one"; "After a
  -- rise, judge again at the new limit."
  rises : (m after : Mode) (l : Left) → c ≡ limit_at t m k → LiesAbove t k m →
      Judging t k c (raised m) after l → Judging t k c m after l
  -- "otherwise it is cut"
  is_cut : (m : Mode) → c ≡ limit_at t m k → (LiesAbove t k m → ⊥) → Judging t k c m m (Cut k)

-- by the mark and the last-run job: mode m is reached, and l is the job that left
abbrev pub Ends : Table → State → Bool → Option ℕ → Mode → Left → Type 0
-- "step 1 only if the last taken tick ran a job"
Ends t s mark None m l = (m ≡ s.mode) × (l ≡ Nobody)
-- "Mark 1: that job leaves, finished."
Ends t s true (Some k) m l = (m ≡ s.mode) × (l ≡ Done k)
-- "Mark 0 .."
Ends t s false (Some k) m l = Judging t k (runs_at s k) s.mode m l

abbrev pub Step1 : OneTick → OnTheWay → Type 0
Step1 x w = Ends (table x) (old x) x.mark (old x).last w.mode x.says.left

-- "On entering D2 every waiting LO job": such are the jobs of task k
pub record Discarded (x : OneTick) (w : OnTheWay) (k : ℕ) : Type 0 where
  pub entered : w.mode ≡ D2
  pub before : (old x).mode ≡ D2 → ⊥
  pub low : (task_at (table x) k).level ≡ LO

-- 1 if the job that left is of task k, else 0
abbrev pub leaves : OneTick → ℕ → ℕ
leaves x k = finished_by x.says.left k + cut_by x.says.left k

-- "is discarded and counted". Of every other task nothing is: what waited waits, or left.
pub record Step2 (x : OneTick) (w : OnTheWay) : Type 0 where
  pub gone : (k : ℕ) → k < (table x).ntasks → Discarded x w k → waiting_at (new x) k ≡ 0
  pub kept : (k : ℕ) → k < (table x).ntasks → (Discarded x w k → ⊥) →
      waiting_at (new x) k + leaves x k ≡ waiting_at (old x) k
  pub counted :
      sum_below (table x).ntasks (waiting_at (new x)) +
      (any_finished x.says.left + any_cut x.says.left) +
      x.says.discarded ≡
      sum_below (table x).ntasks (waiting_at (old x))

-- "Mode not N and no job waiting: mode N." Step 3 comes after step 2, so jobs that step 2 discards
-- no longer wait: "A rise that step 3 takes back in the same tick leaves that tick in N." The mode
-- is told, and the next tick starts in it.
pub record Step3 (x : OneTick) (w : OnTheWay) : Type 0 where
  pub none : ((k : ℕ) → k < (table x).ntasks → waiting_at (new x) k ≡ 0) → x.says.mode ≡ N
  pub some : (k : ℕ) → k < (table x).ntasks → 0 < waiting_at (new x) k → x.says.mode ≡ w.mode
  pub told : (new x).mode ≡ x.says.mode

-- "A server whose elapsed count equals its period gets used 0 and elapsed 0." Nothing else refills.
pub record Step4 (x : OneTick) (w : OnTheWay) : Type 0 where
  pub refilled : (i : ℕ) → i < (table x).nservers → elapsed_at (old x) i ≡ period_at (table x) i →
      (w.used i ≡ 0) × (w.elapsed i ≡ 0)
  pub kept : (i : ℕ) → i < (table x).nservers → (elapsed_at (old x) i ≡ period_at (table x) i → ⊥) →
      (w.used i ≡ used_at (old x) i) × (w.elapsed i ≡ elapsed_at (old x) i)

-- "In N a task belongs to its home, else to its degraded server."
abbrev pub Belongs : OneTick → ℕ → ℕ → Type 0
Belongs x k i =
    (x.says.mode ≡ N → (task_at (table x) k).home ≡ i) ×
    ((x.says.mode ≡ N → ⊥) → (task_at (table x) k).degraded ≡ i)

-- a job of task k waits for server i
pub record Waits (x : OneTick) (i k : ℕ) : Type 0 where
  pub there : k < (table x).ntasks
  pub waiting : 0 < waiting_at (new x) k
  pub belongs : Belongs x k i

-- 02, No. 7: "Until that tick the server has no budget and is not able; from it on, periods count
-- from it." A tick's number is that of the ticks taken before it.
abbrev pub Started : OneTick → ℕ → Type 0
Started x i = phase_at (table x) i ≤ (old x).ticks.0

-- "Able servers: used below capacity in the present mode, and timed, or with a waiting job."
pub record Able (x : OneTick) (w : OnTheWay) (i : ℕ) : Type 0 where
  pub there : i < (table x).nservers
  pub started : Started x i
  pub below : w.used i < capacity_at (table x) x.says.mode i
  pub cause : ((server_at (table x) i).kind ≡ Timed) ⊎ ((k : ℕ) × Waits x i k)

-- "The highest"
abbrev pub Highest : OneTick → OnTheWay → ℕ → Type 0
Highest x w i =
    Able x w i × ((j : ℕ) → Able x w j → priority_at (table x) j ≤ priority_at (table x) i)

-- "The highest is charged: used plus 1." No other is, and no two servers are.
pub record Step5 (x : OneTick) (w : OnTheWay) : Type 0 where
  pub charged : (i : ℕ) → Highest x w i → used_at (new x) i ≡ w.used i + 1
  pub others : (i : ℕ) → i < (table x).nservers → (Highest x w i → ⊥) → used_at (new x) i ≡ w.used i
  pub one : (i j : ℕ) → i < (table x).nservers → j < (table x).nservers →
      w.used i < used_at (new x) i → w.used j < used_at (new x) j → i ≡ j

-- "Its highest task with a waiting job"
abbrev pub HighestTask : OneTick → ℕ → ℕ → Type 0
HighestTask x i k =
    Waits x i k ×
    ((j : ℕ) → Waits x i j → task_priority_at (table x) j ≤ task_priority_at (table x) k)

-- "runs the front job: run count plus 1. The front job's count starts at 0." A task whose front job
-- left has another at the front, or none.
pub record Step6 (x : OneTick) (w : OnTheWay) : Type 0 where
  pub left : (k : ℕ) → k < (table x).ntasks → leaves x k ≡ 1 → w.runs k ≡ 0
  pub gone : (k : ℕ) → k < (table x).ntasks → Discarded x w k → w.runs k ≡ 0
  pub kept : (k : ℕ) → k < (table x).ntasks → leaves x k ≡ 0 → (Discarded x w k → ⊥) →
      w.runs k ≡ runs_at (old x) k
  pub runs : (k : ℕ) → k < (table x).ntasks → runs_at (new x) k ≡ w.runs k + ran x.says.turn k

-- "All elapsed counts and the tick number rise by 1." Until a server has started its elapsed count
-- stays.
pub record Step7 (x : OneTick) (w : OnTheWay) : Type 0 where
  pub elapsed : (i : ℕ) → i < (table x).nservers → Started x i → elapsed_at (new x) i ≡ w.elapsed i + 1
  pub stays : (i : ℕ) → i < (table x).nservers → (Started x i → ⊥) → elapsed_at (new x) i ≡ w.elapsed i
  pub ticks : (new x).ticks.0 ≡ (old x).ticks.0 + 1
  pub tick : x.says.tick ≡ (old x).ticks
  pub accepted : (new x).accepted ≡ (old x).accepted
  pub same : x.after.table ≡ table x

-- "Each taken tick says one of three things: `run` with server and task, `empty` with the timed
-- server charged, or `idle`." Each exactly in its case, and a job that was run is the last-run job
-- of the next tick.
pub record Says (x : OneTick) (w : OnTheWay) : Type 0 where
  pub run : (i k : ℕ) → (x.says.turn ≡ Ran i k) ↔ (Highest x w i × HighestTask x i k)
  pub empty : (i : ℕ) →
      (x.says.turn ≡ Empty i) ↔ (Highest x w i × ((k : ℕ) → Waits x i k → ⊥))
  pub timed : (i : ℕ) → x.says.turn ≡ Empty i → (server_at (table x) i).kind ≡ Timed
  pub idle : (x.says.turn ≡ Idle) ↔ ((i : ℕ) → Able x w i → ⊥)
  pub last : (k : ℕ) → ((new x).last ≡ Some k) ↔ ((i : ℕ) × (x.says.turn ≡ Ran i k))

pub record ByTheRules (x : OneTick) : Type 0 where
  pub way : OnTheWay
  pub step1 : Step1 x way
  pub step2 : Step2 x way
  pub step3 : Step3 x way
  pub step4 : Step4 x way
  pub step5 : Step5 x way
  pub step6 : Step6 x way
  pub step7 : Step7 x way
  pub says : Says x way

-- "Every tick goes as document 01's rules say"
abbrev pub EveryTick : Type 0
EveryTick = (x : OneTick) → IsTaken x → ByTheRules x

-- "A state is sound (else 13)": any events keep a sound run so, and nothing is then answered 13.
abbrev pub StaysSound : Type 0
StaysSound =
    (r : Run) (es : List Event) (e : Event) → RunSized r → sound r ≡ true →
    (sound (after r es) ≡ true) × (no_of (event_of (after r es) e).answer ≡ 13 → ⊥)

-- Every verdict is the least response that meets the stated inequality.

-- "the round-up of" a/t: the least q with q t at least a
abbrev pub RoundUp : Type 0
RoundUp = (a t q : ℕ) → 1 ≤ t → (up a t ≤ q) ↔ (a ≤ q * t)

-- "I adds, over servers of higher priority with period Tj and capacity Cj, the round-up of R/Tj
-- times Cj for timed ones and the round-up of (R + Tj - Cj)/Tj times Cj for event ones."
pub record Adds (t : Table) (i : ℕ) (m : Mode) (R : ℕ) (part : ℕ → ℕ) : Type 0 where
  pub sum : interference t m i R ≡ sum_below t.nservers part
  pub lower : (j : ℕ) → priority_at t j ≤ priority_at t i → part j ≡ 0
  pub timed : (j Tj Cj : ℕ) → priority_at t i < priority_at t j → (server_at t j).kind ≡ Timed →
      Tj ≡ period_at t j → Cj ≡ capacity_at t m j → part j ≡ up R Tj * Cj
  pub event : (j Tj Cj : ℕ) → priority_at t i < priority_at t j → (server_at t j).kind ≡ EventKind →
      Tj ≡ period_at t j → Cj ≡ capacity_at t m j → part j ≡ up (R + (Tj - Cj)) Tj * Cj

abbrev pub Interference : Type 0
Interference = (t : Table) (i : ℕ) (m : Mode) (R : ℕ) → (part : ℕ → ℕ) × Adds t i m R part

-- "C + I(R) <= R, all in one mode"
abbrev pub Meets : Table → ℕ → Mode → ℕ → Type 0
Meets t i m R = capacity_at t m i + interference t m i R ≤ R

-- "For capacity 0 the response is 0."
abbrev pub WithoutCapacity : Type 0
WithoutCapacity =
    (t : Table) (i : ℕ) (m : Mode) → table_keeps t ≡ true → i < t.nservers → capacity_at t m i ≡ 0 →
    verdict_of t i m ≡ Response (record { 0 = 0 })

-- "Else it is the least R from 1 to the period T with C + I(R) <= R"
abbrev pub LeastResponse : Type 0
LeastResponse =
    (t : Table) (i : ℕ) (m : Mode) (T R : ℕ) → table_keeps t ≡ true → i < t.nservers →
    1 ≤ capacity_at t m i → T ≡ period_at t i →
    (verdict_of t i m ≡ Response (record { 0 = R })) ↔
    ((1 ≤ R) × (R ≤ T) × Meets t i m R × ((x : ℕ) → 1 ≤ x → x < R → Meets t i m x → ⊥))

-- "If no such R exists, "misses"."
abbrev pub MissesExactly : Type 0
MissesExactly =
    (t : Table) (i : ℕ) (m : Mode) (T : ℕ) → table_keeps t ≡ true → i < t.nservers →
    1 ≤ capacity_at t m i → T ≡ period_at t i →
    (verdict_of t i m ≡ Misses) ↔ ((R : ℕ) → 1 ≤ R → R ≤ T → Meets t i m R → ⊥)

-- "From a fresh start, jobs released = finished + cut + discarded + waiting, counted from the
-- answers given."
abbrev pub JobsCounted : Type 0
JobsCounted =
    (t : Table) (es : List Event) (given : List Answer) → Sized t → table_keeps t ≡ true →
    given ≡ answers (fresh_run t) es →
    released_in given ≡
    finished_in given + cut_in given + discarded_in given +
    sum_below t.ntasks (waiting_at (after (fresh_run t) es).state)

-- and of a MI or HI task, of which nothing is discarded, by itself
abbrev pub JobsCountedOf : Type 0
JobsCountedOf =
    (t : Table) (es : List Event) (given : List Answer) (k : ℕ) → Sized t → table_keeps t ≡ true →
    given ≡ answers (fresh_run t) es → k < t.ntasks → ((task_at t k).level ≡ LO → ⊥) →
    released_of k given ≡
    finished_of k given + cut_of k given + waiting_at (after (fresh_run t) es).state k
