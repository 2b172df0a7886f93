-- Request No. 4 of document 02. "The panel must not raise the alarm mode. A LO display task that ran
-- over its limit sent the whole box to D1 last week, and a fault in one task brings the mode up and
-- straight down again. .. So step 1 becomes: at its limit a job raises the mode only if its level
-- lies above the present one, N counting as LO and D1 as MI; otherwise it is cut." Condition2.antt
-- has the rule; here is what it comes to, of every tick that is taken and of a run with any events.
-- proofs/AlarmMode.antt proves it.
use Rattle.std.specs.Prelude.{◌≡◌, true, false, List, [], ◌∷◌, ◌⊎◌, ℕ, ◌≤◌, ◌<◌, Some}
use Rattle.table.specs.declared.Level.TheVariants.{LO, MI, HI}
use Rattle.table.specs.declared.Mode.{Mode}
use Rattle.table.specs.declared.Mode.TheVariants.{N, D1, D2}
use Rattle.table.specs.declared.Table.{Table}
use Rattle.table.specs.Inner.{Sized}
use Rattle.table.specs.Rows.{task_at, limit_at}
use Rattle.run.specs.declared.Run.{Run}
use Rattle.events.specs.declared.Event.{Event}
use Rattle.events.specs.declared.Event.TheVariants.{Release, Tick}
use Rattle.events.specs.declared.Left.{Left}
use Rattle.events.specs.declared.Left.TheVariants.{Done, Cut}
use Rattle.events.specs.declared.Answer.{Answer}
use Rattle.events.specs.declared.Answer.TheVariants.{Released, Ticked, No}
use Rattle.run.specs.State.{waiting_at, runs_at}
use Rattle.run.specs.Release.{fresh_run}
use Rattle.run.specs.Tick.{height, counts_as}
use Rattle.run.specs.Events.{after, answers}
use Rattle.promises.specs.Condition2.{OneTick, IsTaken, table, old, new, LiesAbove}

-- how high a mode lies: N as LO, D1 as MI, D2 as HI
abbrev pub mode_height : Mode → ℕ
mode_height m = height (counts_as m)

-- The job of task k is at its limit: it ran in the last taken tick and is not ended by mark.
pub record AtLimit (x : OneTick) (k : ℕ) : Type 0 where
  pub ran : (old x).last ≡ Some k
  pub mark : x.mark ≡ false
  pub limit : runs_at (old x) k ≡ limit_at (table x) (old x).mode k

-- "no job waiting: mode N", by step 3. What waits after the tick waited at step 5: steps 5 to 7
-- change no queue.
pub record BackToN (x : OneTick) : Type 0 where
  pub mode : x.says.mode ≡ N
  pub none : (k : ℕ) → k < (table x).ntasks → waiting_at (new x) k ≡ 0

-- the mode stays as it was, unless step 3 brings N
abbrev pub Stays : OneTick → Type 0
Stays x = (x.says.mode ≡ (old x).mode) ⊎ BackToN x

-- "at its limit a job raises the mode .. if its level lies above the present one": the tick is in a
-- higher mode, unless step 3 brings N.
abbrev pub AboveRaises : Type 0
AboveRaises =
    (x : OneTick) (k : ℕ) → IsTaken x → AtLimit x k → LiesAbove (table x) k (old x).mode →
    (mode_height (old x).mode < mode_height x.says.mode) ⊎ BackToN x

-- "only if": where the mode rises, a job is at its limit, and the mode rises no higher than that
-- job's own level.
abbrev pub RisesNoHigher : Type 0
RisesNoHigher =
    (x : OneTick) → IsTaken x → mode_height (old x).mode < mode_height x.says.mode →
    (k : ℕ) × AtLimit x k × (mode_height x.says.mode ≤ height (task_at (table x) k).level)

-- In N only MI and HI jobs raise the mode,
abbrev pub RaisedFromN : Type 0
RaisedFromN =
    (x : OneTick) → IsTaken x → (old x).mode ≡ N → (x.says.mode ≡ N → ⊥) →
    (k : ℕ) × AtLimit x k × (((task_at (table x) k).level ≡ MI) ⊎ ((task_at (table x) k).level ≡ HI))

-- and in D1 only HI jobs.
abbrev pub RaisedFromD1 : Type 0
RaisedFromD1 =
    (x : OneTick) → IsTaken x → (old x).mode ≡ D1 → x.says.mode ≡ D2 →
    (k : ℕ) × AtLimit x k × ((task_at (table x) k).level ≡ HI)

-- The mode falls only to N, and only when no job waits.
abbrev pub FallsToN : Type 0
FallsToN =
    (x : OneTick) → IsTaken x → mode_height x.says.mode < mode_height (old x).mode → BackToN x

-- A LO job never changes the mode.
abbrev pub LowChangesNothing : Type 0
LowChangesNothing =
    (x : OneTick) (k : ℕ) → IsTaken x → (old x).last ≡ Some k → (task_at (table x) k).level ≡ LO → Stays x

-- "otherwise it is cut", and the mode stays
abbrev pub ElseCut : Type 0
ElseCut =
    (x : OneTick) (k : ℕ) → IsTaken x → AtLimit x k → (LiesAbove (table x) k (old x).mode → ⊥) →
    (x.says.left ≡ Cut k) × Stays x

-- "A LO job in N and a MI job in D1 are now cut."
abbrev pub NowCut : Type 0
NowCut =
    (x : OneTick) (k : ℕ) → IsTaken x → AtLimit x k →
    (((old x).mode ≡ N) × ((task_at (table x) k).level ≡ LO)) ⊎
    (((old x).mode ≡ D1) × ((task_at (table x) k).level ≡ MI)) →
    x.says.left ≡ Cut k

-- every release of these events, taken or refused, is of a task that is so
abbrev pub ReleasesOf : (ℕ → Type 0) → List Event → Type 0
ReleasesOf so [] = Unit {0}
ReleasesOf so (Release k ∷ es) = so k × ReleasesOf so es
ReleasesOf so (Tick mark ∷ es) = ReleasesOf so es

-- "The panel must not raise the alarm mode." From a fresh start, whatever is released and however
-- long it runs, the mode is never higher than the highest level of the tasks released: with LO tasks
-- alone it stays N. The mode of a tick is that of the state after it.
abbrev pub NoHigherThanReleased : Type 0
NoHigherThanReleased =
    (t : Table) (es : List Event) (most : ℕ) → Sized t →
    ReleasesOf (λ k. height (task_at t k).level ≤ most) es →
    mode_height (after (fresh_run t) es).state.mode ≤ most

abbrev pub PanelAloneStaysInN : Type 0
PanelAloneStaysInN =
    (t : Table) (es : List Event) → Sized t → ReleasesOf (λ k. (task_at t k).level ≡ LO) es →
    (after (fresh_run t) es).state.mode ≡ N

-- an answer that is the same but for how the job left, if it tells of a tick
abbrev pub left_as : Left → Answer → Answer
left_as l (Released k) = Released k
left_as l (Ticked a) =
    Ticked (record { tick = a.tick; mode = a.mode; turn = a.turn; left = l; discarded = a.discarded })
left_as l (No why) = No why

-- A fault of a job whose level does not lie above the mode costs one cut and nothing else. With mark
-- 0 the tick is answered by a, and any events after it by `rest`. Had the job been ended by mark
-- instead, the tick would be answered by the same, but for how the job left; the events after it by
-- the same; and the run after all of them would be the same.
pub record OneCut (r : Run) (k : ℕ) (es : List Event) (a : Answer) (rest : List Answer) : Type 0 where
  pub cut : a ≡ left_as (Cut k) a
  pub instead : answers r (Tick true ∷ es) ≡ left_as (Done k) a ∷ rest
  pub run : after r (Tick true ∷ es) ≡ after r (Tick false ∷ es)

abbrev pub CostsOneCut : Type 0
CostsOneCut =
    (r : Run) (k : ℕ) (es : List Event) (a : Answer) (rest : List Answer) →
    r.state.last ≡ Some k → runs_at r.state k ≡ limit_at r.table r.state.mode k →
    (LiesAbove r.table k r.state.mode → ⊥) →
    answers r (Tick false ∷ es) ≡ a ∷ rest → OneCut r k es a rest

-- A LO fault in N is one.
abbrev pub LowFaultInN : Type 0
LowFaultInN =
    (r : Run) (k : ℕ) (es : List Event) (a : Answer) (rest : List Answer) →
    r.state.last ≡ Some k → r.state.mode ≡ N → (task_at r.table k).level ≡ LO →
    runs_at r.state k ≡ limit_at r.table N k →
    answers r (Tick false ∷ es) ≡ a ∷ rest → OneCut r k es a rest
