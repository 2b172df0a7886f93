-- The steps of a tick on a state that is lent. `Rattle.run.specs.Tick` says the steps; here a step
-- makes the state after it, marked by a prime, of the one before it: for every table whose rows stand
-- in the sheets.
use Rattle.std.specs.Prelude.{◌≡◌, Bool, true, List, ◌++◌, ℕ, ◌+◌, ◌≤◌, ◌<◌, ltb, get_or, replicate, if◌then◌else◌, None, Option, Some}
use Rattle.laws.specs.Rows.{sum_below, anew}
use Rattle.table.specs.declared.ByMode.{ByMode}
use Rattle.table.specs.declared.Level.{Level}
use Rattle.table.specs.declared.Mode.{Mode}
use Rattle.table.specs.declared.Table.{Table}
use Rattle.table.specs.declared.Task.{Task}
use Rattle.table.specs.Rows.{is_low}
use Rattle.table.specs.Rules.{table_keeps}
use Rattle.table.specs.Inner.{Sized}
use Rattle.run.specs.declared.Judged.{Judged}
use Rattle.run.specs.declared.State.{State}
use Rattle.events.specs.declared.Left.{Left}
use Rattle.events.specs.declared.Turn.{Turn}
use Rattle.events.specs.declared.Turn.TheVariants.{Run as Ran, Empty, Idle}
use Rattle.events.specs.Answers.{charged, ran}
use Rattle.run.specs.State.{passes, with_budgets}
use Rattle.run.specs.Tick.{judge, step1, step2, discards, step3, step4, settle, advance}
use Rattle.scheduler.specs.declared.settle.Settling.{Settling}
use Rattle.scheduler.specs.declared.sheets.Sheets.{Sheets}
use Rattle.scheduler.specs.Inner.Columns.{level_of, ServersOn, TasksOn}
use Rattle.units.specs.declared.Ticks.{Ticks}

-- What the sheets show of a table that keeps the rules.
pub record Shows (t : Table) (ss : Sheets) : Type 0 where
  pub keeps : table_keeps t ≡ true
  pub sized : Sized t
  pub servers : ServersOn t ss
  pub tasks : TasksOn t ss

abbrev pub SomeTable : Sheets → Type 0
SomeTable ss = (t : Table) × Shows t ss

-- rows in use stand in their arrays
pub record Few (ss : Sheets) : Type 0 where
  pub servers : ss.nservers ≤ 32
  pub tasks : ss.ntasks ≤ 64

-- Step 1. A job of a task with these limits and this level is judged.
abbrev pub Judges : ByMode Ticks → Level → ℕ → Mode → Judged → Type 0
Judges x l c m r = (k : Task) → k.limit ≡ x → k.level ≡ l → r ≡ judge 3 k c m

-- the last-run task, if any, is in use and has a waiting job
abbrev pub RanJob : Sheets → List ℕ → Option ℕ → Type 0
RanJob ss w None = Unit {0}
RanJob ss w (Some k) = (k < ss.ntasks) × (0 < get_or w k 0)

abbrev pub Marks : Sheets → Bool → State → State → Left → Type 0
Marks ss mark s s' left =
    (t : Table) → TasksOn t ss → step1 t s mark s.last ≡ record { state = s'; left = left }

-- Step 2. On entering D2: what is left of a count of task k, and what is gone, by its level.
abbrev pub kept_of : Sheets → ℕ → ℕ → ℕ
kept_of ss k x = if is_low (level_of ss k) then 0 else x

abbrev pub gone_of : Sheets → ℕ → ℕ → ℕ
gone_of ss k x = if is_low (level_of ss k) then x else 0

-- what is found, before anything is noted; where it is noted of n tasks only, a number of each stands
-- behind the servers' places
abbrev pub none_found : List ℕ
none_found = replicate 96 0

abbrev pub noted_of : ℕ → (ℕ → ℕ) → List ℕ
noted_of n gone = replicate 32 0 ++ anew n (λ k x. gone k) (replicate 64 0)

abbrev pub Discards : Sheets → Mode → State → State → List ℕ → ℕ → Type 0
Discards ss before s s' f' r =
    (t : Table) → TasksOn t ss →
    (step2 t before s ≡ s')
    × (sum_below t.ntasks (discards t before s) ≡ r)
    × (f' ≡ noted_of t.ntasks (discards t before s))

-- Step 3.
abbrev pub waits_at : List ℕ → ℕ → Bool
waits_at w k = ltb 0 (get_or w k 0)

abbrev pub SettlesMode : Sheets → State → State → Type 0
SettlesMode ss s s' = (t : Table) → TasksOn t ss → step3 t s ≡ s'

-- Step 4, of any state with these counts of servers.
abbrev pub Refills : Sheets → List ℕ → List ℕ → List ℕ → List ℕ → Type 0
Refills ss u e u' e' =
    (t : Table) (s : State) → ServersOn t ss → step4 t (with_budgets s u e) ≡ with_budgets s u' e'

-- Steps 1 to 4.
pub record SettledSo (t : Table) (mark : Bool) (s s' : State) (f' : List ℕ) (r : Settling) : Type 0 where
  pub state : (settle t s mark).state ≡ s'
  pub left : (settle t s mark).left ≡ r.left
  pub count : sum_below t.ntasks (settle t s mark).discarded ≡ r.discarded
  pub found : f' ≡ noted_of t.ntasks (settle t s mark).discarded

abbrev pub Settles : Sheets → Bool → State → State → List ℕ → Settling → Type 0
Settles ss mark s s' f' r = (t : Table) → ServersOn t ss → TasksOn t ss → SettledSo t mark s s' f' r

-- Steps 5 to 7. The rows of a turn are rows of the table, and their counts may rise by 1.
abbrev pub ServerIn : Table → Turn → Type 0
ServerIn t (Ran i k) = i < t.nservers
ServerIn t (Empty i) = i < t.nservers
ServerIn t Idle = Unit {0}

abbrev pub TaskIn : Table → Turn → Type 0
TaskIn t (Ran i k) = k < t.ntasks
TaskIn t (Empty i) = Unit {0}
TaskIn t Idle = Unit {0}

abbrev pub ChargeFits : Turn → List ℕ → Type 0
ChargeFits (Ran i k) u = (i < 32) × (get_or u i 0 ≤ 1000000)
ChargeFits (Empty i) u = (i < 32) × (get_or u i 0 ≤ 1000000)
ChargeFits Idle u = Unit {0}

abbrev pub RunFits : Turn → List ℕ → Type 0
RunFits (Ran i k) c = (k < 64) × (get_or c k 0 ≤ 1000000)
RunFits (Empty i) c = Unit {0}
RunFits Idle c = Unit {0}

abbrev pub Low : ℕ → List ℕ → Type 0
Low n e = (i : ℕ) → i < n → get_or e i 0 ≤ 1000000

-- the used counts of step 5, the run counts of step 6, and the elapsed counts of step 7 at the tick
-- after so many
abbrev pub Charges : Turn → List ℕ → List ℕ → Type 0
Charges turn u u' = (t : Table) → ServerIn t turn → anew t.nservers (λ i x. x + charged turn i) u ≡ u'

abbrev pub RunsFront : Turn → List ℕ → List ℕ → Type 0
RunsFront turn c c' = (t : Table) → TaskIn t turn → anew t.ntasks (λ k x. x + ran turn k) c ≡ c'

abbrev pub Ages : Sheets → ℕ → List ℕ → List ℕ → Type 0
Ages ss ticks e e' =
    (t : Table) (s : State) → ServersOn t ss → s.ticks.0 ≡ ticks →
    anew t.nservers (λ i x. x + passes t s i) e ≡ e'

pub record CountsFit (ss : Sheets) (turn : Turn) (s : State) : Type 0 where
  pub servers : ss.nservers ≤ 32
  pub charge : ChargeFits turn s.used
  pub run : RunFits turn s.runs
  pub elapsed : Low ss.nservers s.elapsed
  pub ticks : s.ticks.0 < 4000000000

abbrev pub Advances : Sheets → Turn → State → State → Type 0
Advances ss turn s s' =
    (t : Table) → ServersOn t ss → ServerIn t turn → TaskIn t turn → advance t s turn ≡ s'
