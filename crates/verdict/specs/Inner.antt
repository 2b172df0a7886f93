-- Only contracts of inner functions cite this file; a buyer need not read it. It says what the servers
-- that delay a row ask, each by its own numbers.
use Rattle.std.specs.Prelude.{◌≡◌, Bool, List, ℕ, ◌+◌, ◌*◌, ◌-◌, ◌≤◌, leb, sum_by, take}
use Rattle.laws.specs.RoundUp.{up}
use Rattle.table.specs.declared.Kind.{Kind}
use Rattle.table.specs.declared.Kind.TheVariants.{Event, Timed}
use Rattle.table.specs.declared.Mode.{Mode}
use Rattle.table.specs.declared.Table.{Table}
use Rattle.verdict.specs.declared.Higher.{Higher}
use Rattle.verdict.specs.declared.delayer.Delayer.{Delayer}
use Rattle.verdict.specs.Verdict.{interference}

-- "the deferrable server's late-then-early term T - C"
abbrev pub late_of : Kind → ℕ → ℕ → ℕ
late_of Timed period capacity = 0
late_of Event period capacity = period - capacity

-- the numbers of a server of this kind
pub record Delays (kind : Kind) (period capacity : ℕ) (d : Delayer) : Type 0 where
  pub period_is : d.period ≡ period
  pub capacity_is : d.capacity ≡ capacity
  pub late_is : d.late ≡ late_of kind period capacity

-- what it asks of r ticks
abbrev pub asked_by : Delayer → ℕ → ℕ
asked_by d r = up (r + d.late) d.period * d.capacity

-- what these servers ask of r ticks
abbrev pub interference_in : List Delayer → ℕ → ℕ
interference_in higher r = sum_by (λ d. asked_by d r) higher

-- "C + I(R) <= R", with this I and capacity c
unfoldable pub meets_in : List Delayer → ℕ → ℕ → Bool
meets_in higher c r = leb (c + interference_in higher r) r

-- they are few, and ask of any r what the servers above row i ask
pub record Delaying (t : Table) (m : Mode) (i : ℕ) (h : Higher) : Type 0 where
  pub few : h.count ≤ 32
  pub asks : (r : ℕ) → interference_in (take h.count h.delayers) r ≡ interference t m i r
