-- 01, Verdicts.
use Rattle.std.specs.Prelude.{Bool, ℕ, ◌+◌, ◌*◌, ◌-◌, leb, ltb, eqb, if◌then◌else◌, None, Option, Some}
use Rattle.laws.specs.Choice.{unless◌say◌else◌}
use Rattle.laws.specs.Search.{least}
use Rattle.laws.specs.Rows.{sum_below}
use Rattle.laws.specs.RoundUp.{up}
use Rattle.table.specs.declared.Kind.{Kind}
use Rattle.table.specs.declared.Kind.TheVariants.{Event, Timed}
use Rattle.table.specs.declared.Mode.{Mode}
use Rattle.table.specs.declared.Table.{Table}
use Rattle.table.specs.declared.Refusal.TheVariants.{NoServer, Unsound}
use Rattle.table.specs.Rows.{server_at, priority_at, period_at, capacity_at}
use Rattle.table.specs.Rules.{table_keeps}
use Rattle.verdict.specs.declared.Verdict.{Verdict}
use Rattle.verdict.specs.declared.Verdict.TheVariants.{Response, Misses, No}

-- "the round-up of R/Tj times Cj for timed ones and the round-up of (R + Tj - Cj)/Tj times Cj for
-- event ones"
abbrev pub demand : Kind → ℕ → ℕ → ℕ → ℕ
demand Timed period capacity r = up r period * capacity
demand Event period capacity r = up (r + (period - capacity)) period * capacity

-- what the server in row j asks of r ticks
abbrev pub demand_at : Table → Mode → ℕ → ℕ → ℕ
demand_at t m r j = demand (server_at t j).kind (period_at t j) (capacity_at t m j) r

-- "I adds, over servers of higher priority": priorities are greater first
unfoldable pub interference : Table → Mode → ℕ → ℕ → ℕ
interference t m i r =
    sum_below t.nservers (λ j. if ltb (priority_at t i) (priority_at t j) then demand_at t m r j else 0)

-- "C + I(R) <= R"
unfoldable pub meets : Table → Mode → ℕ → ℕ → Bool
meets t m i r = leb (capacity_at t m i + interference t m i r) r

-- "For capacity 0 the response is 0. Else it is the least R from 1 to the period T with C + I(R) <=
-- R, all in one mode"
unfoldable pub response_at : Table → Mode → ℕ → Option ℕ
response_at t m i = if eqb (capacity_at t m i) 0 then Some 0 else least (meets t m i) 1 (period_at t i)

-- "If no such R exists, "misses"."
abbrev pub told : Option ℕ → Verdict
told (Some r) = Response (record { 0 = r })
told None = Misses

-- The verdict for a server row in a mode; "13 first", then 11.
unfoldable pub verdict_of : Table → ℕ → Mode → Verdict
verdict_of t i m =
    unless table_keeps t say No Unsound
    else unless ltb i t.nservers say No NoServer
    else told (response_at t m i)
