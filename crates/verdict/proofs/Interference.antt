-- The interference of a row: a sum over the rows, to which each of higher priority adds its part.
-- Assumes nothing.
use Rattle.std.specs.Prelude.{if◌then◌else◌}
use mathlib.Core.Path.{◌≡◌, refl, sym, ap₂, ◌∙◌}
use mathlib.Core.Logic.{◌⊎◌, inl, inr}
use Prim.Native.Nat.{ℕ, ◌+◌, ◌*◌, ◌-◌, ◌≤◌, ◌<◌}
use native.Mathlib.Omega.{arith}
use lib.Dec.{ltb}
use borrow.Author.Tests.{lt-ltb, le-ltb}
use Rattle.laws.specs.RoundUp.{up}
use Rattle.laws.proofs.Choice.{le_or_lt}
use Rattle.laws.specs.Rows.{sum_below}
use Rattle.laws.proofs.Rows.{sum_cong}
use Rattle.table.specs.declared.Kind.TheVariants.{Event, Timed}
use Rattle.table.specs.declared.Mode.{Mode}
use Rattle.table.specs.declared.Server.{Server}
use Rattle.table.specs.declared.Table.{Table}
use Rattle.table.specs.Rows.{in_mode, server_at, priority_at, period_at, capacity_at}
use Rattle.verdict.specs.Verdict.{demand, interference}

-- what a server asks of r ticks of a row of this priority
abbrev pub asked_by : Server → ℕ → Mode → ℕ → ℕ
asked_by s p m r = if ltb p s.priority then demand s.kind s.period.0 (in_mode s.capacity m).0 r else 0

-- what row j asks of r ticks of row i
abbrev pub part_at : Table → Mode → ℕ → ℕ → ℕ → ℕ
part_at t m i r j = asked_by (server_at t j) (priority_at t i) m r

-- I as 01 writes it: a sum over the rows in use, to which each adds its part
module _ (t : Table) (m : Mode) (i r : ℕ) where
  pub interference_is : interference t m i r ≡ sum_below t.nservers (part_at t m i r)
  unfolding interference
  interference_is = refl

  -- "the round-up of R/Tj times Cj for timed ones"
  pub part_timed : (j : ℕ) → priority_at t i < priority_at t j → (server_at t j).kind ≡ Timed →
      part_at t m i r j ≡ up r (period_at t j) * capacity_at t m j
  part_timed j h e = rw (lt-ltb (priority_at t i) (priority_at t j) h, e)

  -- "the round-up of (R + Tj - Cj)/Tj times Cj for event ones"
  pub part_event : (j : ℕ) → priority_at t i < priority_at t j → (server_at t j).kind ≡ Event →
      part_at t m i r j ≡ up (r + (period_at t j - capacity_at t m j)) (period_at t j) * capacity_at t m j
  part_event j h e = rw (lt-ltb (priority_at t i) (priority_at t j) h, e)

  -- a row that is not higher adds nothing
  pub part_lower : (j : ℕ) → priority_at t j ≤ priority_at t i → part_at t m i r j ≡ 0
  part_lower j h = rw (le-ltb (priority_at t i) (priority_at t j) h)

-- so of two tables whose priorities are the same, and whose rows above row i are the same, row i
-- suffers the same
pub interference_above : (t u : Table) (m : Mode) (i r : ℕ) → t.nservers ≡ u.nservers →
    priority_at t i ≡ priority_at u i →
    ((j : ℕ) → j < t.nservers → priority_at t j ≡ priority_at u j) →
    ((j : ℕ) → j < t.nservers → priority_at t i < priority_at t j → server_at t j ≡ server_at u j) →
    interference t m i r ≡ interference u m i r
unfolding interference
interference_above t u m i r n p ps rows =
    rw (← n) (sum_cong (part_at t m i r) (part_at u m i r) t.nservers
    (λ j h. same j h (le_or_lt (priority_at t j) (priority_at t i))))
  where
    same : (j : ℕ) → j < t.nservers → (priority_at t j ≤ priority_at t i) ⊎ (priority_at t i < priority_at t j) →
        part_at t m i r j ≡ part_at u m i r j
    same j h (inl l) = part_lower t m i r j l ∙ sym (part_lower u m i r j (omega (arith, ps j h)))
    same j h (inr l) = ap₂ (λ (s : Server) (q : ℕ). asked_by s q m r) (rows j h l) p
