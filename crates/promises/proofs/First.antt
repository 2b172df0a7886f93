-- Towards the first bound: every server keeps its account in the course of the taken ticks, so
-- crate bounds counts its charges in any of them in a row; and the periods that they touch hold
-- them. Assumes nothing.
use mathlib.Core.Path.{◌≡◌, sym, ap, ◌∙◌}
use mathlib.Core.List.{List}
use mathlib.Core.Logic.{◌⊎◌, inl, inr}
use Prim.Native.Nat.{ℕ, ◌+◌, ◌*◌, ◌-◌, ◌≤◌, ◌<◌}
use native.Mathlib.Omega.{arith}
use lib.ListN.{length}
use Rattle.laws.specs.RoundUp.{up}
use Rattle.laws.proofs.Choice.{le_or_lt}
use Rattle.bounds.proofs.Windows.{window, window_zero}
use Rattle.bounds.proofs.Ledger.{charges_most}
use Rattle.table.specs.declared.Table.{Table}
use Rattle.table.specs.Rows.{period_at}
use Rattle.run.specs.declared.State.{State}
use Rattle.run.specs.State.{elapsed_at}
use Rattle.events.specs.Answers.{charged}
use Rattle.run.proofs.Tick.{charged_able, able_room, force_low}
use Rattle.events.proofs.Answers.{charged_is}
use Rattle.run.specs.Found.{TakenTick}
use Rattle.promises.specs.Bounds.{in_row, charges, largest_capacity, beginning, touched}
use Rattle.promises.proofs.Accepted.{Accepted, there}
use Rattle.promises.proofs.Ticks.{tick_at, course, Follows, account}
use Rattle.promises.proofs.Lists.{charges_window, largest_in_row, elapsed_first_lem}

-- Any W ticks in a row, and B the largest capacity in any stretch that holds them.
module _ (t : Table) (s : State) (ms : List TakenTick) (f : Follows t s ms) (a : Accepted t)
    (low : (j : ℕ) → j < t.nservers → elapsed_at s j ≤ period_at t j) where
  -- a row that is not there is never charged
  never : (i x : ℕ) → x < length ms → there t ≤ i → charged (tick_at ms x).answer.turn i ≡ 0
  never i x h l =
      elim (charged_is (tick_at ms x).answer.turn i) [
        | inl c ↦ c
        | inr c ↦
            (let z = (tick_at ms x).found in
            let d = charged_able t z i (ap (λ turn. charged turn i) (sym (f.told x h).turn) ∙ c) in
            let r = able_room t z i d.1 in
            absurd (omega (arith, a.some i z.mode d.0 (omega (arith, force_low t z i)))))
      ]

  pub charged_most : (i from width k W : ℕ) → 1 ≤ W → from ≤ k → k + W ≤ from + width → k + W ≤ length ms →
      charges i (in_row ms k W) ≤ largest_capacity t i (in_row ms from width) * (up (W - 1) (period_at t i) + 1)
  charged_most i from width k W p h l m = rw (charges_window t i ms k W m) (go (le_or_lt (there t) i))
    where
      go : (there t ≤ i) ⊎ (i < there t) →
          window (course t ms i).charge k W ≤ largest_capacity t i (in_row ms from width) * (up (W - 1) (period_at t i) + 1)
      go (inl n) = omega (arith, window_zero (course t ms i).charge k W (λ x q. never i (k + x) (omega arith) n))
      go (inr n) =
          charges_most
          (period_at t i)
          (largest_capacity t i (in_row ms from width))
          (length ms)
          (course t ms i)
          (account t s ms f i (omega (arith, a.used)) (a.server i n).period_low (low i (omega (arith, a.used))))
          k
          W
          p
          m
          (λ x q. largest_in_row t i ms from width (k + x) (omega arith) (omega arith) (omega arith))

  -- the periods touched hold the ticks that touch them
  pub charged_touched : (i k W : ℕ) → i < t.nservers → 1 ≤ W → k + W ≤ length ms →
      charges i (in_row ms k W) ≤ largest_capacity t i (touched t ms i k W) * (up (W - 1) (period_at t i) + 1)
  charged_touched i k W l p h = go (le_or_lt (there t) i)
    where
      from : ℕ
      from = beginning ms i k

      width : ℕ
      width = beginning ms i (k + (W - 1)) + period_at t i - from

      go : (there t ≤ i) ⊎ (i < there t) →
          charges i (in_row ms k W) ≤ largest_capacity t i (in_row ms from width) * (up (W - 1) (period_at t i) + 1)
      go (inl n) =
          rw
          (charges_window t i ms k W h)
          (omega (arith, window_zero (course t ms i).charge k W (λ x q. never i (k + x) (omega arith) n)))
      go (inr n) =
          let c = account t s ms f i l (a.server i n).period_low (low i l) in
          let o = c.inside (k + (W - 1)) (omega arith) in
          let q = elapsed_first_lem i ms (k + (W - 1)) (omega arith) in
          charged_most i from width k W (omega arith) (omega arith) (omega arith) h
