-- Only contracts of inner functions cite this file; a buyer need not read it. The numbers of some
-- taken ticks as they are counted one tick after the other.
use Rattle.std.specs.Prelude.{◌≡◌, Bool, List, [], ◌∷◌, ℕ, suc, ◌+◌, ◌<◌, ltb, if◌then◌else◌}
use Rattle.laws.specs.Rows.{sum_below}
use Rattle.table.specs.declared.Table.{Table}
use Rattle.events.specs.declared.Turn.{Turn}
use Rattle.events.specs.declared.Turn.TheVariants.{Run as Ran, Empty, Idle}
use Rattle.events.specs.declared.Left.{Left}
use Rattle.events.specs.declared.Left.TheVariants.{Nobody, Done, Cut}
use Rattle.run.specs.State.{waits}
use Rattle.run.specs.Found.{TakenTick, top_priority}

-- one tick after the other
unfoldable pub over_ticks : (TakenTick → ℕ) → List TakenTick → ℕ
over_ticks f [] = 0
over_ticks f (m ∷ ms) = f m + over_ticks f ms

-- how many of the last ticks in a row are such, where c before these were
unfoldable pub row_to : (TakenTick → Bool) → ℕ → List TakenTick → ℕ
row_to such c [] = c
row_to such c (m ∷ ms) = row_to such (if such m then suc c else 0) ms

-- What is true of each tick that a sound run takes: its rows are rows of the table's arrays, the
-- number found of a server tells whether it has a waiting job, and the answer tells the discards
-- added up.
abbrev pub ServerBelow : ℕ → Turn → Type 0
ServerBelow n (Ran i k) = i < n
ServerBelow n (Empty i) = i < n
ServerBelow n Idle = Unit {0}

abbrev pub TaskBelow : ℕ → Left → Type 0
TaskBelow n Nobody = Unit {0}
TaskBelow n (Done k) = k < n
TaskBelow n (Cut k) = k < n

pub record TickFits (t : Table) (m : TakenTick) : Type 0 where
  pub server : ServerBelow t.nservers m.answer.turn
  pub task : TaskBelow t.ntasks m.answer.left
  pub waits : (i : ℕ) → i < t.nservers → ltb 0 (top_priority t m.found i) ≡ waits t m.found i
  pub counted : m.answer.discarded ≡ sum_below t.ntasks m.discarded

abbrev pub AllFit : Table → List TakenTick → Type 0
AllFit t [] = Unit {0}
AllFit t (m ∷ ms) = TickFits t m × AllFit t ms
