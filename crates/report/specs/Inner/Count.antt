-- Only contracts of inner functions cite this file; a buyer need not read it. How the numbers of some
-- taken ticks stand in the columns of Counts, and what the functions that count are handed, and what
-- they leave.
use Rattle.std.specs.Prelude.{◌≡◌, not, List, [], ◌∷◌, ◌++◌, ℕ, ◌+◌, ◌*◌, ◌≤◌, ◌<◌, eqb, length, get_or, set, take, replicate, if◌then◌else◌}
use Rattle.laws.specs.Choice.{larger, one_if}
use Rattle.table.specs.declared.Mode.{Mode}
use Rattle.table.specs.declared.Table.{Table}
use Rattle.table.specs.Rows.{mode_value}
use Rattle.events.specs.declared.Told.TheVariants.{Ticked}
use Rattle.events.specs.Answers.{charged, finished_by, cut_by}
use Rattle.events.specs.Values.{told_values}
use Rattle.run.specs.Found.{TakenTick, found_values, all_found, all_told}
use Rattle.morning.specs.Numbers.{empty_turn, passed_over, longest_wait, in_this_mode}
use Rattle.morning.specs.Inner.{over_ticks, row_to, TickFits, AllFit}
use Rattle.report.specs.declared.count.Counts.{Counts}

-- nothing is counted
abbrev pub no_counts : Counts
no_counts =
    record {
      charged = replicate 32 0;
      empty = replicate 32 0;
      row = replicate 32 0;
      longest = replicate 32 0;
      finished = replicate 64 0;
      cut = replicate 64 0;
      discarded = replicate 64 0;
      modes = replicate 3 0;
    }

-- a column for each row that a table may have
pub record Columns (c : Counts) : Type 0 where
  pub charged : length c.charged ≡ 32
  pub empty : length c.empty ≡ 32
  pub row : length c.row ≡ 32
  pub longest : length c.longest ≡ 32
  pub finished : length c.finished ≡ 64
  pub cut : length c.cut ≡ 64
  pub discarded : length c.discarded ≡ 64
  pub modes : length c.modes ≡ 3

-- They hold the numbers of these ticks, of the rows in use. What is found discarded is a byte at each
-- tick, so these numbers stay small.
pub record Counted (t : Table) (ms : List TakenTick) (c : Counts) : Type 0 where
  pub columns : Columns c
  pub charged : (i : ℕ) → i < t.nservers → get_or c.charged i 0 ≡ over_ticks (λ m. charged m.answer.turn i) ms
  pub empty : (i : ℕ) → i < t.nservers → get_or c.empty i 0 ≡ over_ticks (λ m. empty_turn m.answer.turn i) ms
  pub row : (i : ℕ) → i < t.nservers → get_or c.row i 0 ≡ row_to (passed_over t i) 0 ms
  pub longest : (i : ℕ) → i < t.nservers → get_or c.longest i 0 ≡ longest_wait t i ms
  pub finished : (k : ℕ) → k < t.ntasks → get_or c.finished k 0 ≡ over_ticks (λ m. finished_by m.answer.left k) ms
  pub cut : (k : ℕ) → k < t.ntasks → get_or c.cut k 0 ≡ over_ticks (λ m. cut_by m.answer.left k) ms
  pub discarded : (k : ℕ) → k < t.ntasks → get_or c.discarded k 0 ≡ over_ticks (λ m. m.discarded k) ms
  pub small : (k : ℕ) → k < t.ntasks → get_or c.discarded k 0 ≤ 255 * length ms
  pub modes : (m : Mode) → get_or c.modes (mode_value m) 0 ≡ over_ticks (λ x. in_this_mode m x.answer.mode) ms

-- the column with n added at row i
abbrev pub added : List ℕ → ℕ → ℕ → List ℕ
added xs i n = set xs i (get_or xs i 0 + n)

-- What is told of the turn and of a job that left, counted: for a server its charge and its empty
-- turn, for a task the job finished or cut.
abbrev pub turn_counted : ℕ → ℕ → Counts → Counts
turn_counted what server c =
    record c {
      charged = added c.charged server (one_if (not (eqb what 0)));
      empty = added c.empty server (one_if (eqb what 1));
    }

abbrev pub left_counted : ℕ → ℕ → Counts → Counts
left_counted how task c =
    record c {
      finished = added c.finished task (one_if (eqb how 1));
      cut = added c.cut task (one_if (eqb how 2));
    }

-- what is found of the servers that were not charged
abbrev pub uncharged : ℕ → ℕ → List ℕ → List ℕ
uncharged what server found = set found server (if not (eqb what 0) then 0 else get_or found server 0)

-- the row of a server that is not charged, one tick on
abbrev pub row_after : ℕ → ℕ → ℕ
row_after waits row = if eqb waits 0 then 0 else row + 1

-- From c to d the rows of the first n servers are one tick on, and nothing else was counted.
pub record RowsCounted (n : ℕ) (found : List ℕ) (c d : Counts) : Type 0 where
  pub only : d ≡ record c { row = d.row; longest = d.longest }
  pub long : (length d.row ≡ length c.row) × (length d.longest ≡ length c.longest)
  pub row : (i : ℕ) → i < n → get_or d.row i 0 ≡ row_after (get_or found i 0) (get_or c.row i 0)
  pub longest : (i : ℕ) → i < n → get_or d.longest i 0 ≡ larger (get_or c.longest i 0) (get_or d.row i 0)

-- From c to d what step 2 discarded of the first n tasks was counted, and nothing else.
pub record DiscardsCounted (n : ℕ) (found : List ℕ) (c d : Counts) : Type 0 where
  pub only : d ≡ record c { discarded = d.discarded }
  pub long : length d.discarded ≡ length c.discarded
  pub discarded : (k : ℕ) → k < n → get_or d.discarded k 0 ≡ get_or c.discarded k 0 + get_or found (32 + k) 0

-- What was told and found at tick m stands in two arrays; the columns hold the numbers of the ticks ms
-- that were taken before it.
pub record TickHanded (t : Table) (ms : List TakenTick) (m : TakenTick) (nservers ntasks : ℕ)
    (told found : List ℕ) (c : Counts) : Type 0 where
  pub rows : (nservers ≡ t.nservers) × (ntasks ≡ t.ntasks)
  pub few : (nservers ≤ 32) × (ntasks ≤ 64)
  pub tells : told ≡ told_values (Ticked m.answer)
  pub finds : found ≡ found_values t m
  pub fits : TickFits t m
  pub counted : Counted t ms c
  pub within : length ms < 4000000000

abbrev pub SomeTick : ℕ → ℕ → List ℕ → List ℕ → Counts → Type 0
SomeTick nservers ntasks told found c =
    (t : Table) × (ms : List TakenTick) × (m : TakenTick) × TickHanded t ms m nservers ntasks told found c

-- then they hold its numbers too
abbrev pub CountedTick : ℕ → ℕ → List ℕ → List ℕ → Counts → Counts → Type 0
CountedTick nservers ntasks told found c d =
    (t : Table) (ms : List TakenTick) (m : TakenTick) → TickHanded t ms m nservers ntasks told found c →
    Counted t (ms ++ (m ∷ [])) d

-- What was told and found at the ticks new, one after the other, stands in two arrays; the columns hold
-- the numbers of the ticks ms that were taken before them.
pub record TicksHanded (t : Table) (ms new : List TakenTick) (nservers ntasks n : ℕ)
    (told found : List ℕ) (c : Counts) : Type 0 where
  pub rows : (nservers ≡ t.nservers) × (ntasks ≡ t.ntasks)
  pub few : (nservers ≤ 32) × (ntasks ≤ 64)
  pub many : n ≡ length new
  pub tells : take (9 * n) told ≡ all_told new
  pub told_long : 9 * n ≤ length told
  pub finds : take (96 * n) found ≡ all_found t new
  pub found_long : 96 * n ≤ length found
  pub fits : AllFit t new
  pub counted : Counted t ms c
  pub within : length ms + length new ≤ 4000000000

abbrev pub SomeTicks : ℕ → ℕ → ℕ → List ℕ → List ℕ → Counts → Type 0
SomeTicks nservers ntasks n told found c =
    (t : Table) × (ms : List TakenTick) × (new : List TakenTick) × TicksHanded t ms new nservers ntasks n told found c

-- then they hold the numbers of all of them
abbrev pub CountedAfter : ℕ → ℕ → ℕ → List ℕ → List ℕ → Counts → Counts → Type 0
CountedAfter nservers ntasks n told found c d =
    (t : Table) (ms new : List TakenTick) → TicksHanded t ms new nservers ntasks n told found c →
    Counted t (ms ++ new) d
