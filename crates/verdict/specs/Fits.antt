-- 02, No. 5: "Does this table fit, yes or no. The commissioning crew asks only whether any server
-- misses in any of the three modes. .. The answer must equal the one read from all verdicts written
-- out."
use Rattle.std.specs.Prelude.{Bool, true, false, List, [], ◌∷◌, ℕ, length, get_or, Option}
use Rattle.laws.specs.Choice.{unless◌say◌else◌}
use Rattle.laws.specs.Rows.{listed}
use Rattle.laws.specs.Search.{least, first_of}
use Rattle.table.specs.declared.Mode.{Mode}
use Rattle.table.specs.declared.Mode.TheVariants.{N, D1, D2}
use Rattle.table.specs.declared.Table.{Table}
use Rattle.table.specs.declared.Refusal.{Refusal}
use Rattle.table.specs.declared.Refusal.TheVariants.{NoServer, Unsound}
use Rattle.table.specs.Refusals.{number_of}
use Rattle.table.specs.Rows.{mode_value, mode_said}
use Rattle.table.specs.Rules.{table_keeps}
use Rattle.verdict.specs.declared.Verdict.{Verdict}
use Rattle.verdict.specs.declared.Verdict.TheVariants.{Response, Misses, No}
use Rattle.table.specs.declared.ByMode.{ByMode}
use Rattle.verdict.specs.declared.Fits.{Fits}
use Rattle.verdict.specs.declared.Fits.TheVariants.{Yes, Miss, No as NoFits}
use Rattle.verdict.specs.Verdict.{verdict_of}

-- the verdicts of a row, in the three modes
abbrev pub row_verdicts : Table → ℕ → ByMode Verdict
row_verdicts t i =
    record { n = verdict_of t i N; d1 = verdict_of t i D1; d2 = verdict_of t i D2 }

-- "all verdicts written out": of each row that a table may hold. A row that this one lacks has 11,
-- and every row of a table that breaks the rules has 13.
unfoldable pub verdicts_of : Table → List (ByMode Verdict)
verdicts_of t = listed 32 (row_verdicts t)

-- the one of a mode
abbrev pub verdict_in : ByMode Verdict → Mode → Verdict
verdict_in v N = v.n
verdict_in v D1 = v.d1
verdict_in v D2 = v.d2

-- "misses"
abbrev pub is_miss : Verdict → Bool
is_miss (Response r) = false
is_miss Misses = true
is_miss (No why) = false

-- the same refusal in each mode
abbrev pub no_verdicts : Refusal → ByMode Verdict
no_verdicts why = record { n = No why; d1 = No why; d2 = No why }

-- "the least row" that misses in a mode
unfoldable pub least_row : List (ByMode Verdict) → Mode → Option ℕ
least_row vs m = least (λ i. is_miss (verdict_in (get_or vs i (no_verdicts NoServer)) m)) 0 (length vs)

-- "the least mode in the order N, D1, D2, then the least row"; yes where there is none
unfoldable pub from_verdicts : List (ByMode Verdict) → Fits
from_verdicts vs = first_of (λ k. Miss (mode_said k)) Yes (λ k. least_row vs (mode_said k)) 3

-- "A table or state refused by 13 is refused here too."
unfoldable pub fits_of : Table → Fits
fits_of t = unless table_keeps t say NoFits Unsound else from_verdicts (verdicts_of t)

-- the paper's number, 0 where it is answered; and what is answered: 1 for yes, or 0 with the mode
-- and the row
abbrev pub fits_number : Fits → ℕ
fits_number Yes = 0
fits_number (Miss m i) = 0
fits_number (NoFits why) = number_of why

abbrev pub fits_values : Fits → List ℕ
fits_values Yes = 1 ∷ []
fits_values (Miss m i) = 0 ∷ mode_value m ∷ i ∷ []
fits_values (NoFits why) = []
