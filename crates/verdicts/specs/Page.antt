-- What verdicts prints of a table that was taken: a line for each server row.
use Rattle.std.specs.Prelude.{List, [], ◌∷◌, ◌++◌, ℕ, zero, suc, get_or}
use Rattle.laws.specs.Quoted.{bytes}
use Rattle.decimal.specs.Number.{digits}
use Rattle.decimal.specs.Lines.{tab, join, closed}
use Rattle.table.specs.declared.Refusal.TheVariants.{NoServer}
use Rattle.table.specs.declared.Table.{Table}
use Rattle.verdict.specs.declared.Verdict.{Verdict}
use Rattle.verdict.specs.declared.Verdict.TheVariants.{Response, Misses, No}
use Rattle.table.specs.declared.ByMode.{ByMode}
use Rattle.verdict.specs.Fits.{verdicts_of, no_verdicts}

-- A table that was taken keeps the rules, so no row of it has the last.
abbrev pub verdict_word : Verdict → List ℕ
verdict_word (Response r) = digits r.0
verdict_word Misses = bytes "misses"
verdict_word (No why) = bytes "no"

-- the row's number, and its response in N, D1 and D2
unfoldable pub row_line : ℕ → ByMode Verdict → List ℕ
row_line i v = join tab (digits i ∷ verdict_word v.n ∷ verdict_word v.d1 ∷ verdict_word v.d2 ∷ [])

unfoldable pub row_lines : List (ByMode Verdict) → ℕ → List (List ℕ)
row_lines vs zero = []
row_lines vs (suc i) = row_lines vs i ++ (row_line i (get_or vs i (no_verdicts NoServer)) ∷ [])

abbrev pub page : Table → List ℕ
page t = closed (row_lines (verdicts_of t) t.nservers)
