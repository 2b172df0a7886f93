-- What fits prints of a table that was taken: `yes`, or `no` with the mode and the row.
use Rattle.std.specs.Prelude.{List, [], ◌∷◌, ℕ}
use Rattle.laws.specs.Quoted.{bytes}
use Rattle.decimal.specs.Number.{digits}
use Rattle.decimal.specs.Lines.{tab, join, closed}
use Rattle.table.specs.Refusals.{number_of}
use Rattle.verdict.specs.declared.Fits.{Fits}
use Rattle.verdict.specs.declared.Fits.TheVariants.{Yes, Miss, No}
use Rattle.lines.specs.Words.{no_word, mode_word}

-- A table that was taken keeps the rules, so the last is never seen.
abbrev pub fits_fields : Fits → List (List ℕ)
fits_fields Yes = bytes "yes" ∷ []
fits_fields (Miss m i) = no_word ∷ mode_word m ∷ digits i ∷ []
fits_fields (No why) = no_word ∷ digits (number_of why) ∷ []

abbrev pub fits_line : Fits → List ℕ
fits_line f = closed (join tab (fits_fields f) ∷ [])
