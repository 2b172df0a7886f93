-- Whether a run's table fits: 13 where the run is not sound, else what the table is answered.
-- Assumes nothing.
use mathlib.Core.Path.{◌≡◌}
use mathlib.Core.Bool.{true, false}
use Rattle.table.specs.declared.Refusal.TheVariants.{Unsound}
use Rattle.verdict.specs.declared.Fits.TheVariants.{No}
use Rattle.verdict.specs.Fits.{fits_of}
use Rattle.run.specs.declared.Run.{Run}
use Rattle.run.specs.Sound.{sound}
use Rattle.fitting.specs.Fits.{run_fits}

pub run_unsound : (r : Run) → sound r ≡ false → run_fits r ≡ No Unsound
unfolding run_fits
run_unsound r e = rw e

pub run_as_table : (r : Run) → sound r ≡ true → run_fits r ≡ fits_of r.table
unfolding run_fits
run_as_table r e = rw e
