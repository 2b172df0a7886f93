-- 02, No. 5, asked of a state with its table: "A table or state refused by 13 is refused here too."
use Rattle.laws.specs.Choice.{unless◌say◌else◌}
use Rattle.table.specs.declared.Refusal.TheVariants.{Unsound}
use Rattle.verdict.specs.declared.Fits.{Fits}
use Rattle.verdict.specs.declared.Fits.TheVariants.{No}
use Rattle.verdict.specs.Fits.{fits_of}
use Rattle.run.specs.declared.Run.{Run}
use Rattle.run.specs.Sound.{sound}

-- A verdict looks at no state, so nothing else of it shows.
unfoldable pub run_fits : Run → Fits
run_fits r = unless sound r say No Unsound else fits_of r.table
