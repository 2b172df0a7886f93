-- States of the table of document 01's example, worked out by hand, and computed: a slip in the
-- definition shows here as an equation that is false. Assumes nothing.
use mathlib.Core.Path.{◌≡◌, refl}
use lib.ListN.{set, replicate}
use Rattle.laws.specs.Choice.{every}
use Rattle.laws.specs.Search.{least, first_of}
use Rattle.laws.specs.RoundUp.{up}
use Rattle.laws.specs.Rows.{all_below, sum_below, listed}
use Rattle.table.specs.declared.Mode.TheVariants.{D1}
use Rattle.table.specs.declared.Refusal.TheVariants.{Unsound}
use Rattle.table.specs.Rows.{table_of}
use Rattle.table.specs.Rules.{server_keeps, task_keeps, task_fault, task_stands, differ, keeps, table_keeps}
use Rattle.table.specs.Example.{example}
use Rattle.verdict.specs.declared.Fits.TheVariants.{Yes, No}
use Rattle.verdict.specs.Verdict.{interference, meets, response_at, verdict_of}
use Rattle.verdict.specs.Fits.{verdicts_of, least_row, from_verdicts, fits_of}
use Rattle.run.specs.State.{with_mode, with_budgets, fresh}
use Rattle.run.specs.Sound.{sound_server, sound_task, sound_last, sound_counts, sound_state, sound}
use Rattle.fitting.specs.Fits.{run_fits}

unfoldable computed : Unit {0}
unfolding
    every least first_of up all_below sum_below listed table_of server_keeps task_keeps task_fault task_stands differ keeps table_keeps
    example interference meets response_at verdict_of verdicts_of least_row from_verdicts fits_of sound_server sound_task
    sound_last sound_counts sound_state sound run_fits
computed = tt

-- the example fits, also of a state in D1
pub in_d1 : run_fits (record { table = example; state = with_mode fresh D1 }) ≡ Yes
unfolding computed
in_d1 = refl

-- used above elapsed: 13, though the table keeps the rules
pub used_above_elapsed :
    run_fits (record { table = example; state = with_budgets fresh (set (replicate 32 0) 1 1) (replicate 32 0) }) ≡ No Unsound
unfolding computed
used_above_elapsed = refl
