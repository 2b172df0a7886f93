-- `verdict::fits_of` meets its contract: before mode k, no row misses in the modes passed. Assumes
-- nothing.
use mathlib.Core.Path.{◌≡◌, sym, ap, ◌∙◌}
use native.Mathlib.Omega.{arith}
use Rattle.verdict.specs.Fits.{verdicts_of, least_row}
use Rattle.verdict.proofs.Fitting.{row_in, mode_in_order, fits_unsound, fits_miss, fits_yes}
use Rattle.verdict.proofs.fits_of.Goals as goal
use Rattle.verdict.proofs.fits_of.Goals.{After-least_row}

-- what is found in the mode at hand
found : (c : After-least_row) → c.least_row.result ≡ row_in c.args.t c.loop-mode.mode-index
found c =
    c.least_row.ensures
    ∙ ap (least_row (verdicts_of c.args.t)) (mode_in_order c.loop-mode.mode-index c.loop-mode-test.true)

pub returns-then-not-table_keeps : goal.returns-then-not-table_keeps
returns-then-not-table_keeps c =
    fits_unsound c.args.t (sym c.table_keeps.ensures ∙ c.if-not-table_keeps.true)

pub returns-in-Some : goal.returns-in-Some
returns-in-Some c =
    let k = c.loop-mode.mode-index in
    rw (mode_in_order k c.loop-mode-test.true)
    (fits_miss c.args.t (sym c.table_keeps.ensures ∙ c.if-not-table_keeps.false) k _
    (record {
      below = c.loop-mode-test.true;
      found = sym (found (goal.at.returns-in-Some c).After-least_row) ∙ c.in-Some.is;
      none_before = c.loop-mode.invariant;
    }))

pub returns : goal.returns
returns c =
    let l = c.loop-mode in
    let n : l.mode-index ≡ 3 = omega arith in
    fits_yes c.args.t (sym c.table_keeps.ensures ∙ c.if-not-table_keeps.false) (rw n at l.invariant)
