-- `report::page::put_modes` meets its contract: one line after the other. Assumes nothing.
use mathlib.Core.List.{[], ◌∷◌}
use Rattle.table.specs.declared.Mode.TheVariants.{N, D1, D2}
use Rattle.morning.specs.Page.{mode_line}
use Rattle.report.specs.Inner.Page.{mode_in}
use Rattle.report.proofs.Inner.Page.{lines_put}
use Rattle.report.proofs.page.put_modes.Goals as goal

pub returns : goal.returns
returns c =
    let xs = c.args.modes.now in
    let n = mode_line N (mode_in xs N) in
    let d1 = mode_line D1 (mode_in xs D1) in
    let d2 = mode_line D2 (mode_in xs D2) in
    lines_put (n ∷ []) (d1 ∷ d2 ∷ []) c.put_mode-k.ensures
    (lines_put (d1 ∷ []) (d2 ∷ []) c.put_mode-k-2.ensures c.put_mode.ensures)
