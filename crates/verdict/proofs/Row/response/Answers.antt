-- `verdict::Row::response` meets its contract: without capacity it is 0, else what the climb finds.
-- Assumes nothing.
use mathlib.Core.Path.{ap}
use native.Mathlib.Omega.{arith}
use lib.ListN.{length-take}
use Rattle.units.specs.declared.Ticks.{Ticks}
use Rattle.table.proofs.Rules.{table_rules}
use Rattle.verdict.proofs.Least.{response_zero, response_else}
use Rattle.verdict.proofs.Row.response.Goals as goal

pub returns-then-capacity-eq0 : goal.returns-then-capacity-eq0
returns-then-capacity-eq0 c =
    let s = c.args.self.now in
    response_zero s.table.now c.args.m s.row c.in_mode-capacity.result.0
    (ap (λ (x : Ticks). x.0) c.in_mode-capacity.ensures) c.if-capacity-eq0.true

pub climb-requires : goal.climb-requires
climb-requires c =
    let s = c.args.self.now in
    let row = (table_rules s.table.now s.sized s.keeps).server s.row s.there in
    let h = c.higher-h.result in (
      omega (arith, length-take h.count h.delayers, c.higher-h.ensures.few),
      omega (arith, ap (λ (x : Ticks). x.0) c.in_mode-capacity.ensures, row.capacity c.args.m),
      row.period_high,
    )

pub returns : goal.returns
returns c =
    let s = c.args.self.now in
    response_else s.table.now c.args.m s.row c.in_mode-capacity.result.0 c.higher-h.result c.climb.result
    (ap (λ (x : Ticks). x.0) c.in_mode-capacity.ensures) c.if-capacity-eq0.false
    c.higher-h.ensures
    c.climb.ensures
