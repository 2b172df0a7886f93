-- `verdict::least_row` meets its contract: before row i, none of the rows passed misses. Assumes
-- nothing.
use mathlib.Core.Path.{◌≡◌, ◌∙◌}
use mathlib.Core.Bool.{false}
use native.Mathlib.Omega.{arith}
use borrow.Author.Count.{below_more}
use Rattle.verdict.proofs.Fitting.{misses, row_asked, row_misses, no_row_misses}
use Rattle.verdict.proofs.least_row.Goals as goal
use Rattle.verdict.proofs.least_row.Goals.{After-is_none}

-- whether the row at hand misses, by what was asked
at_hand : (c : After-is_none) → misses c.args.t.now c.args.m c.loop-row.row ≡ c.is_none.result
at_hand c =
    row_asked c.args.t.now c.args.m c.requires.1 c.loop-row.row c.response.result c.is_none.result c.loop-row-test.true
    c.response.ensures
    c.is_none.ensures

pub returns-then-is_none : goal.returns-then-is_none
returns-then-is_none c =
    row_misses c.args.t.now c.args.m c.requires.1 c.loop-row.row c.loop-row-test.true
    (at_hand (goal.at.returns-then-is_none c).After-is_none ∙ c.if-is_none.true) c.loop-row.invariant

pub loop-row-preserved : goal.loop-row-preserved
loop-row-preserved c =
    below_more (λ k. misses c.args.t.now c.args.m k ≡ false) c.loop-row.row c.loop-row.invariant
    (at_hand (goal.at.loop-row-preserved c).After-is_none ∙ c.if-is_none.false)

pub returns : goal.returns
returns c =
    let l = c.loop-row in
    let e : l.row ≡ c.args.t.now.nservers = omega arith in
    no_row_misses c.args.t.now c.args.m c.requires.1 (rw e at l.invariant)
