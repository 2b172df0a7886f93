-- `table::equal_rows` meets its contract: no pair before the one looked at is equal, so the first
-- equal one is the answer. Assumes nothing.
use Rattle.std.proofs.Common.{◌∙◌, ◌+◌, sym, arith}
use Rattle.std.proofs.lemmas.List.{length-map}
use Rattle.table.proofs.Pairs.{sought_next, sought_all, sought_first, priority_read, priority_after}
use Rattle.table.proofs.equal_rows.Goals as goal

pub loop-j-preserved : goal.loop-j-preserved
loop-j-preserved g c =
    let f = g.T.HasPriority.priority_of in
    let rows = c.args.rows.now in
    let p = c.priority.ensures ∙ priority_read f rows c.rows.i _ (omega arith) c.index-rows-i.is in
    let q = c.priority-in-loop-j.ensures ∙ priority_after f rows (c.rows.i + 1) c.loop-j.j _ (omega arith) c.y-item.is in
    (c.loop-j.invariant.0, sought_next c.loop-j.invariant.1 (λ e. c.if-priority.false (p ∙ e ∙ sym q)) (omega arith))

pub returns-after-rows : goal.returns-after-rows
returns-after-rows g c =
    let f = g.T.HasPriority.priority_of in
    let rows = c.args.rows.now in
    c.rows.invariant.0 ∙ sought_all c.rows.invariant.1 (omega (arith, length-map rows f))

pub returns-then-priority : goal.returns-then-priority
returns-then-priority g c =
    let f = g.T.HasPriority.priority_of in
    let rows = c.args.rows.now in
    let p = c.priority.ensures ∙ priority_read f rows c.rows.i _ (omega arith) c.index-rows-i.is in
    let q = c.priority-in-loop-j.ensures ∙ priority_after f rows (c.rows.i + 1) c.loop-j.j _ (omega arith) c.y-item.is in
    sought_first c.loop-j.invariant.1 (omega (arith, length-map rows f)) (sym p ∙ c.if-priority.true ∙ q)
