-- `report::count::count_tick` meets its contract: what it counts part by part are the numbers of one
-- tick more. Assumes nothing.
use Rattle.std.proofs.Common.{rules, arith, ap, ◌∙◌}
use Rattle.report.specs.declared.count.Counts.{Counts}
use Rattle.report.proofs.Inner.Count.{mode_ready, turn_ready, rows_ready, left_ready, discards_ready}
use Rattle.report.proofs.Inner.Count.{nothing_discarded, tick_counted}
use Rattle.report.proofs.count.count_tick.Goals as goal

pub offset_bounds-counts-mode : goal.offset_bounds-counts-mode
offset_bounds-counts-mode c = omega (arith, (mode_ready c.requires.3).0)

pub bounds-counts-mode : goal.bounds-counts-mode
bounds-counts-mode c = (mode_ready c.requires.3).0

pub overflow_add-counts : goal.overflow_add-counts
overflow_add-counts c = omega (arith, (mode_ready c.requires.3).1)

pub bounds-counts-mode-2 : goal.bounds-counts-mode-2
bounds-counts-mode-2 c = (mode_ready c.requires.3).0

pub count_turn-requires : goal.count_turn-requires
count_turn-requires c = turn_ready c.requires.3

pub count_rows-requires : goal.count_rows-requires
count_rows-requires c =
    let e = c.count_turn.ensures in
    rows_ready c.requires.3 e.0 (ap (λ (x : Counts). x.row) e.1)

pub count_left-requires : goal.count_left-requires
count_left-requires c =
    let o = c.count_rows.ensures.only in
    let e = c.count_turn.ensures.1 in
    left_ready c.requires.3
    (ap (λ (x : Counts). x.finished) o ∙ ap (λ (x : Counts). x.finished) e)
    (ap (λ (x : Counts). x.cut) o ∙ ap (λ (x : Counts). x.cut) e)

pub count_discards-requires : goal.count_discards-requires
count_discards-requires c =
    let e = c.count_turn.ensures in
    discards_ready c.requires.3 e.0
    (ap (λ (x : Counts). x.discarded) c.count_left.ensures
    ∙ ap (λ (x : Counts). x.discarded) c.count_rows.ensures.only
    ∙ ap (λ (x : Counts). x.discarded) e.1)

pub returns-then-discarded-gt0 : goal.returns-then-discarded-gt0
returns-then-discarded-gt0 c =
    λ t ms m h.
    let e = c.count_turn.ensures in
    tick_counted h e.0 (search rules) (rw e.1 at c.count_rows.ensures) (rw c.count_left.ensures at c.count_discards.ensures)

pub returns-else-discarded-gt0 : goal.returns-else-discarded-gt0
returns-else-discarded-gt0 c =
    λ t ms m h.
    let e = c.count_turn.ensures in
    tick_counted h e.0 (search rules) (rw e.1 at c.count_rows.ensures)
    (rw c.count_left.ensures (nothing_discarded h _ e.0 c.if-discarded-gt0.false))
