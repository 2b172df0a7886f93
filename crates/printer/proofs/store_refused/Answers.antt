-- `printer::store_refused` meets its contract: two words, and in each case its numbers. Assumes
-- nothing.
use Rattle.std.proofs.Common.{arith}
use Rattle.printer.proofs.Inner.{at_most, then}
use Rattle.printer.proofs.store_refused.Goals as goal

pub returns-in-Ok : goal.returns-in-Ok
returns-in-Ok c =
    rw c.in-Ok.is
    (at_most (then (then c.store_all-t.ensures c.store_all-b.ensures) c.store_last.ensures)
    (omega arith))

pub returns-in-Refused : goal.returns-in-Refused
returns-in-Refused c =
    rw (c.in-Err.is, c.in-Refused.is, ← c.number_of.ensures)
    (then
    (then (then (then c.store_all-t.ensures c.store_all-b.ensures) c.store_field-c.ensures)
    c.store_field-d.ensures)
    c.store_last-in-Refused.ensures)

pub returns-in-Equal : goal.returns-in-Equal
returns-in-Equal c =
    rw (c.in-Err.is, c.in-Equal.is)
    (then
    (then (then (then c.store_all-t.ensures c.store_all-b.ensures) c.store_field-c-in-Equal.ensures)
    c.store_field-d-in-Equal.ensures)
    c.store_last-in-Equal.ensures)
