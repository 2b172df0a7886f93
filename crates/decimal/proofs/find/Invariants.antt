-- `decimal::find` meets its contract: no byte before i is b, so it stands where the one does that a
-- search from i on finds. Assumes nothing.
use Rattle.std.proofs.Common.{◌≡◌, ◌+◌, length}
use Rattle.decimal.specs.Lines.{index_of, slice}
use Rattle.decimal.proofs.find.Given as goal

abbrev pub invariant-loop-i : goal.invariant-loop-i
invariant-loop-i l =
    l.at + index_of l.b (slice l.at (length l.text) l.text)
    ≡ l.at + l.i + index_of l.b (slice (l.at + l.i) (length l.text) l.text)
