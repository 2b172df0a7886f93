-- The bytes that were moved so far are within the lent ones. Assumes nothing.
use Rattle.std.proofs.Common.{length, ◌≤◌}
use Rattle.files.proofs.take_whole.Given as goal

abbrev pub invariant-loop : goal.invariant-loop
invariant-loop g l = l.at ≤ length l.buf
