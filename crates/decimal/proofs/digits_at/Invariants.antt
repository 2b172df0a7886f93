-- `decimal::digits_at` meets its contract: the first i bytes from `at` on are digits of the worth so
-- far, at most 11 of them, so that it is below 10 ^ 11. Assumes nothing.
use Rattle.std.proofs.Common.{◌≡◌, true, take, drop}
use Rattle.decimal.specs.Number.{are_digits, worth}
use Rattle.decimal.proofs.digits_at.Given as goal

abbrev pub invariant-loop-i : goal.invariant-loop-i
invariant-loop-i l = record {
  digits : are_digits (take l.i (drop l.at l.s)) ≡ true;
  worths : l.worth ≡ worth (take l.i (drop l.at l.s));
}
