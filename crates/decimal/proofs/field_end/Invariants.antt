-- `decimal::field_end` meets its contract: no byte before i ends the field, so it ends where the one
-- that goes on at i does. Assumes nothing.
use Rattle.std.proofs.Common.{◌≡◌, ◌+◌}
use Rattle.decimal.specs.Inner.Fields.{field_end}
use Rattle.decimal.proofs.field_end.Given as goal

abbrev pub invariant-loop-i : goal.invariant-loop-i
invariant-loop-i l = field_end l.text l.at ≡ field_end l.text (l.at + l.i)
