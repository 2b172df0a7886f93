-- `reader::fields::read_fields` meets its contract: k fields are behind `at`, and those from there
-- on give the rest; the line ends where it does seen from there. Assumes nothing.
use mathlib.Core.Path.{◌≡◌}
use mathlib.Core.List.{map}
use Prim.Native.Nat.{◌-◌, ◌≤◌}
use lib.ListN.{length, drop}
use Rattle.decimal.specs.Inner.Fields.{fields_from}
use Rattle.reader.specs.Inner.Fields.{expected_of, line_end, passed, fields_passed}
use Rattle.reader.proofs.fields.read_fields.Given as goal

abbrev pub invariant-loop-k : goal.invariant-loop-k
invariant-loop-k l =
    (l.k ≤ length l.shape)
    × (l.at ≤ length l.text)
    × (fields_passed l.least l.shape l.text l.from ≡
    passed l.least (map expected_of (drop l.k l.shape)) l.k
    (record { wrong = l.wrong; values = l.values; count = l.k; end = line_end l.text l.from }) (fields_from l.text l.at))
    × (line_end l.text l.from ≡ line_end l.text l.at)

abbrev pub decreases-loop-k : goal.decreases-loop-k
decreases-loop-k l = length l.shape - l.k
