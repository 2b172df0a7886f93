-- `scheduler::settle::drop_low` meets its contract: of the tasks passed those of level LO are
-- cleared, and their jobs counted and noted. Assumes nothing.
use mathlib.Core.Path.{◌≡◌}
use Prim.Native.Nat.{◌*◌, ◌≤◌}
use lib.ListN.{get_or}
use Rattle.laws.specs.Rows.{anew, sum_below}
use Rattle.scheduler.specs.Inner.Steps.{kept_of, gone_of, noted_of}
use Rattle.scheduler.proofs.settle.drop_low.Given as goal

abbrev pub invariant-loop-k : goal.invariant-loop-k
invariant-loop-k l = record {
  bound : l.count ≤ l.k * 255;
  waiting : l.waiting ≡ anew l.k (kept_of l.sheets) l.initial.waiting;
  runs : l.runs ≡ anew l.k (kept_of l.sheets) l.initial.runs;
  count : l.count ≡ sum_below l.k (λ j. gone_of l.sheets j (get_or l.initial.waiting j 0));
  found : l.found ≡ noted_of l.k (λ j. gone_of l.sheets j (get_or l.initial.waiting j 0));
}
