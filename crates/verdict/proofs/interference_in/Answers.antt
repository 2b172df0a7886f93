-- `verdict::interference_in` meets its contract. The loop's invariant: the sum is that of the servers
-- passed, so it is at most 3,000,000 for each of them. Assumes nothing.
use mathlib.Core.Path.{ap, ◌∙◌}
use Prim.Native.Nat.{◌+◌}
use native.Mathlib.Omega.{arith}
use lib.ListN.{take, length-take}
use Rattle.std.proofs.lemmas.List.Sums.{sum_by_more}
use Rattle.verdict.specs.Inner.{asked_by}
use Rattle.verdict.proofs.Delayers.{in_le}
use Rattle.verdict.proofs.interference_in.Goals as goal

pub overflow_add-sum : goal.overflow_add-sum
overflow_add-sum c =
    let ds = c.args.higher.now in
    let i = c.loop-d.d-index in
    record {
      fits =
          omega (
            arith,
            c.loop-d.invariant,
            c.asks-sum.ensures ∙ ap (λ d. asked_by d c.args.r) c.d-item.is,
            sum_by_more (λ d. asked_by d c.args.r) ds i c.d-item.result c.loop-d-test.true,
            in_le (take (i + 1) ds) c.args.r c.requires.1,
            length-take (i + 1) ds,
            c.requires.0,
          );
    }
