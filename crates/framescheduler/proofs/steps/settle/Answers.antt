-- `framescheduler::steps::settle` meets its contract: each way through the code is a case of the mark. Assumes nothing.
use Rattle.std.proofs.Common.{Option, Some}
use mathlib.Core.Path.{refl, ◌≡◌}
use Prim.Native.Nat.{ℕ, ◌<◌}
use Rattle.framescheduler.specs.Inner.{head_of, LastLow}
use Rattle.framescheduler.proofs.Inner.{settle_none, settle_done, settle_cut, settle_stay}
use Rattle.framescheduler.proofs.steps.settle.Goals as goal

-- the last-run job's row is in the arrays
low : (l : Option ℕ) (k : ℕ) → l ≡ Some k → LastLow l → k < 64
low l k e h = rw e at h

pub returns-then-mark : goal.returns-then-mark
returns-then-mark c =
    let a = c.args in
    record {
      settles =
          settle_done a.t.now (head_of a.s.now) a.s.now.waiting a.s.now.runs a.mark _ _ _ c.in-Some.is (low _ _ c.in-Some.is c.requires)
          c.if-mark.true c.leave.ensures.0 c.leave.ensures.1;
      kept = refl;
    }

pub returns-then-s-k : goal.returns-then-s-k
returns-then-s-k c =
    let a = c.args in
    record {
      settles =
          settle_cut a.t.now (head_of a.s.now) a.s.now.waiting a.s.now.runs a.mark _ _ _ c.in-Some.is (low _ _ c.in-Some.is c.requires) c.if-mark.false
          c.if-s-k.true c.leave-then-s-k.ensures.0 c.leave-then-s-k.ensures.1;
      kept = refl;
    }

pub returns-in-None : goal.returns-in-None
returns-in-None c =
    let a = c.args in
    record {
      settles =
          settle_none a.t.now (head_of a.s.now) a.s.now.waiting a.s.now.runs a.mark c.in-None.is;
      kept = refl;
    }

pub returns-else-s-k : goal.returns-else-s-k
returns-else-s-k c =
    let a = c.args in
    record {
      settles =
          settle_stay a.t.now (head_of a.s.now) a.s.now.waiting a.s.now.runs a.mark _ c.in-Some.is c.if-mark.false c.if-s-k.false;
      kept = refl;
    }
