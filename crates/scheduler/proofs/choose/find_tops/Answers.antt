-- `scheduler::choose::find_tops` meets its contract: the walk keeps each server's highest task with
-- a waiting job among the tasks passed. Assumes nothing.
use mathlib.Core.Path.{◌≡◌, refl, sym, ap, ◌∙◌}
use Prim.Native.Nat.{◌+◌, ◌<◌}
use native.Mathlib.Omega.{arith}
use lib.ListN.{length, get_or, drop, length-set}
use lib.Seq.{drop-set-lt}
use Rattle.scheduler.proofs.Inner.Columns.{owner_on, task_priority_on}
use Rattle.scheduler.proofs.Inner.Choose.{places_there, tops_none, tops_take, tops_leave}
use Rattle.scheduler.proofs.Inner.Choose.{tops_found, tops_noted}
use Rattle.scheduler.proofs.choose.find_tops.Goals as goal
use Rattle.scheduler.proofs.choose.find_tops.Goals.{then-is_higher, else-is_higher}

pub loop-k-init : goal.loop-k-init
loop-k-init c =
    let p = c.requires in
    let f = c.args.found.now in
    record {
      places = places_there f p.1;
      tops = ap length p.2;
      others = refl {a = drop 32 f};
      found = λ t on g. rw p.2 (tops_none t c.args.state.now f p.1);
    }

pub loop-k-preserved : goal.loop-k-preserved
loop-k-preserved c =
    let l = c.loop-k in
    let v = l.invariant in
    let ss = c.args.sheets.now in
    let s = c.args.state.now in
    let row = get_or ss.tasks (c.in_mode-column.result + l.k) 0 in
    let high = get_or ss.tasks (128 + l.k) 0 in
    let owner = ap (λ y. get_or ss.tasks (y + l.k) 0) c.in_mode-column.ensures in
    let low : row < 32 = omega (arith, owner, c.requires.0.owner l.k c.loop-k-test.true) in
    elim c.if-is_higher.branch [
      | then-is_higher w ↦
          record {
            places = omega (arith, ap length w.found-is ∙ length-set l.found row high, v.places);
            tops = ap length w.top-is ∙ length-set l.top row l.k ∙ v.tops;
            others = ap (drop 32) w.found-is ∙ drop-set-lt 32 l.found row high low ∙ v.others;
            found =
                λ t on g i b.
                let k : l.k < t.ntasks = omega (arith, c.loop-k-test.true, on.count) in
                rw (w.found-is, w.top-is)
                (tops_take t s l.k row high l.found l.top (owner ∙ owner_on t ss on l.k k s.mode)
                (task_priority_on t ss on l.k k) v.places v.tops low (sym c.is_higher.ensures ∙ w.if-is_higher.true)
                (v.found t on g) i b);
          }
      | else-is_higher w ↦
          record {
            places = omega (arith, ap length w.found-is, v.places);
            tops = ap length w.top-is ∙ v.tops;
            others = ap (drop 32) w.found-is ∙ v.others;
            found =
                λ t on g i b.
                let k : l.k < t.ntasks = omega (arith, c.loop-k-test.true, on.count) in
                rw (w.found-is, w.top-is)
                (tops_leave t s l.k row high l.found l.top (owner ∙ owner_on t ss on l.k k s.mode)
                (task_priority_on t ss on l.k k) (g l.k k) (sym c.is_higher.ensures ∙ w.if-is_higher.false) (v.found t on g) i b);
          }
    ]

pub returns : goal.returns
returns c =
    λ t on g.
    let l = c.loop-k in
    let a = c.args in
    let q : l.k ≡ t.ntasks = omega (arith, on.count) in
    let p = rw q at (l.invariant.found t on g) in (
      tops_noted t a.state.now l.found a.found.now l.top l.invariant.places l.invariant.others p,
      tops_found t a.state.now l.found l.top p,
    )
