-- `report::count::count_ticks` meets its contract: after each tick the ticks so far are counted, and
-- the others are as they were handed in. Assumes nothing.
use mathlib.Core.Path.{◌≡◌, refl, ap, ◌∙◌}
use mathlib.Core.List.{List, [], ◌++◌}
use Prim.Native.Nat.{ℕ, ◌+◌, ◌*◌, ◌-◌, ◌≤◌, ◌<◌}
use native.Mathlib.Omega.{arith}
use lib.ListN.{length, get_or, take, drop}
use borrow.Rule.Slice.PartMut.{mid_len}
use Rattle.table.specs.declared.Table.{Table}
use Rattle.run.specs.Found.{TakenTick}
use Rattle.lines.proofs.Chunks.{parts_length, part_at}
use Rattle.report.specs.Inner.Count.{TicksHanded}
use Rattle.report.proofs.Inner.Count.{TickLeft, none_left, one_left, rest_left, first_handed}
use Rattle.report.proofs.Inner.Count.{told_next, found_next}
use Rattle.report.proofs.count.count_ticks.Goals as goal
use Rattle.report.proofs.count.count_ticks.Goals.{In-loop-i}

-- a tick is left, and what is told of it
told_more : (c : In-loop-i) → c.loop-i.i < c.args.n
told_more c =
    omega (
      arith,
      c.loop-i-test.true,
      ap (λ (x : List (List ℕ)). length (take c.args.n x)) c.as_chunks.ensures.front,
      parts_length 9 c.args.n c.args.told.now (omega (arith, c.loop-i.invariant.1)),
    )

told_is : (c : In-loop-i) →
    get_or (take c.args.n c.as_chunks.result.0.now) c.loop-i.i [] ≡ take 9 (drop (9 * c.loop-i.i) c.args.told.now)
told_is c =
    ap (λ (x : List (List ℕ)). get_or (take c.args.n x) c.loop-i.i []) c.as_chunks.ensures.front
    ∙ part_at 9 c.args.n c.loop-i.i c.args.told.now [] (told_more c) (omega (arith, c.loop-i.invariant.1))

-- the room that a tick has
found_room : (c : In-loop-i) →
    (96 * c.loop-i.i + 96 ≤ length c.loop-i.found)
    × (length c.loop-i.found < 9223372036854775808)
found_room c =
    let v = c.loop-i.invariant in (
      omega (arith, told_more c, v.2, v.3),
      omega (arith, v.3),
    )

-- the tick that is next
next : (c : In-loop-i) →
    let l = c.loop-i in
    (t : Table) (ms new : List TakenTick) →
    TicksHanded t ms new c.args.nservers c.args.ntasks c.args.n c.args.told.now c.args.found.now c.args.counts.now →
    TickLeft t (ms ++ new) c.args.nservers c.args.ntasks (c.args.n - (l.i + 1))
    (drop (9 * l.i) c.args.told.now) (drop (96 * l.i) l.found) l.counts
next c t ms new h =
    let l = c.loop-i in
    one_left (c.args.n - l.i) (omega (arith, told_more c)) (l.invariant.4 t ms new h)

pub count_tick-requires : goal.count_tick-requires
count_tick-requires c =
    let p = c.requires in
    let i = c.loop-i.i in
    let s = (goal.at.count_tick-requires c).In-loop-i in
    let g = next s p.0 p.1 p.2 p.3 in
    rw (told_is s) (p.0, g.done, g.tick, first_handed g.handed 9 (96 * i + 96 - 96 * i) refl (omega arith))

pub loop-i-preserved : goal.loop-i-preserved
loop-i-preserved c =
    let l = c.loop-i in
    let i = l.i in
    let b = 96 * i + 96 - 96 * i in
    let s = (goal.at.loop-i-preserved c).In-loop-i in
    let r = (found_room s).0 in (
      omega (arith, told_more s),
      l.invariant.1,
      l.invariant.2,
      omega arith,
      λ t ms new h.
          let g = next s t ms new h in
          rest_left g (told_next i c.args.told.now)
          (found_next i l.found c.count_tick.new.found r
          (omega (arith, mid_len (96 * i) (96 * i + 96) l.found r)))
          (c.count_tick.ensures t g.done g.tick (rw (told_is s) (first_handed g.handed 9 b refl (omega arith)))),
    )

pub returns : goal.returns
returns c =
    λ t ms new h.
    let l = c.loop-i in
    let n = c.args.n in
    let k = parts_length 9 n c.args.told.now (omega (arith, l.invariant.1)) in
    let f = ap (λ (x : List (List ℕ)). length (take n x)) c.as_chunks.ensures.front in
    let e : n - l.i ≡ 0 = omega (arith, c.loop-i-test.false, f, k) in
    none_left (rw e at (l.invariant.4 t ms new h))
