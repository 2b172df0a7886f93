-- `scheduler::many::answer_lines` meets its contract: after each line the state and the room are what
-- the definition says of the lines so far. Assumes nothing.
use mathlib.Core.Path.{ap, ◌∙◌}
use Prim.Native.Nat.{◌*◌, ◌<◌}
use native.Mathlib.Omega.{arith}
use lib.ListN.{length}
use Rattle.events.specs.Values.{lines_said}
use Rattle.events.proofs.Values.{lines_length, told_put_length}
use Rattle.events.proofs.Boxes.{going_on}
use Rattle.run.specs.Events.{the_box}
use Rattle.scheduler.proofs.Inner.Many.{going_end, line_keeps, line_left}
use Rattle.scheduler.proofs.many.answer_lines.Goals as goal

pub loop-i-preserved : goal.loop-i-preserved
loop-i-preserved c =
    let l = c.loop-i in
    let a = c.args in
    let vs = a.lines.now in
    let i = l.i in
    let x = c.answer_line-x.result in
    let m : i < length (lines_said vs) = omega (arith, lines_length vs, c.as_chunks.ensures.front_len, c.loop-i-test.true) in (
      ap length c.put_told.ensures ∙ told_put_length l.told (9 * i) x ∙ l.invariant.0,
      λ t p.
          let q = l.invariant.1 t p in
          let y = c.answer_line-x.ensures t q.0 in (
            line_keeps t _ _ q.0 _ _ _ _ y,
            going_on the_box _ (lines_said vs) a.told.now _ l.told i _ _ x _
                (omega (arith, c.loop-i-test.true, c.as_chunks.ensures.front_len, c.requires.0)) (line_left vs _ i _ c.as_chunks.ensures.front m) y.run y.told
                c.put_told.ensures q.1,
          ),
    )

pub returns : goal.returns
returns c =
    λ t p.
    let l = c.loop-i in
    let vs = c.args.lines.now in
    going_end _ (lines_said vs) _ _ _ l.i (omega (arith, lines_length vs, c.as_chunks.ensures.front_len)) (l.invariant.1 t p).1
