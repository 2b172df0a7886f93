-- `framescheduler::steps::answer_lines` meets its contract: after each line the parts of the run and the room
-- are what the definition says of the lines so far. Assumes nothing.
use mathlib.Core.Path.{ap, ◌∙◌}
use Prim.Native.Nat.{◌*◌, ◌<◌}
use native.Mathlib.Omega.{arith}
use lib.ListN.{length}
use Rattle.events.specs.Values.{lines_said}
use Rattle.events.proofs.Values.{lines_length, told_put_length}
use Rattle.events.proofs.Boxes.{going_on}
use Rattle.framerun.specs.Events.{frame_box}
use Rattle.framescheduler.proofs.Inner.{line_keeps, line_left, going_end}
use Rattle.framescheduler.proofs.steps.answer_lines.Goals as goal

pub loop-i-preserved : goal.loop-i-preserved
loop-i-preserved c =
    let l = c.loop-i in
    let vs = c.args.lines.now in
    let i = l.i in
    let m : i < length (lines_said vs) = omega (arith, lines_length vs, c.as_chunks.ensures.front_len, c.loop-i-test.true) in (
      ap length c.put_told.ensures ∙ told_put_length l.told (9 * i) c.answer_line-x.result ∙ l.invariant.0,
      line_keeps l.r c.line_said.result _ l.invariant.1 c.answer_line-x.ensures.1,
      going_on frame_box _ (lines_said vs) c.args.told.now _ l.told i c.line_said.result _
          c.answer_line-x.result _ (omega (arith, c.loop-i-test.true, c.as_chunks.ensures.front_len, c.requires.0))
          (rw c.line_said.ensures (line_left vs _ i _ c.as_chunks.ensures.front m)) c.answer_line-x.ensures.1
          c.answer_line-x.ensures.0 c.put_told.ensures l.invariant.2,
    )

pub returns : goal.returns
returns c =
    let l = c.loop-i in
    let vs = c.args.lines.now in
    going_end _ (lines_said vs) _ _ _ l.i (omega (arith, lines_length vs, c.as_chunks.ensures.front_len)) l.invariant.2
