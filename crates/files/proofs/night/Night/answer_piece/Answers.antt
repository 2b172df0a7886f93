-- `Night::answer_piece` meets its contract: batch by batch, the bytes before stand answered (crate
-- lines, proofs/Pieces.antt). Assumes nothing.
use Prim.Native.Nat.{◌+◌, ◌*◌, ◌-◌, ◌<◌}
use mathlib.Core.List.{◌++◌}
use lib.ListN.{length, take, drop}
use native.Mathlib.Omega.{arith}
use Rattle.lines.proofs.Pieces.{Going, going_start, going_on, going_done}
use Rattle.files.proofs.night.Night.answer_piece.Given.{Over}
use Rattle.files.proofs.night.Night.answer_piece.Goals as goal
use Rattle.files.proofs.night.Night.answer_piece.Goals.{After-serve-s}

pub loop-at-init : goal.loop-at-init
loop-at-init g c =
    let n = c.args.self in (
      going_start g.B.NightBox.the_box n.run n.held c.args.bytes.now c.args.room.now
          (omega (arith, c.requires.long, c.requires.few)) n.ready,
      c.requires.few,
    )

-- after a batch
served : (g : Over) (c : After-serve-s g) →
    let n = c.args.self in
    let l = c.loop-at in
    let x = c.serve-s.result in
    let many = l.put + c.min-most.result * 140 - l.put in
    (0 < x.eaten) ×
    Going g.B.NightBox.the_box n.run n.held c.args.bytes.now (length c.args.room.now) (l.at + x.eaten) (l.put + x.put)
    (take l.put l.room ++ (c.serve-s.new.room ++ drop many (drop l.put l.room)))
    x.run x.held
served g c =
    let n = c.args.self in
    let s = c.serve-s in
    going_on g.B.NightBox.the_box n.run n.held c.args.bytes.now c.loop-at.invariant.0 c.loop-at-test.true c.min-most.ensures
    s.result s.new.room s.auto.room s.ensures.sound s.ensures.served

pub overflow_add-at : goal.overflow_add-at
overflow_add-at g c =
    let d = (goal.at.overflow_add-at g c).After-serve-s in
    record { fits = omega (arith, (served g d).1.within, c.loop-at.invariant.1) }

pub overflow_add-put : goal.overflow_add-put
overflow_add-put g c =
    let d = (goal.at.overflow_add-put g c).After-serve-s in
    record { fits = omega (arith, (served g d).1.few, (served g d).1.within, c.loop-at.invariant.1) }

pub loop-at-smaller : goal.loop-at-smaller
loop-at-smaller g c = omega (arith, (served g (goal.at.loop-at-smaller g c).After-serve-s).0, c.loop-at-test.true)

pub loop-at-preserved : goal.loop-at-preserved
loop-at-preserved g c = ((served g (goal.at.loop-at-preserved g c).After-serve-s).1, c.loop-at.invariant.1)

pub returns : goal.returns
returns g c =
    let n = c.args.self in
    let l = c.loop-at in
    going_done g.B.NightBox.the_box n.run n.held c.args.bytes.now (length c.args.room.now) l.at l.put l.room l.run l.held
    l.invariant.0 c.loop-at-test.false
