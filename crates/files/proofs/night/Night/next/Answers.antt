-- `Night::next` meets its contract: one law for each way in which a read ended. Assumes nothing.
use Rattle.std.proofs.Common.{arith, ◌∙◌, ap, false}
use Rattle.lines.specs.HeldLine.{line_in}
use Rattle.files.specs.Turns.{stand}
use Rattle.files.proofs.Turns.{last_put, turn_on, turn_end, turn_failed}
use Rattle.files.proofs.night.Night.next.Goals as goal
use Rattle.files.proofs.night.Night.next.Goals.{in-End, in-Failed}

pub returns-in-On : goal.returns-in-On
returns-in-On g c =
    let n = c.args.self in
    c.answer_piece.ensures ∙ turn_on g.B.NightBox.the_box n.run n.held c.args.how c.args.bytes.now c.in-On.is

pub returns : goal.returns
returns g c =
    let n = c.args.self in
    let b = g.B.NightBox.the_box in
    elim c.match-how.branch [
      | in-End w ↦
          turn_end b n.run n.held c.args.how c.args.bytes.now _ w.in-End.is
          (rw (w.put-is, w.room-is)
          (last_put (line_in n.held) c.args.room.now _ _ (omega (arith, c.requires.long)) w.answer_last-put.ensures))
      | in-Failed w ↦
          ap (λ k. stand n.run n.held k false c.match-how.room) w.put-is ∙
          turn_failed b n.run n.held c.args.how c.args.bytes.now w.in-Failed.is
    ]
