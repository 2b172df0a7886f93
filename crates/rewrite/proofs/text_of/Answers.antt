-- `rewrite::text_of` meets its contract: the room is enough for every table. Assumes nothing.
use Rattle.rewrite.proofs.Rewritten.{front}
use Rattle.rewrite.proofs.text_of.Goals as goal

pub returns : goal.returns
returns c =
    let w = c.write_table in
    rw c.unwrap_or.ensures (front c.args.t c.args.room.now c.requires w.result w.new.room w.ensures)
