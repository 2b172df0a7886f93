-- `writer::put_table` meets its contract: the `tick` line, the servers, the tasks. Assumes nothing.
use mathlib.Core.List.{[]}
use Rattle.decimal.specs.Number.{digits}
use Rattle.decimal.proofs.Room.{put_field, put_last}
use Rattle.text.specs.Words.{tick_word}
use Rattle.text.specs.Line.{fields_of, write_line}
use Rattle.writer.proofs.Write.{put_rows}
use Rattle.writer.proofs.put_table.Goals as goal

pub returns : goal.returns
unfolding write_line fields_of tick_word
returns c =
    let t = c.args.t in
    let u = digits t.tick.0 in
    put_rows t
    (put_field tick_word u [] c.put_all-k.ensures (put_last u c.put_number-k.ensures c.put_byte-k.ensures))
    c.put_servers-k.ensures c.put_tasks.ensures
