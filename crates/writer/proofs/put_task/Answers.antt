-- `writer::put_task` meets its contract: the line field by field. Assumes nothing.
use mathlib.Core.List.{[], ◌∷◌}
use Rattle.decimal.specs.Number.{digits}
use Rattle.decimal.specs.Lines.{tab, join}
use Rattle.decimal.proofs.Room.{put_field, put_last, put_length}
use Rattle.text.specs.Words.{task_word, level_word}
use Rattle.text.specs.Line.{field_at, times_fields, fields_of, write_line}
use Rattle.text.specs.Write.{task_back}
use Rattle.writer.proofs.put_task.Goals as goal

pub returns : goal.returns
unfolding write_line fields_of task_word join
returns c =
    let a = c.args in
    let s = task_back a.tick.0 a.x in
    let xs = times_fields s.limit in
    let vs = level_word s.level ∷ xs in
    let ps = digits s.priority ∷ vs in
    put_field task_word (digits s.home) (digits s.degraded ∷ ps) c.put_all-k.ensures
    (put_field (digits s.home) (digits s.degraded) ps c.put_field-k.ensures
    (put_field (digits s.degraded) (digits s.priority) vs c.put_field-k-2.ensures
    (put_field (digits s.priority) (level_word s.level) xs c.put_field-k-3.ensures
    (put_field (level_word s.level) (field_at xs 1) (field_at xs 2 ∷ field_at xs 3 ∷ []) c.put_level-k.ensures
    (put_last (join tab xs) c.put_times-k.ensures c.put_byte.ensures)))))

pub shape_of-room : goal.shape_of-room
shape_of-room c = put_length _ (returns c)
