-- `writer::put_server` meets its contract: the line field by field. Assumes nothing.
use mathlib.Core.Path.{ap}
use mathlib.Core.List.{[], ◌∷◌, ◌++◌}
use Rattle.decimal.specs.Number.{digits}
use Rattle.decimal.specs.Lines.{tab, join}
use Rattle.decimal.proofs.Room.{put_as, put_field, put_last, put_length}
use Rattle.text.specs.Words.{server_word, kind_word}
use Rattle.text.specs.Line.{field_at, times_fields, last_fields, fields_of, write_line}
use Rattle.text.specs.Write.{server_back}
use Rattle.writer.proofs.Write.{put_behind}
use Rattle.writer.proofs.put_server.Goals as goal

pub returns : goal.returns
unfolding write_line fields_of server_word join
returns c =
    let a = c.args in
    let s = server_back a.tick.0 a.s in
    let ys = times_fields s.capacity in
    let zs = last_fields s.phase in
    let xs = ys ++ zs in
    let ts = digits s.period.0 ∷ xs in
    let ps = digits s.priority ∷ ts in
    put_field server_word (digits s.partition) (kind_word s.kind ∷ ps) c.put_all-k.ensures
    (put_field (digits s.partition) (kind_word s.kind) ps c.put_field-k.ensures
    (put_field (kind_word s.kind) (digits s.priority) ts c.put_kind-k.ensures
    (put_field (digits s.priority) (digits s.period.0) xs c.put_field-k-2.ensures
    (put_field (digits s.period.0) (field_at ys 1) (field_at ys 2 ∷ field_at ys 3 ∷ zs) c.put_time-k.ensures
    (put_last (join tab xs)
    (put_behind (field_at ys 1) (field_at ys 2 ∷ field_at ys 3 ∷ []) zs c.put_times-k.ensures
    (put_as (ap (λ c. join tab ([] ∷ last_fields c)) c.phase_back.ensures) c.put_last-k.ensures))
    c.put_byte.ensures)))))

pub shape_of-room : goal.shape_of-room
shape_of-room c = put_length _ (returns c)
