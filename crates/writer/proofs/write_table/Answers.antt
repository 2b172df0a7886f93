-- `writer::write_table` meets its contract: 13 before 12, and the text is made before the lent room
-- changes. Assumes nothing.
use mathlib.Core.Path.{◌≡◌, sym, ◌∙◌}
use mathlib.Core.Bool.{true}
use Prim.Native.Nat.{ℕ, ◌≤◌}
use native.Mathlib.Omega.{arith}
use lib.ListN.{length, take, length-replicate}
use lib.Seq.{length-take-le}
use Rattle.table.specs.Rows.{rows_of}
use Rattle.table.specs.Rules.{table_keeps}
use Rattle.text.specs.Write.{write}
use Rattle.writer.proofs.Write.{wrote_unsound, wrote_short, wrote_all, made}
use Rattle.writer.proofs.write_table.Goals as goal
use Rattle.writer.proofs.write_table.Goals.{After-put_table-many, Else-not-table_keeps}

sound : (c : Else-not-table_keeps) → table_keeps c.args.t ≡ true
sound c = sym c.table_keeps.ensures ∙ c.if-not-table_keeps.false

record Made (c : After-put_table-many) : Type 0 where
  many : c.put_table-many.result ≡ length (write (rows_of c.args.t))
  text : take c.put_table-many.result c.put_table-many.new.room ≡ write (rows_of c.args.t)
  fits : c.put_table-many.result ≤ 16384

is_made : (c : After-put_table-many) → Made c
is_made c =
    let t = c.args.t in
    let m = made t (sym c.table_keeps.ensures ∙ c.if-not-table_keeps.false) (length-replicate {A = ℕ} 16384 0) c.put_table-many.ensures in
    record { many = m.0; text = m.1; fits = m.2 }

pub returns-then-not-table_keeps : goal.returns-then-not-table_keeps
returns-then-not-table_keeps c =
    let a = c.args in
    wrote_unsound a.t a.room.now (sym c.table_keeps.ensures ∙ c.if-not-table_keeps.true)

pub put_table-many-requires : goal.put_table-many-requires
put_table-many-requires c = sound (goal.at.put_table-many-requires c).Else-not-table_keeps

pub returns-then-room-many : goal.returns-then-room-many
returns-then-room-many c =
    let a = c.args in
    wrote_short a.t a.room.now (sound (goal.at.returns-then-room-many c).Else-not-table_keeps) (is_made (goal.at.returns-then-room-many c).After-put_table-many).many c.if-room-many.true

pub slice_bounds-text-end : goal.slice_bounds-text-end
slice_bounds-text-end c =
    omega (arith, (is_made (goal.at.slice_bounds-text-end c).After-put_table-many).fits)

pub slice_bounds-put_all-end : goal.slice_bounds-put_all-end
slice_bounds-put_all-end c =
    sym (length-take-le c.put_table-many.result c.put_table-many.new.room (omega (arith, (is_made (goal.at.slice_bounds-put_all-end c).After-put_table-many).fits)))

pub returns : goal.returns
returns c =
    let a = c.args in
    wrote_all a.t (sound (goal.at.returns c).Else-not-table_keeps) (is_made (goal.at.returns c).After-put_table-many).many (is_made (goal.at.returns c).After-put_table-many).text c.if-room-many.false c.put_all.ensures
