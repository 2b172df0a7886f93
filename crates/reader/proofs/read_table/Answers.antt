-- `reader::read_table` meets its contract: t holds the rows of the lines before line n, which
-- begins at `at`, so what the text says is what is said from there on. Assumes nothing.
use Rattle.std.proofs.Common.{Ok}
use mathlib.Core.Path.{◌≡◌, sym, ap, subst, ◌∙◌}
use Prim.Native.Nat.{ℕ, ◌+◌, ◌<◌}
use native.Mathlib.Omega.{arith}
use lib.Arith.{lt_of_le-ne}
use lib.ListN.{length}
use Rattle.decimal.specs.Lines.{line_feed, split}
use Rattle.table.specs.Rows.{rows_of, table_of}
use Rattle.table.specs.declared.Table.{Table}
use Rattle.text.specs.declared.ServerLine.{ServerLine}
use Rattle.text.specs.declared.TaskLine.{TaskLine}
use Rattle.text.specs.declared.Line.{Line}
use Rattle.text.specs.declared.Line.TheVariants.{OfServer, OfTask}
use Rattle.text.specs.Line.{read_line}
use Rattle.text.specs.Standing.{standing, grown}
use Rattle.text.specs.Read.{table_text, read, shown}
use Rattle.text.proofs.TableText.{text_long, text_short}
use Rattle.text.proofs.RoundTrip.{table_rows}
use Rattle.text.specs.TableText.{handed}
use Rattle.reader.specs.Inner.{Above}
use Rattle.reader.proofs.Inner.{ServerGrows, TaskGrows, server_grows, task_grows, above_next}
use Rattle.reader.proofs.Inner.{put_tick, put_server, put_task, put_none}
use Rattle.reader.proofs.Standing.{standing_by_lem}
use Rattle.reader.proofs.Read.{starts, starts_from}
use Rattle.reader.proofs.TableText.{line_lent, within, from_unclosed, from_end, from_broken, from_kept}
use Rattle.reader.proofs.read_table.Goals as goal
use Rattle.reader.proofs.read_table.Goals.{Else-e-text, In_default, in-OfTick, in-OfServer, in-OfTask, in-Malformed}

-- a line that is kept has room for its row
server_room : (n : ℕ) (t : Table) (x : Line) (s : ServerLine) → Above n t → standing n (rows_of t) x ≡ Ok tt →
    x ≡ OfServer s → ServerGrows t s
server_room n t x s a k e = server_grows n t a s (rw e at k)

task_room : (n : ℕ) (t : Table) (x : Line) (k : TaskLine) → Above n t → standing n (rows_of t) x ≡ Ok tt →
    x ≡ OfTask k → TaskGrows t k
task_room n t x k a h e = task_grows n t a k (rw e at h)

-- a line feed closes the line
closes : (c : Else-e-text) → c.loop-at.at + c.read_line-r.result.end < length c.args.text.now
closes c =
    let l = c.loop-at in
    let s = c.args.text.now in
    let said = line_lent read_line s l.at c.read_line-r.result c.read_line-r.ensures in
    lt_of_le-ne (within s l.at _ said.1 l.invariant.0) c.if-e-text.false

-- the line keeps the rules
keeps : (c : In_default) → standing c.loop-at.n (rows_of c.loop-at.t) c.read_line-r.result.said ≡ Ok tt
keeps c =
    let l = c.loop-at in
    sym (c.line_standing.ensures ∙ standing_by_lem l.n l.t l.invariant.2 _ _ c.named_rows-named.ensures) ∙ c.in_default.is

pub returns-then-text-gt-LONGEST_TEXT : goal.returns-then-text-gt-LONGEST_TEXT
unfolding read shown handed
returns-then-text-gt-LONGEST_TEXT c =
    ap (λ x. handed (shown x)) (text_long table_text c.args.text.now c.if-text-gt-LONGEST_TEXT.true)

pub loop-at-init : goal.loop-at-init
loop-at-init c = (
  omega arith,
  omega arith,
  starts c.no_table-t.result c.no_table-t.ensures,
  starts_from c.no_table-t.result (split line_feed c.args.text.now) c.no_table-t.ensures,
)

pub returns-then-at-text : goal.returns-then-at-text
unfolding read shown handed
returns-then-at-text c =
    let l = c.loop-at in
    let s = c.args.text.now in
    c.end.ensures
    ∙ ap (λ x. handed (shown x))
    (from_end table_text l.n (rows_of l.t) s l.at (omega arith)
    ∙ sym l.invariant.3
    ∙ text_short table_text s c.if-text-gt-LONGEST_TEXT.false)

pub overflow_add-e : goal.overflow_add-e
overflow_add-e c =
    let l = c.loop-at in
    let said = line_lent read_line c.args.text.now l.at c.read_line-r.result c.read_line-r.ensures in
    let ends = within c.args.text.now l.at _ said.1 l.invariant.0 in
    record { fits = omega (arith, ends, c.if-text-gt-LONGEST_TEXT.false) }

pub returns-then-e-text : goal.returns-then-e-text
unfolding read shown handed
returns-then-e-text c =
    let l = c.loop-at in
    let s = c.args.text.now in
    let said = line_lent read_line s l.at c.read_line-r.result c.read_line-r.ensures in
    ap (λ x. handed (shown x))
    (from_unclosed table_text l.n (rows_of l.t) s l.at (l.at + c.read_line-r.result.end) (ap (λ x. l.at + x) said.1)
    (omega (arith, c.if-e-text.true)) (lt_of_le-ne l.invariant.0 c.if-at-text.false)
    ∙ sym l.invariant.3
    ∙ text_short table_text s c.if-text-gt-LONGEST_TEXT.false)

pub returns-in-Err : goal.returns-in-Err
unfolding read shown handed
returns-in-Err c =
    let l = c.loop-at in
    let s = c.args.text.now in
    let x = c.read_line-r.result.said in
    let said = line_lent read_line s l.at c.read_line-r.result c.read_line-r.ensures in
    ap (λ x. handed (shown x))
    (from_broken table_text l.n (rows_of l.t) s l.at (l.at + c.read_line-r.result.end) (ap (λ x. l.at + x) said.1)
    x c.in-Err.fault.why c.in-Err.fault.field (closes (goal.at.returns-in-Err c).Else-e-text) said.0
    (sym (c.line_standing.ensures ∙ standing_by_lem l.n l.t l.invariant.2 _ _ c.named_rows-named.ensures) ∙ c.in-Err.is)
    ∙ sym l.invariant.3
    ∙ text_short table_text s c.if-text-gt-LONGEST_TEXT.false)

pub server_row-requires : goal.server_row-requires
server_row-requires c =
    let l = c.loop-at in
    let kept = keeps (goal.at.server_row-requires c).In_default in
    let g = server_room l.n l.t c.read_line-r.result.said c.in-OfServer.s l.invariant.2 kept c.in-OfServer.is in
    (g.tick, g.bounded)

pub bounds-t-t : goal.bounds-t-t
bounds-t-t c =
    let l = c.loop-at in
    let kept = keeps (goal.at.bounds-t-t c).In_default in
    let g = server_room l.n l.t c.read_line-r.result.said c.in-OfServer.s l.invariant.2 kept c.in-OfServer.is in
    g.room

pub task_row-requires : goal.task_row-requires
task_row-requires c =
    let l = c.loop-at in
    let kept = keeps (goal.at.task_row-requires c).In_default in
    let g = task_room l.n l.t c.read_line-r.result.said c.in-OfTask.k l.invariant.2 kept c.in-OfTask.is in
    (g.tick, g.keeps, g.home, g.degraded)

pub bounds-t-t-in-OfTask : goal.bounds-t-t-in-OfTask
bounds-t-t-in-OfTask c =
    let l = c.loop-at in
    let kept = keeps (goal.at.bounds-t-t-in-OfTask c).In_default in
    let g = task_room l.n l.t c.read_line-r.result.said c.in-OfTask.k l.invariant.2 kept c.in-OfTask.is in
    g.room

pub overflow_add-at : goal.overflow_add-at
overflow_add-at c =
    let ends = closes (goal.at.overflow_add-at c).Else-e-text in
    record { fits = omega (arith, ends, c.if-text-gt-LONGEST_TEXT.false) }

-- the table with the line's row
pub loop-at-preserved : goal.loop-at-preserved
loop-at-preserved c =
    let l = c.loop-at in
    let s = c.args.text.now in
    let x = c.read_line-r.result.said in
    let above = l.invariant.2 in
    let said = line_lent read_line s l.at c.read_line-r.result c.read_line-r.ensures in
    let ends = closes (goal.at.loop-at-preserved c).Else-e-text in
    let kept = keeps (goal.at.loop-at-preserved c).In_default in
    let put : c.match-r.t ≡ table_of (grown (rows_of l.t) x) =
    elim c.match-r.branch [
      | in-OfTick w ↦ w.t-is ∙ put_tick l.t (rows_of l.t) above.whole x _ w.in-OfTick.is
      | in-OfServer w ↦
          w.t-is ∙ put_server l.t (rows_of l.t) above.whole x _ _ w.in-OfServer.is
          (server_room l.n l.t x _ above kept w.in-OfServer.is).room w.server_row.ensures
      | in-OfTask w ↦
          w.t-is ∙ put_task l.t (rows_of l.t) above.whole x _ _ w.in-OfTask.is
          (task_room l.n l.t x _ above kept w.in-OfTask.is).room w.task_row.ensures
      | in-Malformed w ↦ w.t-is ∙ put_none l.t (rows_of l.t) above.whole x _ _ w.in-Malformed.is
    ] in (
      omega (arith, ends),
      omega arith,
      subst (Above (l.n + 1)) (sym put) (above_next l.n l.t x above kept),
      l.invariant.3
          ∙ from_kept table_text l.n (rows_of l.t) s l.at (l.at + c.read_line-r.result.end)
          (ap (λ x. l.at + x) said.1) x (rows_of c.match-r.t) ends said.0 kept
          (ap rows_of put ∙ table_rows (grown (rows_of l.t) x)),
    )
