-- `reader::frame::read_frame` meets its contract: t holds the rows of the lines before line n, which
-- begins at `at`, so what the text says is what is said from there on. Assumes nothing.
use Rattle.std.proofs.Common.{Ok}
use mathlib.Core.Path.{◌≡◌, sym, ap, subst, ◌∙◌}
use Prim.Native.Nat.{ℕ, ◌+◌, ◌<◌}
use native.Mathlib.Omega.{arith}
use lib.Arith.{lt_of_le-ne}
use lib.ListN.{length}
use Rattle.decimal.specs.Lines.{line_feed, split}
use Rattle.text.proofs.TableText.{text_long, text_short}
use Rattle.frametable.specs.declared.FrameTable.{FrameTable}
use Rattle.frametable.specs.declared.FrameTaskLine.{FrameTaskLine}
use Rattle.frametable.specs.declared.FrameLine.{FrameLine}
use Rattle.frametable.specs.declared.FrameLine.TheVariants.{OfTask}
use Rattle.frametable.specs.Rows.{frame_rows_of, frame_table_of}
use Rattle.frametable.specs.Line.{read_frame_line}
use Rattle.frametable.specs.Text.{frame_standing, frame_grown, frame_text, frame_read, frame_shown}
use Rattle.text.specs.TableText.{handed}
use Rattle.reader.specs.Inner.Frame.{FrameAbove}
use Rattle.reader.proofs.FrameText.{frame_table_rows, frame_standing_by_lem, frame_starts, frame_starts_from}
use Rattle.reader.proofs.FrameText.{FrameTaskGrows, frame_task_grows, frame_above_next, frame_put_tick, frame_put_task, frame_put_none}
use Rattle.reader.proofs.TableText.{line_lent, within, from_unclosed, from_end, from_broken, from_kept}
use Rattle.reader.proofs.frame.read_frame.Goals as goal
use Rattle.reader.proofs.frame.read_frame.Goals.{Else-e-text, In_default, in-OfTick, in-OfTask, in-Malformed}

-- a line that is kept has room for its row
task_room : (n : ℕ) (t : FrameTable) (x : FrameLine) (k : FrameTaskLine) → FrameAbove n t → frame_standing n (frame_rows_of t) x ≡ Ok tt →
    x ≡ OfTask k → FrameTaskGrows t k
task_room n t x k a h e = frame_task_grows n t a k (rw e at h)

-- a line feed closes the line
closes : (c : Else-e-text) → c.loop-at.at + c.read_line-r.result.end < length c.args.text.now
closes c =
    let l = c.loop-at in
    let s = c.args.text.now in
    let said = line_lent read_frame_line s l.at c.read_line-r.result c.read_line-r.ensures in
    lt_of_le-ne (within s l.at _ said.1 l.invariant.0) c.if-e-text.false

-- the line keeps the rules
keeps : (c : In_default) → frame_standing c.loop-at.n (frame_rows_of c.loop-at.t) c.read_line-r.result.said ≡ Ok tt
keeps c =
    let l = c.loop-at in
    sym (c.line_standing.ensures ∙ frame_standing_by_lem l.t l.invariant.2.whole l.n _) ∙ c.in_default.is

pub returns-then-text-gt-LONGEST_TEXT : goal.returns-then-text-gt-LONGEST_TEXT
unfolding frame_read frame_shown handed
returns-then-text-gt-LONGEST_TEXT c =
    ap (λ x. handed (frame_shown x)) (text_long frame_text c.args.text.now c.if-text-gt-LONGEST_TEXT.true)

pub loop-at-init : goal.loop-at-init
loop-at-init c = (
  omega arith,
  omega arith,
  frame_starts c.no_frame_table-t.result c.no_frame_table-t.ensures,
  frame_starts_from c.no_frame_table-t.result (split line_feed c.args.text.now) c.no_frame_table-t.ensures,
)

pub returns-then-at-text : goal.returns-then-at-text
unfolding frame_read frame_shown handed
returns-then-at-text c =
    let l = c.loop-at in
    let s = c.args.text.now in
    c.end.ensures
    ∙ ap (λ x. handed (frame_shown x))
    (from_end frame_text l.n (frame_rows_of l.t) s l.at (omega arith)
    ∙ sym l.invariant.3
    ∙ text_short frame_text s c.if-text-gt-LONGEST_TEXT.false)

pub overflow_add-e : goal.overflow_add-e
overflow_add-e c =
    let l = c.loop-at in
    let said = line_lent read_frame_line c.args.text.now l.at c.read_line-r.result c.read_line-r.ensures in
    let ends = within c.args.text.now l.at _ said.1 l.invariant.0 in
    record { fits = omega (arith, ends, c.if-text-gt-LONGEST_TEXT.false) }

pub returns-then-e-text : goal.returns-then-e-text
unfolding frame_read frame_shown handed
returns-then-e-text c =
    let l = c.loop-at in
    let s = c.args.text.now in
    let said = line_lent read_frame_line s l.at c.read_line-r.result c.read_line-r.ensures in
    ap (λ x. handed (frame_shown x))
    (from_unclosed frame_text l.n (frame_rows_of l.t) s l.at (l.at + c.read_line-r.result.end) (ap (λ x. l.at + x) said.1)
    (omega (arith, c.if-e-text.true)) (lt_of_le-ne l.invariant.0 c.if-at-text.false)
    ∙ sym l.invariant.3
    ∙ text_short frame_text s c.if-text-gt-LONGEST_TEXT.false)

pub returns-in-Err : goal.returns-in-Err
unfolding frame_read frame_shown handed
returns-in-Err c =
    let l = c.loop-at in
    let s = c.args.text.now in
    let x = c.read_line-r.result.said in
    let said = line_lent read_frame_line s l.at c.read_line-r.result c.read_line-r.ensures in
    ap (λ x. handed (frame_shown x))
    (from_broken frame_text l.n (frame_rows_of l.t) s l.at (l.at + c.read_line-r.result.end) (ap (λ x. l.at + x) said.1)
    x c.in-Err.fault.why c.in-Err.fault.field (closes (goal.at.returns-in-Err c).Else-e-text) said.0
    (sym (c.line_standing.ensures ∙ frame_standing_by_lem l.t l.invariant.2.whole l.n _) ∙ c.in-Err.is)
    ∙ sym l.invariant.3
    ∙ text_short frame_text s c.if-text-gt-LONGEST_TEXT.false)

pub task_row-requires : goal.task_row-requires
task_row-requires c =
    let l = c.loop-at in
    let kept = keeps (goal.at.task_row-requires c).In_default in
    let g = task_room l.n l.t c.read_line-r.result.said c.in-OfTask.k l.invariant.2 kept c.in-OfTask.is in
    (g.tick, g.keeps)

pub bounds-t-t : goal.bounds-t-t
bounds-t-t c =
    let l = c.loop-at in
    let kept = keeps (goal.at.bounds-t-t c).In_default in
    let g = task_room l.n l.t c.read_line-r.result.said c.in-OfTask.k l.invariant.2 kept c.in-OfTask.is in
    g.room

pub overflow_add-at : goal.overflow_add-at
overflow_add-at c =
    let ends = closes (goal.at.overflow_add-at c).Else-e-text in
    record { fits = omega (arith, ends, c.if-text-gt-LONGEST_TEXT.false) }

-- the table with the line's row
pub loop-at-preserved : goal.loop-at-preserved
loop-at-preserved c =
    let l = c.loop-at in
    let s = c.args.text.now in
    let x = c.read_line-r.result.said in
    let above = l.invariant.2 in
    let said = line_lent read_frame_line s l.at c.read_line-r.result c.read_line-r.ensures in
    let ends = closes (goal.at.loop-at-preserved c).Else-e-text in
    let kept = keeps (goal.at.loop-at-preserved c).In_default in
    let put : c.match-r.t ≡ frame_table_of (frame_grown (frame_rows_of l.t) x) =
    elim c.match-r.branch [
      | in-OfTick w ↦ w.t-is ∙ frame_put_tick l.t (frame_rows_of l.t) above.whole x _ w.in-OfTick.is
      | in-OfTask w ↦
          w.t-is ∙ frame_put_task l.t (frame_rows_of l.t) above.whole x _ _ w.in-OfTask.is
          (task_room l.n l.t x _ above kept w.in-OfTask.is).room w.task_row.ensures
      | in-Malformed w ↦ w.t-is ∙ frame_put_none l.t (frame_rows_of l.t) above.whole x _ _ w.in-Malformed.is
    ] in (
      omega (arith, ends),
      omega arith,
      subst (FrameAbove (l.n + 1)) (sym put) (frame_above_next l.n l.t x above kept),
      l.invariant.3
          ∙ from_kept frame_text l.n (frame_rows_of l.t) s l.at (l.at + c.read_line-r.result.end)
          (ap (λ x. l.at + x) said.1) x (frame_rows_of c.match-r.t) ends said.0 kept
          (ap frame_rows_of put ∙ frame_table_rows (frame_grown (frame_rows_of l.t) x)),
    )
