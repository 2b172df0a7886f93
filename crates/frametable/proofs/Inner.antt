-- The rules row by row, joined to the rules of a whole table of a frame box. The laws of rows in use
-- and of pairs are crate table's. Assumes nothing.
use Rattle.std.proofs.Common.{map, is_none}
use mathlib.Core.Path.{◌≡◌, refl, ◌∙◌}
use mathlib.Core.Bool.{Bool, true, false, ◌&&◌}
use mathlib.Core.List.{[], ◌∷◌}
use native.Mathlib.Omega.{arith}
use lib.ListN.{length, get_or, take}
use lib.Seq.{length-take-le}
use Rattle.laws.specs.Choice.{every, within}
use Rattle.laws.proofs.Choice.{within_high}
use Rattle.table.specs.Pairs.{equal_rows}
use Rattle.table.specs.Rules.{tick_keeps}
use Rattle.table.proofs.Pairs.{differ_found, rows_equal}
use Rattle.table.proofs.Inner.{all_rows}
use Rattle.frametable.specs.declared.FrameTask.{FrameTask}
use Rattle.frametable.specs.declared.FrameTable.{FrameTable}
use Rattle.frametable.specs.Rows.{no_frame_task}
use Rattle.frametable.specs.Rules.{frame_task_keeps, frame_keeps, frame_table_keeps}
use Rattle.frametable.specs.Inner.{frame_tasks_keep}

-- the tests that the code asks in a row are the list of the rules
chain : (a b c d : Bool) → (a && b && c && d) ≡ (a && every (b ∷ true ∷ c ∷ d ∷ []))
unfolding every
chain false b c d = refl
chain true false c d = refl
chain true true false d = refl
chain true true true false = refl
chain true true true true = refl

held : (a x y : Bool) → (a ≡ true → x ≡ y) → (a && x) ≡ (a && y)
held false x y h = refl
held true x y h = h refl

pub tests-decide : (t : FrameTable) → length t.tasks ≡ 64 →
    let ks = take t.ntasks t.tasks in
    (within 1 64 t.ntasks
    && tick_keeps t.tick.0
    && frame_tasks_keep ks
    && is_none (equal_rows (map (λ (k : FrameTask). k.priority) ks)))
    ≡ frame_table_keeps t
unfolding frame_table_keeps frame_keeps
tests-decide t whole =
    let ks = take t.ntasks t.tasks in
    chain _ _ _ _
    ∙ held (within 1 64 t.ntasks) _ _ (λ e.
    let x = length-take-le t.ntasks t.tasks (omega (arith, within_high 1 64 t.ntasks e)) in
    rw (
      all_rows (λ k. every (frame_task_keeps k)) no_frame_task ks,
      rows_equal (λ (k : FrameTask). k.priority) no_frame_task ks,
      differ_found (length ks) (λ k. (get_or ks k no_frame_task).priority),
      x,
      e,
    ))
