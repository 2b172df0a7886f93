-- Only contracts of inner functions and proofs cite this file; a buyer need not read it. It says what
-- the code asks of some rows of a table. `specs/Rules.antt` says the rules.
use Rattle.std.specs.Prelude.{◌≡◌, Bool, List, length}
use Rattle.laws.specs.Choice.{every}
use Rattle.std.specs.List.{list_all}
use Rattle.frametable.specs.declared.FrameTask.{FrameTask}
use Rattle.frametable.specs.declared.FrameTable.{FrameTable}
use Rattle.frametable.specs.Rules.{frame_task_keeps}

-- tasks keep the rules of a row
abbrev pub frame_tasks_keep : List FrameTask → Bool
frame_tasks_keep ks = list_all (λ k. every (frame_task_keeps k)) ks

-- every table that code holds has its array's length; a table of the definitions, whose rows are a
-- list, is told so
pub record FrameSized (t : FrameTable) : Type 0 where
  pub tasks : length t.tasks ≡ 64
