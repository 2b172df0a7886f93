-- The contracts of crate table settle what they answer: two outcomes that one of them allows equal
-- the same definition's value. Assumes nothing.
use Prim.Native.Nat.{ℕ}
use mathlib.Core.Path.{◌≡◌, refl, sym, ◌∙◌}
use mathlib.Core.List.{List, [], Mem, not-mem-nil}
use denote.RattleType.{RattleType}
use denote.Param.Laws.{Laws, IsCopy}
use mir.Syntax.{Dict}
use Rattle.std.specs.declared.clone.Clone.{Ghosts as Clones}
use Rattle.table.specs.declared.HasPriority.{Ghosts as Priorities}
use Rattle.table.proofs.number_of
use Rattle.table.proofs.no_table
use Rattle.table.proofs.equal_servers
use Rattle.table.proofs.equal_tasks
use Rattle.table.proofs.in_mode
use Rattle.table.proofs.equal_rows
use Rattle.table.proofs.largest_of
use Rattle.table.proofs.is_low
use Rattle.table.proofs.is_d2
use Rattle.table.proofs.mode_value
use Rattle.table.proofs.mode_said
use Rattle.table.proofs.row_in
use Rattle.table.proofs.rows_fault
use Rattle.table.proofs.task_fault
use Rattle.table.proofs.table_keeps
use Rattle.outcomes.specs.OneOutcome.{OneOutcome}
use Rattle.outcomes.proofs.OneOutcome.{settled}

pub number_of_settled : OneOutcome number_of.Kinds.ps number_of.Kinds.r number_of.Reads.Asked number_of.Reads.Learnt
number_of_settled = settled (λ κs a. tt) (λ κs a x y p q. (p ∙ sym q, refl))

pub no_table_settled : OneOutcome no_table.Kinds.ps no_table.Kinds.r no_table.Reads.Asked no_table.Reads.Learnt
no_table_settled = settled (λ κs a. tt) (λ κs a x y p q. (p ∙ sym q, refl))

pub equal_servers_settled : OneOutcome equal_servers.Kinds.ps equal_servers.Kinds.r equal_servers.Reads.Asked equal_servers.Reads.Learnt
equal_servers_settled = settled (λ κs a. tt) (λ κs a x y p q. (p ∙ sym q, refl))

pub equal_tasks_settled : OneOutcome equal_tasks.Kinds.ps equal_tasks.Kinds.r equal_tasks.Reads.Asked equal_tasks.Reads.Learnt
equal_tasks_settled = settled (λ κs a. tt) (λ κs a x y p q. (p ∙ sym q, refl))

-- A generic function is settled at every type of values that hold no reference.
none_lent : (lives : List ℕ) → lives ≡ [] → (k : ℕ) → Mem k lives → ⊥
none_lent lives e k m = not-mem-nil (rw e at m)

pub in_mode_settled : (T : RattleType) (l : Laws T) (c : IsCopy T) (g : Clones T.Denot) (d : Dict) → T.lives ≡ [] →
    OneOutcome (in_mode.Kinds.ps T l c) (in_mode.Kinds.r T l c) (in_mode.Reads.Asked T l c g d)
    (in_mode.Reads.Learnt T l c g d)
in_mode_settled T l c g d e =
    settled (λ κs a k m. absurd (none_lent T.lives e k m)) (λ κs a x y p q. (p ∙ sym q, refl))

pub equal_rows_settled : (T : RattleType) (l : Laws T) (g : Priorities T.Denot) (d : Dict) → T.lives ≡ [] →
    OneOutcome (equal_rows.Kinds.ps T l) (equal_rows.Kinds.r T l) (equal_rows.Reads.Asked T l g d)
    (equal_rows.Reads.Learnt T l g d)
equal_rows_settled T l g d e =
    settled (λ κs a k m. absurd (none_lent T.lives e k m)) (λ κs a x y p q. (p ∙ sym q, refl))

pub largest_of_settled : OneOutcome largest_of.Kinds.ps largest_of.Kinds.r largest_of.Reads.Asked largest_of.Reads.Learnt
largest_of_settled = settled (λ κs a. tt) (λ κs a x y p q. (p ∙ sym q, refl))

pub is_low_settled : OneOutcome is_low.Kinds.ps is_low.Kinds.r is_low.Reads.Asked is_low.Reads.Learnt
is_low_settled = settled (λ κs a. tt) (λ κs a x y p q. (p ∙ sym q, refl))

pub is_d2_settled : OneOutcome is_d2.Kinds.ps is_d2.Kinds.r is_d2.Reads.Asked is_d2.Reads.Learnt
is_d2_settled = settled (λ κs a. tt) (λ κs a x y p q. (p ∙ sym q, refl))

pub mode_value_settled : OneOutcome mode_value.Kinds.ps mode_value.Kinds.r mode_value.Reads.Asked mode_value.Reads.Learnt
mode_value_settled = settled (λ κs a. tt) (λ κs a x y p q. (p ∙ sym q, refl))

pub mode_said_settled : OneOutcome mode_said.Kinds.ps mode_said.Kinds.r mode_said.Reads.Asked mode_said.Reads.Learnt
mode_said_settled = settled (λ κs a. tt) (λ κs a x y p q. (p ∙ sym q, refl))

pub row_in_settled : OneOutcome row_in.Kinds.ps row_in.Kinds.r row_in.Reads.Asked row_in.Reads.Learnt
row_in_settled = settled (λ κs a. tt) (λ κs a x y p q. (p ∙ sym q, refl))

pub rows_fault_settled : OneOutcome rows_fault.Kinds.ps rows_fault.Kinds.r rows_fault.Reads.Asked rows_fault.Reads.Learnt
rows_fault_settled = settled (λ κs a. tt) (λ κs a x y p q. (p ∙ sym q, refl))

pub task_fault_settled : OneOutcome task_fault.Kinds.ps task_fault.Kinds.r task_fault.Reads.Asked task_fault.Reads.Learnt
task_fault_settled = settled (λ κs a. tt) (λ κs a x y p q. (p ∙ sym q, refl))

pub table_keeps_settled : OneOutcome table_keeps.Kinds.ps table_keeps.Kinds.r table_keeps.Reads.Asked table_keeps.Reads.Learnt
table_keeps_settled = settled (λ κs a. tt) (λ κs a x y p q. (p ∙ sym q, refl))
