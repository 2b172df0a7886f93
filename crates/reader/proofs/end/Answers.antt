-- `reader::end` meets its contract: without a task a line is missing, else the rows of the first
-- pair are told as lines. Assumes nothing.
use Rattle.std.proofs.Common.{Some}
use mathlib.Core.Path.{◌≡◌, refl, sym, ap, ◌∙◌}
use Prim.Native.Nat.{ℕ, ◌<◌}
use native.Mathlib.Omega.{arith}
use borrow.Author.Tests.{eq-eqb, ne_eqb}
use Rattle.table.specs.Pairs.{equal_servers, equal_tasks}
use Rattle.table.specs.Rows.{rows_of}
use Rattle.table.specs.declared.Table.{Table}
use Rattle.text.specs.TableText.{handed}
use Rattle.text.specs.Read.{shown}
use Rattle.reader.specs.Inner.{Above}
use Rattle.reader.proofs.Inner.{servers_count, tasks_count, tasks_nil}
use Rattle.reader.proofs.Read.{pair_below, ended_none, ended_servers, ended_tasks, ended_taken}
use Rattle.reader.proofs.end.Goals as goal

-- the rows of a pair that was found are rows in use
servers_low : (n i j : ℕ) (t : Table) → Above n t → equal_servers (rows_of t).servers ≡ Some (i, j) → (i < 32) × (j < 32)
servers_low n i j t a e =
    let count = servers_count t a.whole in pair_below _ 32 _ _ _ (omega (arith, count, a.servers)) e

tasks_low : (n i j : ℕ) (t : Table) → Above n t → equal_tasks (rows_of t).tasks ≡ Some (i, j) → (i < 64) × (j < 64)
tasks_low n i j t a e =
    let count = tasks_count t a.whole in pair_below _ 64 _ _ _ (omega (arith, count, a.tasks)) e

pub returns-then-t-eq0 : goal.returns-then-t-eq0
unfolding shown handed
returns-then-t-eq0 c =
    let t = c.args.t in
    let none = tasks_nil t c.requires.whole ∙ eq-eqb _ 0 c.if-t-eq0.true in
    ap (λ x. handed (shown x)) (ended_none c.args.n (rows_of t) none)

pub overflow_add-result : goal.overflow_add-result
overflow_add-result c =
    let low = servers_low _ _ _ _ c.requires (sym c.equal_servers.ensures ∙ c.in-Some.is) in
    record { fits = omega (arith, low.0) }

pub overflow_add-result-in-Some : goal.overflow_add-result-in-Some
overflow_add-result-in-Some c =
    let low = servers_low _ _ _ _ c.requires (sym c.equal_servers.ensures ∙ c.in-Some.is) in
    record { fits = omega (arith, low.1) }

pub returns-in-Some : goal.returns-in-Some
unfolding shown handed
returns-in-Some c =
    let t = c.args.t in
    let some = tasks_nil t c.requires.whole ∙ ne_eqb _ 0 c.if-t-eq0.false in
    ap (λ x. handed (shown x)) (ended_servers c.args.n (rows_of t) some (sym c.equal_servers.ensures ∙ c.in-Some.is))

pub overflow_add-result-in-Some-equal_tasks : goal.overflow_add-result-in-Some-equal_tasks
overflow_add-result-in-Some-equal_tasks c =
    let low = tasks_low _ _ _ _ c.requires (sym c.equal_tasks.ensures ∙ c.in-Some-equal_tasks.is) in
    record { fits = omega (arith, low.0, c.requires.servers) }

pub overflow_add-result-in-Some-equal_tasks-2 : goal.overflow_add-result-in-Some-equal_tasks-2
overflow_add-result-in-Some-equal_tasks-2 c =
    let low = tasks_low _ _ _ _ c.requires (sym c.equal_tasks.ensures ∙ c.in-Some-equal_tasks.is) in
    record { fits = omega (arith, low.1, c.requires.servers) }

pub returns-in-Some-equal_tasks : goal.returns-in-Some-equal_tasks
unfolding shown handed
returns-in-Some-equal_tasks c =
    let t = c.args.t in
    let some = tasks_nil t c.requires.whole ∙ ne_eqb _ 0 c.if-t-eq0.false in
    ap (λ x. handed (shown x))
    (ended_tasks c.args.n (rows_of t) some (sym c.equal_servers.ensures ∙ c.in_default.is)
    (servers_count t c.requires.whole) (sym c.equal_tasks.ensures ∙ c.in-Some-equal_tasks.is))

pub returns : goal.returns
unfolding shown handed
returns c =
    let t = c.args.t in
    let some = tasks_nil t c.requires.whole ∙ ne_eqb _ 0 c.if-t-eq0.false in
    ap handed
    (ended_taken c.args.n (rows_of t) some (sym c.equal_servers.ensures ∙ c.in_default.is) t refl
    c.requires.whole
    (sym c.equal_tasks.ensures ∙ c.in_default-equal_tasks.is))
