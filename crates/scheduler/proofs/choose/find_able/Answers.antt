-- `scheduler::choose::find_able` meets its contract: the walk keeps the highest able server among
-- the servers passed. Assumes nothing.
use mathlib.Core.Path.{◌≡◌, refl, sym, ap, ◌∙◌}
use mathlib.Core.Bool.{◌&&◌, ◌||◌}
use Prim.Native.Nat.{◌+◌, ◌<◌}
use native.Mathlib.Omega.{arith}
use lib.Dec.{ltb}
use lib.ListN.{get_or}
use Rattle.table.specs.declared.Table.{Table}
use Rattle.run.specs.Tick.{able}
use Rattle.table.specs.Rows.{priority_at}
use Rattle.laws.proofs.Highest.{found_there, top_skip, top_take, top_keep}
use Rattle.scheduler.specs.Inner.Columns.{ServersOn}
use Rattle.scheduler.proofs.Inner.Choose.{force_is, able_is, able_found}
use Rattle.scheduler.proofs.Inner.Columns.{priority_on}
use Rattle.scheduler.proofs.choose.find_able.Goals as goal
use Rattle.scheduler.proofs.choose.find_able.Goals.{then-high-priority+then-is_able, then-high-priority+else-is_able, else-high-priority}

pub loop-i-preserved : goal.loop-i-preserved
loop-i-preserved c =
    let l = c.loop-i in
    let ss = c.args.sheets.now in
    let s = c.args.state.now in
    let there : (t : Table) → ServersOn t ss → l.i < t.nservers = λ t on. omega (arith, c.loop-i-test.true, on.count) in
    let column = ap (λ y. get_or ss.servers (y + l.i) 0) c.in_mode-column.ensures in
    elim c.if-high-priority.branch [
      | then-high-priority+then-is_able v ↦
          λ t on g f.
          let h = there t on in
          rw (v.best-is, v.high-is, priority_on t ss on l.i h)
          (top_take (able t s) (priority_at t) l.i l.high l.best (l.invariant t on g f)
          (sym (able_is t s ss l.i v.count_if-force.result (get_or c.args.found.now l.i 0) on h
          (v.count_if-force.ensures ∙ force_is t s ss l.i _ _ on h column refl) (f l.i h))
          ∙ ap (λ b. ltb (get_or s.used l.i 0) v.count_if-force.result && (b || ltb 0 (get_or c.args.found.now l.i 0))) (sym v.is_timed.ensures) ∙ sym v.is_able.ensures ∙ v.if-is_able.true)
          (rw (priority_on t ss on l.i h) at v.if-high-priority.true))
      | then-high-priority+else-is_able v ↦
          λ t on g f.
          let h = there t on in
          rw (v.best-is, v.high-is)
          (top_skip (able t s) (priority_at t) l.i l.high l.best (l.invariant t on g f)
          (sym (able_is t s ss l.i v.count_if-force.result (get_or c.args.found.now l.i 0) on h
          (v.count_if-force.ensures ∙ force_is t s ss l.i _ _ on h column refl) (f l.i h))
          ∙ ap (λ b. ltb (get_or s.used l.i 0) v.count_if-force.result && (b || ltb 0 (get_or c.args.found.now l.i 0))) (sym v.is_timed.ensures) ∙ sym v.is_able.ensures ∙ v.if-is_able.false))
      | else-high-priority v ↦
          λ t on g f.
          let h = there t on in
          rw (v.best-is, v.high-is)
          (top_keep (able t s) (priority_at t) l.i l.high l.best (l.invariant t on g f)
          (rw (priority_on t ss on l.i h) at v.if-high-priority.false) (g l.i h))
    ]

pub returns-then-high-eq0 : goal.returns-then-high-eq0
returns-then-high-eq0 c =
    λ t on g f.
    let l = c.loop-i in
    let q : l.i ≡ t.nservers = omega (arith, on.count) in
    rw c.if-high-eq0.true at (able_found t c.args.state.now l.high l.best (rw q at (l.invariant t on g f)))

pub returns-else-high-eq0 : goal.returns-else-high-eq0
returns-else-high-eq0 c =
    λ t on g f.
    let l = c.loop-i in
    let q : l.i ≡ t.nservers = omega (arith, on.count) in
    sym (found_there l.high l.best (omega arith))
    ∙ able_found t c.args.state.now l.high l.best (rw q at (l.invariant t on g f))
