-- `verdict::Row::higher` meets its contract. The loop's invariant: the servers found are those of the
-- rows passed that delay the row. Assumes nothing.
use mathlib.Core.Path.{refl, ap}
use Prim.Native.Nat.{◌≤◌, ◌<◌}
use native.Mathlib.Omega.{arith}
use lib.ListN.{length-take}
use Rattle.units.specs.declared.Ticks.{Ticks}
use Rattle.table.specs.declared.Server.{Server}
use Rattle.table.specs.Rows.{in_mode}
use Rattle.table.proofs.Rules.{ServerRules, table_rules, few_servers}
use Rattle.verdict.specs.declared.Row.{Row}
use Rattle.verdict.proofs.Delays.{at_hand, delays_at, none_passed, lower_passed, idle_passed, higher_passed, all_passed}
use Rattle.verdict.proofs.Row.higher.Goals as goal
use Rattle.verdict.proofs.Row.higher.Goals.{In-loop-s, then-s-priority-via-then-s-priority, then-s-priority-via-else-s-priority+then-capacity-eq0}

few : (s : Row) → s.table.now.nservers ≤ 32
few s = few_servers s.table.now s.keeps

pub loop-s-init : goal.loop-s-init
loop-s-init c =
    let s = c.args.self.now in
    none_passed s.table.now c.args.m s.row _ refl

-- the row at hand is one in use
below : (c : In-loop-s) → c.loop-s.s-index < c.args.self.now.table.now.nservers
below c =
    let t = c.args.self.now.table.now in
    omega (arith, length-take t.nservers t.servers, c.loop-s-test.true)

rules : (c : In-loop-s) → ServerRules c.args.self.now.table.now c.loop-s.s-index
rules c =
    let s = c.args.self.now in
    (table_rules s.table.now s.sized s.keeps).server c.loop-s.s-index (below c)

pub loop-s-preserved-then-s-priority : goal.loop-s-preserved-then-s-priority
loop-s-preserved-then-s-priority c =
    let s = c.args.self.now in
    let m = c.args.m in
    let l = c.loop-s in
    let e = at_hand s.table.now l.s-index (below (goal.at.loop-s-preserved-then-s-priority c).In-loop-s) in
    elim c.then-s-priority.branch [
      | then-s-priority-via-then-s-priority w ↦
          lower_passed s.table.now m s.row l.delayers l.s-index l.count l.invariant
          (omega (arith, ap (λ (x : Server). x.priority) e, w.if-s-priority.true))
      | then-s-priority-via-else-s-priority+then-capacity-eq0 w ↦
          idle_passed s.table.now m s.row l.delayers l.s-index l.count l.invariant
          (omega (
            arith,
            ap (λ (x : Ticks). x.0) c.in_mode-capacity.ensures,
            ap (λ (x : Server). (in_mode x.capacity m).0) e,
            w.if-capacity-eq0.true,
          ))
    ]

pub new-requires : goal.new-requires
new-requires c =
    let i = (goal.at.new-requires c).In-loop-s in
    let e = at_hand c.args.self.now.table.now c.loop-s.s-index (below i) in
    let row = rules i in
    let p = ap (λ (x : Server). x.period.0) e in (
      omega (arith, p, row.period_low),
      omega (arith, p, row.period_high),
      omega (
        arith,
        p,
        ap (λ (x : Ticks). x.0) c.in_mode-capacity.ensures,
        ap (λ (x : Server). (in_mode x.capacity c.args.m).0) e,
        row.capacity c.args.m,
      ),
    )

pub loop-s-preserved : goal.loop-s-preserved
loop-s-preserved c =
    let s = c.args.self.now in
    let t = s.table.now in
    let l = c.loop-s in
    let b = below (goal.at.loop-s-preserved c).In-loop-s in
    let e = at_hand t l.s-index b in
    higher_passed t c.args.m s.row l.delayers l.s-index l.count l.invariant c.new.result
    (omega (arith, b, few s))
    (omega (arith, ap (λ (x : Server). x.priority) e, c.if-s-priority.false))
    (delays_at t c.args.m l.s-index _ c.in_mode-capacity.result.0 c.new.result e
    (ap (λ (x : Ticks). x.0) c.in_mode-capacity.ensures)
    c.new.ensures)

pub returns : goal.returns
returns c =
    let s = c.args.self.now in
    let t = s.table.now in
    let l = c.loop-s in
    all_passed t c.args.m s.row l.delayers l.s-index l.count l.invariant
    (omega (arith, length-take t.nservers t.servers, s.sized.servers, few s))
    (omega (arith, length-take t.nservers t.servers, s.sized.servers, few s))
