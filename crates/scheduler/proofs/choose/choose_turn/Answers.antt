-- `scheduler::choose::choose_turn` meets its contract: what the two walks found is what is said.
-- Assumes nothing.
use Rattle.std.specs.Prelude.{Some}
use mathlib.Core.Path.{◌≡◌, refl, sym, ◌∙◌}
use mathlib.Core.List.{List}
use Prim.Native.Nat.{ℕ, ◌<◌}
use native.Mathlib.Omega.{arith}
use lib.ListN.{get_or}
use Rattle.table.proofs.Rules.{TableRules, table_rules}
use Rattle.table.specs.declared.Table.{Table}
use Rattle.run.specs.Found.{top_priority}
use Rattle.run.specs.Tick.{highest_able, highest_task}
use Rattle.laws.specs.Rows.{found_by}
use Rattle.scheduler.specs.declared.sheets.Sheets.{Sheets}
use Rattle.scheduler.specs.Inner.Choose.{with_tops}
use Rattle.scheduler.specs.Inner.Steps.{Shows}
use Rattle.scheduler.proofs.Inner.Columns.{owner_on, task_priority_on}
use Rattle.scheduler.proofs.Inner.Choose.{waits_found, says_idle, says_turn, row_there_lem, owner_row}
use Rattle.scheduler.proofs.choose.choose_turn.Goals as goal
use Rattle.scheduler.proofs.choose.choose_turn.Goals.{After-find_able}

rules : (t : Table) {ss : Sheets} → Shows t ss → TableRules t
rules t p = table_rules t p.sized p.keeps

-- what the first walk found, and what the second
module _ (c : After-find_able) (t : Table) (p : Shows t c.args.sheets.now) where
  abbrev height : List ℕ
  height = c.find_tops.new.found

  abbrev top : List ℕ
  top = c.find_tops.new.top

  tops_found : (height ≡ with_tops (top_priority t c.args.state.now) c.args.found.now)
      × ((i : ℕ) → i < 32 → found_by (get_or height i 0) (get_or top i 0) ≡ highest_task t c.args.state.now i)
  tops_found = c.find_tops.ensures t p.tasks (λ k h. ((rules t p).task k h).priority_low)

  able_row : c.find_able.result ≡ highest_able t c.args.state.now
  able_row =
      let r = rules t p in
      c.find_able.ensures t p.servers (λ i h. (r.server i h).priority_low)
      (λ i h.
      waits_found t c.args.state.now i (get_or height i 0) (get_or top i 0)
      (tops_found.1 i (omega (arith, r.servers_high))))

-- the row found is a row of some table
row_low : (c : After-find_able) (i : ℕ) → c.find_able.result ≡ Some i → i < 32
row_low c i e =
    let t = c.requires.0.0 in
    let p = c.requires.0.1 in
    omega (arith, row_there_lem t c.args.state.now i (sym (able_row c t p) ∙ e), (rules t p).servers_high)

pub find_tops-requires : goal.find_tops-requires
find_tops-requires c =
    let t = c.requires.0.0 in
    let p = c.requires.0.1 in
    let r = rules t p in
    let ss = c.args.sheets.now in
    let m = c.args.state.now.mode in (
      record {
        few = omega (arith, p.tasks.count, r.tasks_high);
        owner =
            λ k h.
            let l : k < t.ntasks = omega (arith, p.tasks.count) in
            omega (arith, owner_on t ss p.tasks k l m, owner_row t r m k l, r.servers_high);
        priority =
            λ k h.
            let l : k < t.ntasks = omega (arith, p.tasks.count) in
            omega (arith, task_priority_on t ss p.tasks k l, (r.task k l).priority_high);
      },
      c.requires.1,
      refl,
    )

pub find_able-requires : goal.find_able-requires
find_able-requires c =
    let p = c.requires.0.1 in
    omega (arith, p.servers.count, (rules c.requires.0.0 p).servers_high)

pub returns-in_default : goal.returns-in_default
returns-in_default c =
    let b = (goal.at.returns-in_default c).After-find_able in
    λ t p. (says_idle t c.args.state.now (sym (able_row b t p) ∙ c.in_default.is), (tops_found b t p).0)

pub bounds-found-server : goal.bounds-found-server
bounds-found-server c =
    omega (arith, row_low (goal.at.bounds-found-server c).After-find_able c.in-Some.server c.in-Some.is)

pub bounds-top-server : goal.bounds-top-server
bounds-top-server c = row_low (goal.at.bounds-top-server c).After-find_able c.in-Some.server c.in-Some.is

pub returns : goal.returns
returns c =
    let b = (goal.at.returns c).After-find_able in
    let s = c.args.state.now in
    let i = c.in-Some.server in
    λ t p.
    let q = tops_found b t p in (
      c.turn_of.ensures
          ∙ says_turn t s i (sym (able_row b t p) ∙ c.in-Some.is) (get_or (height b t p) i 0) (get_or (top b t p) i 0)
          (q.1 i (row_low b i c.in-Some.is)),
      q.0,
    )
