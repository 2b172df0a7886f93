-- 01, Tables: "Tables and states are compared on the rows in use." And How we will read your
-- contracts: "Show that any two outcomes allowed by it are equal." proofs/InUse.antt proves it.
use Rattle.std.specs.Prelude.{◌≡◌, true, List, ℕ, ◌<◌}
use Rattle.table.specs.declared.Mode.{Mode}
use Rattle.table.specs.declared.Table.{Table}
use Rattle.table.specs.Rows.{rows_of}
use Rattle.table.specs.Rules.{table_keeps}
use Rattle.text.specs.Write.{wrote}
use Rattle.verdict.specs.Verdict.{verdict_of}
use Rattle.run.specs.declared.Run.{Run}
use Rattle.events.specs.declared.Event.{Event}
use Rattle.run.specs.State.{used_at, elapsed_at, waiting_at, runs_at}
use Rattle.run.specs.Sound.{sound}
use Rattle.run.specs.Events.{after, answers}
use Rattle.promises.specs.Condition2.{OneTick, RunSized, ByTheRules}

-- two tables that are the same but for rows that are not in use
pub record SameRows (t u : Table) : Type 0 where
  pub nservers : t.nservers ≡ u.nservers
  pub ntasks : t.ntasks ≡ u.ntasks
  pub rows : rows_of t ≡ rows_of u

-- two runs that are the same but for rows that are not in use
pub record SameInUse (r q : Run) : Type 0 where
  pub tables : SameRows r.table q.table
  pub mode : r.state.mode ≡ q.state.mode
  pub used : (i : ℕ) → i < r.table.nservers → used_at r.state i ≡ used_at q.state i
  pub elapsed : (i : ℕ) → i < r.table.nservers → elapsed_at r.state i ≡ elapsed_at q.state i
  pub waiting : (k : ℕ) → k < r.table.ntasks → waiting_at r.state k ≡ waiting_at q.state k
  pub runs : (k : ℕ) → k < r.table.ntasks → runs_at r.state k ≡ runs_at q.state k
  pub last : r.state.last ≡ q.state.last
  pub ticks : r.state.ticks ≡ q.state.ticks
  pub accepted : r.state.accepted ≡ q.state.accepted

-- The rules of a tick settle what it says and the run after it: two ticks that go by the rules, on
-- runs that are the same on the rows in use, say the same and leave the same.
abbrev pub RulesSettle : Type 0
RulesSettle =
    (x y : OneTick) → sound x.before ≡ true → x.mark ≡ y.mark →
    SameInUse x.before y.before → ByTheRules x → ByTheRules y →
    (x.says ≡ y.says) × SameInUse x.after y.after

-- Two runs that are the same on the rows in use answer any events alike, and stay the same.
abbrev pub InUse : Type 0
InUse =
    (r q : Run) (es : List Event) → RunSized r → RunSized q → SameInUse r q →
    (answers r es ≡ answers q es) × SameInUse (after r es) (after q es)

-- Two tables that are the same on the rows in use keep the rules alike, are written alike and have
-- the same verdicts.
abbrev pub TablesInUse : Type 0
TablesInUse =
    (t u : Table) → SameRows t u →
    (table_keeps t ≡ table_keeps u)
    × ((room : List ℕ) → wrote t room ≡ wrote u room)
    × ((i : ℕ) (m : Mode) → verdict_of t i m ≡ verdict_of u i m)
