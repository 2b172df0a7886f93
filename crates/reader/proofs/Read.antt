-- A whole text, read line by line: the table begins without rows, and at the end the rows are
-- compared, and lines are told from rows. Assumes nothing.
use Rattle.std.proofs.Common.{None, Some, Ok}
use mathlib.Core.Path.{◌≡◌, sym, ap, ◌∙◌, subst}
use mathlib.Core.Bool.{true, false}
use mathlib.Core.List.{List}
use Prim.Native.Nat.{ℕ, ◌+◌, ◌≤◌, ◌<◌}
use native.Mathlib.Omega.{arith}
use lib.ListN.{length}
use Rattle.table.specs.declared.Table.{Table}
use Rattle.table.specs.declared.Refusal.TheVariants.{Malformed}
use Rattle.table.specs.Pairs.{first_pair, equal_servers, equal_tasks}
use Rattle.table.specs.Rows.{Rows, no_rows, rows_of, table_of}
use Rattle.table.proofs.Pairs.{pair_found}
use Rattle.text.specs.Standing.{is_nil}
use Rattle.text.specs.TableText.{read_lines, Read}
use Rattle.text.specs.Read.{refused, equal, compared, ended, table_text, shown}
use Rattle.reader.specs.Inner.{Above}
use Rattle.text.proofs.RoundTrip.{table_rows}
use Rattle.reader.proofs.Inner.{above_first}

-- both rows of an equal pair are below the count
pub pair_below : (m n : ℕ) (q : ℕ → ℕ) (i j : ℕ) → m ≤ n → first_pair m q ≡ Some (i, j) →
    (i < n) × (j < n)
pair_below m n q i j h e = let w = pair_found m q i j e in omega (arith, w.ordered, w.below)

-- the end: without a task a line is missing; else servers, then tasks
pub ended_none : (n : ℕ) (a : Rows) → is_nil a.tasks ≡ true → refused Malformed n 0 ≡ ended n a
unfolding ended
ended_none n a e = rw e

module _ (n : ℕ) (a : Rows) (some : is_nil a.tasks ≡ false) where
  pub ended_servers : {i j : ℕ} → equal_servers a.servers ≡ Some (i, j) →
      equal (2 + i) (2 + j) ≡ ended n a
  unfolding ended compared
  ended_servers e = rw (some, e)

  module _ (e : equal_servers a.servers ≡ None) where
    pub ended_tasks : {m i j : ℕ} → length a.servers ≡ m → equal_tasks a.tasks ≡ Some (i, j) →
        equal (2 + m + i) (2 + m + j) ≡ ended n a
    unfolding ended compared
    ended_tasks c f = rw (some, e, c, f)

    pub ended_taken : (t : Table) → a ≡ rows_of t → t ≡ table_of (rows_of t) →
        equal_tasks a.tasks ≡ None →
        ◌≡◌ {A = Read Table} (record { answer = Ok tt; table = t }) (shown (ended n a))
    unfolding ended compared shown
    ended_taken t r w f =
        rw (some, e, f, r) (ap (λ (x : Table). record { answer = Ok tt; table = x }) w)

-- before the first line
pub starts : (t : Table) → t ≡ table_of no_rows → Above 1 t
starts t e = subst (Above 1) (sym e) above_first

pub starts_from : (t : Table) (ls : List (List ℕ)) → t ≡ table_of no_rows →
    read_lines table_text 1 no_rows ls ≡ read_lines table_text 1 (rows_of t) ls
starts_from t ls e = ap (λ x. read_lines table_text 1 x ls) (sym (ap rows_of e ∙ table_rows no_rows))
