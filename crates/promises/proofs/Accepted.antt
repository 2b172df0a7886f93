-- What the bounds need of an accepted table, of the rows that are there: the rows in use, of which
-- a table of the code has as many as its count says, and a shorter list fewer. A row that is not
-- there has no capacity, so it is never able. Assumes nothing.
use mathlib.Core.Path.{◌≡◌, refl, sym, ap, ◌∙◌}
use mathlib.Core.Bool.{true}
use mathlib.Core.List.{List, [], ◌∷◌}
use mathlib.Core.Logic.{◌⊎◌, inl, inr}
use Prim.Native.Nat.{ℕ, zero, suc, ◌≤◌, ◌<◌}
use native.Mathlib.Omega.{arith}
use lib.ListN.{length, get_or, length-take}
use lib.Seq.{get_or-take}
use Rattle.laws.specs.Choice.{every, within}
use Rattle.std.specs.Cmp.{first_so}
use Rattle.laws.proofs.Choice.{every_at, within_high, le_or_lt}
use Rattle.laws.proofs.Rows.{all_at}
use Rattle.table.specs.declared.Mode.{Mode}
use Rattle.table.specs.declared.Mode.TheVariants.{N, D1, D2}
use Rattle.table.specs.declared.Server.{Server}
use Rattle.table.specs.declared.Table.{Table}
use Rattle.table.specs.Rows.{Rows, rows_of, no_server, server_at, priority_at, in_mode, capacity_at}
use Rattle.table.specs.Rules.{server_keeps, differ, keeps, table_keeps}
use Rattle.table.proofs.Pairs.{differ_rows}
use Rattle.table.proofs.Rules.{ServerRules, server_rules, rows_keep}

-- the rows that are there
abbrev pub there : Table → ℕ
there t = length (rows_of t).servers

pub record Accepted (t : Table) : Type 0 where
  pub few : t.nservers ≤ 32
  pub used : there t ≤ t.nservers
  pub server : (j : ℕ) → j < there t → ServerRules t j
  pub differ : (i j : ℕ) → i < there t → j < there t → (i ≡ j → ⊥) → priority_at t i ≡ priority_at t j → ⊥
  pub some : (j : ℕ) (m : Mode) → j < t.nservers → 0 < capacity_at t m j → j < there t

absent : (ss : List Server) (j : ℕ) → length ss ≤ j → get_or ss j no_server ≡ no_server
absent [] j h = refl
absent (s ∷ ss) zero h = absurd (omega arith)
absent (s ∷ ss) (suc j) h = absent ss j (omega arith)

rows_held : (t : Table) → table_keeps t ≡ true → t.nservers ≤ 32
unfolding table_keeps
rows_held t e = within_high 1 32 t.nservers (first_so (within 1 32 t.nservers) _ e)

row_kept : (a : Rows) → keeps a ≡ true → (j : ℕ) → j < length a.servers →
    every (server_keeps (get_or a.servers j no_server)) ≡ true
unfolding keeps
row_kept a e j h =
    all_at (λ i. every (server_keeps (get_or a.servers i no_server))) (length a.servers) j (every_at _ e 3) h

rows_apart : (a : Rows) → keeps a ≡ true →
    differ (length a.servers) (λ i. (get_or a.servers i no_server).priority) ≡ true
unfolding keeps
rows_apart a e = every_at _ e 5

module _ (t : Table) (e : table_keeps t ≡ true) where
  count : there t ≤ t.nservers
  count = omega (arith, length-take t.nservers t.servers)

  row : (j : ℕ) → j < there t → get_or (rows_of t).servers j no_server ≡ server_at t j
  row j h = get_or-take t.nservers t.servers j no_server (omega (arith, count))

  pub accepted : Accepted t
  accepted =
      record {
        few = rows_held t e;
        used = count;
        server = λ j h. server_rules t j (rw (row j h) at (row_kept (rows_of t) (rows_keep t e) j h));
        differ =
            λ i j h k d q.
            differ_rows
            (there t)
            (λ a. (get_or (rows_of t).servers a no_server).priority)
            (rows_apart (rows_of t) (rows_keep t e))
            i
            j
            h
            k
            d
            (ap (λ (s : Server). s.priority) (row i h) ∙ q ∙ sym (ap (λ (s : Server). s.priority) (row j k)));
        some = λ j m h c. go j m h c (le_or_lt (length t.servers) j);
      }
    where
      nothing : (m : Mode) (s : Server) → s ≡ no_server → 0 < (in_mode s.capacity m).0 → ⊥
      nothing N s q c = omega (arith, ap (λ (s : Server). s.capacity.n.0) q)
      nothing D1 s q c = omega (arith, ap (λ (s : Server). s.capacity.d1.0) q)
      nothing D2 s q c = omega (arith, ap (λ (s : Server). s.capacity.d2.0) q)

      go : (j : ℕ) (m : Mode) → j < t.nservers → 0 < capacity_at t m j →
          (length t.servers ≤ j) ⊎ (j < length t.servers) → j < there t
      go j m h c (inl l) = absurd (nothing m (server_at t j) (absent t.servers j l) c)
      go j m h c (inr l) = omega (arith, length-take t.nservers t.servers)
