-- The page of verdicts, put line by line and field by field. Assumes nothing.
use Rattle.std.proofs.lemmas.List.{get_or-take}
use mathlib.Core.Path.{◌≡◌, ap, sym, ◌∙◌}
use mathlib.Core.Bool.{true}
use mathlib.Core.List.{List, [], ◌∷◌, ◌++◌}
use Prim.Native.Nat.{ℕ, ◌+◌, ◌<◌, ◌≤◌}
use native.Mathlib.Omega.{arith}
use native.Mathlib.Numerals.{add-one}
use lib.ListN.{get_or, length, take}
use lib.Seq.{length-take-le}
use Rattle.decimal.specs.Number.{digits}
use Rattle.decimal.specs.Lines.{tab, line_feed, closed}
use Rattle.decimal.specs.Room.{Put}
use Rattle.decimal.proofs.Room.{put_none, put_more, put_field, put_last, put_lines}
use Rattle.table.specs.declared.Refusal.TheVariants.{NoServer}
use Rattle.table.specs.declared.Table.{Table}
use Rattle.table.specs.Rules.{table_keeps}
use Rattle.table.proofs.Rules.{few_servers}
use Rattle.table.specs.declared.ByMode.{ByMode}
use Rattle.verdict.specs.Fits.{verdicts_of, no_verdicts}
use Rattle.verdict.proofs.Fitting.{verdicts_at, verdicts_length}
use Rattle.verdicts.specs.Page.{verdict_word, row_line, row_lines}
use Rattle.verdict.specs.declared.Verdict.{Verdict}

pub row_put : (i : ℕ) (v : ByMode Verdict) {d : List ℕ} {at : ℕ} {e1 : List ℕ} {k1 : ℕ} {e2 : List ℕ}
    {k2 : ℕ} {e3 : List ℕ} {k3 : ℕ} {e4 : List ℕ} {k4 : ℕ} {e5 : List ℕ} {k5 : ℕ} {e6 : List ℕ}
    {k6 : ℕ} →
    Put (digits i) d at e1 k1 → Put (tab ∷ []) e1 k1 e2 k2 →
    Put (verdict_word v.n ++ (tab ∷ [])) e2 k2 e3 k3 →
    Put (verdict_word v.d1 ++ (tab ∷ [])) e3 k3 e4 k4 → Put (verdict_word v.d2) e4 k4 e5 k5 →
    Put (line_feed ∷ []) e5 k5 e6 k6 → Put (closed (row_line i v ∷ [])) d at e6 k6
unfolding row_line
row_put i v p q n d1 d2 l =
    let f1 = verdict_word v.n in
    let f2 = verdict_word v.d1 in
    let f3 = verdict_word v.d2 in
    put_field (digits i) f1 (f2 ∷ f3 ∷ []) (put_more (digits i) (tab ∷ []) p q)
    (put_field f1 f2 (f3 ∷ []) n (put_field f2 f3 [] d1 (put_last f3 d2 l)))

pub rows_next : (vs : List (ByMode Verdict)) (i : ℕ) (v : ByMode Verdict) {d : List ℕ} {at : ℕ} {e : List ℕ}
    {k : ℕ} {f : List ℕ} {r : ℕ} → v ≡ get_or vs i (no_verdicts NoServer) →
    Put (closed (row_lines vs i)) d at e k → Put (closed (row_line i v ∷ [])) e k f r →
    Put (closed (row_lines vs (i + 1))) d at f r
unfolding row_lines
rows_next vs i v q p l =
    let u = get_or vs i (no_verdicts NoServer) in
    rw (add-one i) (put_lines (row_lines vs i) (row_line i u ∷ []) p (rw q at l))

pub rows_none : (vs : List (ByMode Verdict)) (d : List ℕ) (at : ℕ) → Put (closed (row_lines vs 0)) d at d at
unfolding row_lines closed
rows_none vs d at = put_none d at

-- The rows in use are as many as the table has, and hold what is said of each.
module _ (t : Table) (vs : List (ByMode Verdict)) (same : vs ≡ verdicts_of t) (keeps : table_keeps t ≡ true) where
  pub all_there : t.nservers ≤ length vs
  all_there = omega (arith, few_servers t keeps, verdicts_length t, ap length same)

  pub in_use : t.nservers ≡ length (take t.nservers vs)
  in_use = sym (length-take-le t.nservers vs all_there)

  -- whatever stands in the place of a row that there is not
  pub same_row : (i : ℕ) (d : ByMode Verdict) → i < length (take t.nservers vs) →
      get_or (take t.nservers vs) i d ≡ get_or (verdicts_of t) i (no_verdicts NoServer)
  same_row i d h =
      let n : i < t.nservers = omega (arith, h, in_use) in
      let l : i < 32 = omega (arith, n, few_servers t keeps) in
      get_or-take t.nservers vs i d n ∙ ap (λ us. get_or us i d) same ∙ verdicts_at t i d l ∙
      sym (verdicts_at t i (no_verdicts NoServer) l)
