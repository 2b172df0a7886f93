-- Whether a table fits, as its verdicts are written out and read: row by row, and mode by mode.
-- Assumes nothing.
use Rattle.std.proofs.lemmas.Bool.{cases_Bool}
use Rattle.std.proofs.Common.{None, Option, Some}
use mathlib.Core.Path.{◌≡◌, refl, sym, ap, subst, ◌∙◌}
use mathlib.Core.Bool.{Bool, true, false, not}
use mathlib.Core.List.{[], ◌∷◌}
use mathlib.Core.Logic.{◌⊎◌, inl, inr}
use Prim.Native.Nat.{ℕ, zero, suc, ◌≤◌, ◌<◌}
use native.Mathlib.Omega.{arith}
use lib.ListN.{length, get_or, replicate, length-replicate, get_or-replicate}
use Rattle.std.specs.Option.{is_some}
use Rattle.laws.proofs.Choice.{le_or_lt, clash}
use Rattle.laws.proofs.Search.{hit, miss, is_least, found_passes, found_first, none_passes}
use Rattle.laws.proofs.Search.{NoneFinds, FirstAt, First, first, nowhere, first_at, first_none, first_is}
use Rattle.laws.proofs.Rows.{length_listed, listed_at, is_listed}
use Rattle.table.specs.declared.Mode.{Mode}
use Rattle.table.specs.declared.Mode.TheVariants.{N, D1, D2}
use Rattle.table.specs.declared.Refusal.TheVariants.{NoServer, Unsound}
use Rattle.table.specs.declared.Table.{Table}
use Rattle.table.specs.Rows.{mode_value, mode_said}
use Rattle.table.specs.Rules.{table_keeps}
use Rattle.table.proofs.Rows.{mode_back, mode_again, mode_below}
use Rattle.table.proofs.Rules.{few_servers}
use Rattle.verdict.specs.declared.Verdict.{Verdict}
use Rattle.verdict.specs.declared.Verdict.TheVariants.{Response, Misses, No}
use Rattle.table.specs.declared.ByMode.{ByMode}
use Rattle.verdict.specs.declared.Fits.{Fits}
use Rattle.verdict.specs.declared.Fits.TheVariants.{Yes, Miss, No as NoFits}
use Rattle.verdict.specs.Verdict.{response_at, told, verdict_of}
use Rattle.verdict.specs.Fits.{row_verdicts, verdicts_of, verdict_in, is_miss, no_verdicts, least_row, from_verdicts, fits_of}
use Rattle.verdict.proofs.Verdicts.{verdict_unsound, verdict_absent, verdict_told, misses_exactly}

-- All verdicts, written out.
module _ (t : Table) where
  pub verdicts_length : length (verdicts_of t) ≡ 32
  unfolding verdicts_of
  verdicts_length = length_listed 32 (row_verdicts t)

  -- those of a row stand in its place
  pub verdicts_at : (i : ℕ) (d : ByMode Verdict) → i < 32 → get_or (verdicts_of t) i d ≡ row_verdicts t i
  unfolding verdicts_of
  verdicts_at i d h = listed_at 32 (row_verdicts t) i d h

module _ (t : Table) where
  pub absent_row : (k : ℕ) → table_keeps t ≡ true → t.nservers ≤ k → no_verdicts NoServer ≡ row_verdicts t k
  absent_row k e h =
      rw (verdict_absent t N k e h, verdict_absent t D1 k e h, verdict_absent t D2 k e h)

  -- a table that breaks the rules has 13 everywhere
  pub none_kept : table_keeps t ≡ false → replicate 32 (no_verdicts Unsound) ≡ verdicts_of t
  unfolding verdicts_of
  none_kept e =
      let d = no_verdicts Unsound in
      is_listed 32 (row_verdicts t) d (replicate 32 d) (length-replicate 32 d)
      (λ k h.
      get_or-replicate 32 k d d h
      ∙ rw (verdict_unsound t N k e, verdict_unsound t D1 k e, verdict_unsound t D2 k e))

-- The least row that misses in a mode.
miss_is : (v : Verdict) → is_miss v ≡ true → v ≡ Misses
miss_is (Response r) e = absurd (clash false e refl)
miss_is Misses e = refl
miss_is (No why) e = absurd (clash false e refl)

no_miss : (v : Verdict) → (v ≡ Misses → ⊥) → is_miss v ≡ false
no_miss (Response r) h = refl
no_miss Misses h = absurd (h refl)
no_miss (No why) h = refl

none_told : (f : Option ℕ) (b : Bool) → is_some f ≡ not b → is_miss (told f) ≡ b
none_told None true e = refl
none_told None false e = cc
none_told (Some r) true e = cc
none_told (Some r) false e = refl

row_in_lem : (t : Table) (i : ℕ) (m : Mode) → verdict_in (row_verdicts t i) m ≡ verdict_of t i m
row_in_lem t i N = refl
row_in_lem t i D1 = refl
row_in_lem t i D2 = refl

module _ (t : Table) (m : Mode) where
  abbrev pub misses : ℕ → Bool
  misses i = is_miss (verdict_of t i m)

  -- none of the first i rows misses
  abbrev pub NoneMisses : ℕ → Type 0
  NoneMisses i = (k : ℕ) → k < i → misses k ≡ false

  -- as it is read from all verdicts
  abbrev read : ℕ → Bool
  read i = is_miss (verdict_in (get_or (verdicts_of t) i (no_verdicts NoServer)) m)

  read_at : (i : ℕ) → i < 32 → read i ≡ misses i
  read_at i h =
      ap (λ v. is_miss (verdict_in v m)) (verdicts_at t i (no_verdicts NoServer) h) ∙ ap is_miss (row_in_lem t i m)

  module _ (keeps : table_keeps t ≡ true) where
    absent_not : (i : ℕ) → t.nservers ≤ i → misses i ≡ false
    absent_not i h = ap is_miss (verdict_absent t m i keeps h)

    pub row_told : (i : ℕ) (f : Option ℕ) → i < t.nservers → response_at t m i ≡ f → misses i ≡ is_miss (told f)
    row_told i f h e = ap is_miss (verdict_told t m i keeps h ∙ ap told e)

    -- as a caller asks it: whether there is none
    pub row_asked : (i : ℕ) (f : Option ℕ) (b : Bool) → i < t.nservers → f ≡ response_at t m i → is_some f ≡ not b →
        misses i ≡ b
    row_asked i f b h e q = row_told i f h (sym e) ∙ none_told f b q

    pub row_misses : (i : ℕ) → i < t.nservers → misses i ≡ true → NoneMisses i → Some i ≡ least_row (verdicts_of t) m
    unfolding least_row
    row_misses i h e none =
        let few = few_servers t keeps in
        is_least read 0 (length (verdicts_of t)) (Some i)
        (hit i (omega arith) (omega (arith, verdicts_length t)) (read_at i (omega arith) ∙ e)
        (λ k l u. read_at k (omega arith) ∙ none k u))

    pub no_row_misses : NoneMisses t.nservers → None ≡ least_row (verdicts_of t) m
    unfolding least_row
    no_row_misses none =
        is_least read 0 (length (verdicts_of t)) None
        (miss (λ k l u. let h : k < 32 = omega (arith, verdicts_length t) in read_at k h ∙ row k (le_or_lt t.nservers k)))
      where
        row : (k : ℕ) → (t.nservers ≤ k) ⊎ (k < t.nservers) → misses k ≡ false
        row k (inl l) = absent_not k l
        row k (inr l) = none k l

  -- what is found, and what it says where nothing is
  row_found : (i : ℕ) → least_row (verdicts_of t) m ≡ Some i →
      (verdict_of t i m ≡ Misses) × ((j : ℕ) → j < i → verdict_of t j m ≡ Misses → ⊥)
  unfolding least_row
  row_found i e =
      let n = length (verdicts_of t) in
      let p = found_passes read 0 n i e in
      let h : i < 32 = omega (arith, p.2, verdicts_length t) in (
        miss_is (verdict_of t i m) (sym (read_at i h) ∙ p.0),
        λ j l q.
            clash (misses j) (ap is_miss q) (sym (read_at j (omega arith)) ∙ found_first read 0 n i e j (omega arith) l),
      )

  row_none : least_row (verdicts_of t) m ≡ None → (i : ℕ) → verdict_of t i m ≡ Misses → ⊥
  unfolding least_row
  row_none e i q =
      let s = ((misses_exactly t m i).0 q).0 in
      let h : i < 32 = omega (arith, s.there, few_servers t s.keeps) in
      clash (misses i) (ap is_miss q)
      (sym (read_at i h)
      ∙ none_passes read 0 (length (verdicts_of t)) e i (omega arith) (omega (arith, verdicts_length t)))

-- The least mode with such a row. A loop goes over the modes in their order.
pub mode_in_order : (k : ℕ) → k < 3 → get_or (N ∷ D1 ∷ D2 ∷ []) k N ≡ mode_said k
mode_in_order zero h = refl
mode_in_order (suc zero) h = refl
mode_in_order (suc (suc zero)) h = refl
mode_in_order (suc (suc (suc k))) h = absurd (omega arith)

module _ (t : Table) where
  abbrev pub row_in : ℕ → Option ℕ
  row_in k = least_row (verdicts_of t) (mode_said k)

  pub fits_unsound : table_keeps t ≡ false → NoFits Unsound ≡ fits_of t
  unfolding fits_of
  fits_unsound e = rw e

  pub fits_read : table_keeps t ≡ true → fits_of t ≡ from_verdicts (verdicts_of t)
  unfolding fits_of
  fits_read e = rw e

  pub fits_miss : table_keeps t ≡ true → (k i : ℕ) → FirstAt row_in 3 k i → Miss (mode_said k) i ≡ fits_of t
  unfolding from_verdicts
  fits_miss e k i f = first_at (λ j. Miss (mode_said j)) Yes row_in 3 k i f ∙ sym (fits_read e)

  pub fits_yes : table_keeps t ≡ true → NoneFinds row_in 3 → Yes ≡ fits_of t
  unfolding from_verdicts
  fits_yes e f = first_none (λ j. Miss (mode_said j)) Yes row_in 3 f ∙ sym (fits_read e)

-- What the answer says: 13, that no verdict misses, or the least miss.
pub record LeastMiss (t : Table) (m : Mode) (i : ℕ) : Type 0 where
  pub missed : verdict_of t i m ≡ Misses
  pub modes : (n : Mode) (j : ℕ) → mode_value n < mode_value m → verdict_of t j n ≡ Misses → ⊥
  pub rows : (j : ℕ) → j < i → verdict_of t j m ≡ Misses → ⊥

abbrev pub NoMiss : Table → Type 0
NoMiss t = (m : Mode) (i : ℕ) → verdict_of t i m ≡ Misses → ⊥

pub data Answers (t : Table) : Fits → Type 0 where
  unsound : table_keeps t ≡ false → Answers t (NoFits Unsound)
  none : table_keeps t ≡ true → NoMiss t → Answers t Yes
  least_miss : (m : Mode) (i : ℕ) → LeastMiss t m i → Answers t (Miss m i)

module _ (t : Table) where
  -- in the mode that a number says, nothing is found
  none_in : table_keeps t ≡ true → (k : ℕ) → ((i : ℕ) → verdict_of t i (mode_said k) ≡ Misses → ⊥) → row_in t k ≡ None
  none_in e k h = sym (no_row_misses t (mode_said k) e (λ i l. no_miss (verdict_of t i (mode_said k)) (h i)))

  -- the answer says one of these
  pub fits_is : Answers t (fits_of t)
  unfolding from_verdicts
  fits_is = go (cases_Bool (table_keeps t))
    where
      earlier : (n : Mode) (k : ℕ) → mode_value n < k → ((j : ℕ) → j < k → row_in t j ≡ None) → (i : ℕ) →
          verdict_of t i n ≡ Misses → ⊥
      earlier n k h f i =
          row_none t n (ap (least_row (verdicts_of t)) (sym (mode_back n)) ∙ f (mode_value n) h) i

      made : (a : Fits) → table_keeps t ≡ true → First (λ k. Miss (mode_said k)) Yes (row_in t) 3 a → Answers t a
      made a e (first k i f) =
          let p = row_found t (mode_said k) i f.found in
          least_miss (mode_said k) i
          (record {
            missed = p.0;
            modes =
                λ n j h.
                earlier n k (omega (arith, mode_again k f.below)) f.none_before j;
            rows = p.1;
          })
      made a e (nowhere f) = none e (λ m i. earlier m 3 (mode_below m) f i)

      go : (table_keeps t ≡ true) ⊎ (table_keeps t ≡ false) → Answers t (fits_of t)
      go (inr e) = subst (Answers t) (fits_unsound t e) (unsound e)
      go (inl e) =
          subst (Answers t) (sym (fits_read t e))
          (made (from_verdicts (verdicts_of t)) e (first_is (λ k. Miss (mode_said k)) Yes (row_in t) 3))

  -- and whatever says one of these is the answer
  pub is_fits : (a : Fits) → Answers t a → a ≡ fits_of t
  is_fits a (unsound e) = fits_unsound t e
  is_fits a (none e f) = fits_yes t e (λ k h. none_in e k (f (mode_said k)))
  is_fits a (least_miss m i l) =
      let s = ((misses_exactly t m i).0 l.missed).0 in
      let e = s.keeps in
      let k = mode_value m in
      ap (λ n. Miss n i) (sym (mode_back m))
      ∙ fits_miss t e k i
      (record {
        below = mode_below m;
        found =
            ap (least_row (verdicts_of t)) (mode_back m)
            ∙ sym
            (row_misses t m e i s.there (ap is_miss l.missed) (λ j h. no_miss (verdict_of t j m) (l.rows j h)));
        none_before =
            λ j h.
            none_in e j
            (λ y. l.modes (mode_said j) y (omega (arith, mode_again j (omega (arith, mode_below m)))));
      })
