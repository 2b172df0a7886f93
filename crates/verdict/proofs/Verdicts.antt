-- 01, Verdicts, as theorems on the definition, so on the code: what a verdict says is read off the
-- search that gives it. Assumes nothing.
use Rattle.std.proofs.Common.{None, Option, Some}
use mathlib.Core.Path.{◌≡◌, refl, sym, ap, ◌∙◌}
use mathlib.Core.Bool.{true, false}
use mathlib.Core.Logic.{◌⊎◌, inl, inr, ◌↔◌}
use Prim.Native.Nat.{ℕ, ◌+◌, ◌≤◌, ◌<◌}
use native.Mathlib.Omega.{arith}
use borrow.Author.Tests.{lt-ltb, le-ltb, leb-true, leb-false, le-leb, eq-eqb, ne_eqb}
use Rattle.laws.specs.Search.{least}
use Rattle.std.proofs.lemmas.Bool.{cases_Bool}
use Rattle.laws.proofs.Choice.{le_or_lt}
use Rattle.laws.proofs.Search.{hit, miss, is_least, found_passes, found_first, none_passes}
use Rattle.units.specs.declared.Ticks.{Ticks}
use Rattle.table.specs.declared.Mode.{Mode}
use Rattle.table.specs.declared.Table.{Table}
use Rattle.table.specs.declared.Refusal.{Refusal}
use Rattle.table.specs.declared.Refusal.TheVariants.{NoServer, Unsound}
use Rattle.table.specs.Rows.{period_at, capacity_at}
use Rattle.table.specs.Rules.{table_keeps}
use Rattle.verdict.specs.declared.Verdict.TheVariants.{Response, Misses, No}
use Rattle.verdict.specs.Verdict.{interference, meets, response_at, told, verdict_of}

-- r meets the stated inequality, C + I(r) ≤ r
abbrev pub Meets : Table → Mode → ℕ → ℕ → Type 0
Meets t m i r = capacity_at t m i + interference t m i r ≤ r

-- r lies from 1 to the period and meets it, and none below r does
pub record LeastResponse (t : Table) (m : Mode) (i r : ℕ) : Type 0 where
  pub from_one : 1 ≤ r
  pub to_period : r ≤ period_at t i
  pub meets : Meets t m i r
  pub none_below : (x : ℕ) → 1 ≤ x → x < r → Meets t m i x → ⊥

-- a row of a table that keeps the rules, with a capacity
pub record Served (t : Table) (m : Mode) (i : ℕ) : Type 0 where
  pub keeps : table_keeps t ≡ true
  pub there : i < t.nservers
  pub some : 0 < capacity_at t m i

module _ (t : Table) (m : Mode) (i : ℕ) where
  meets_true : (r : ℕ) → meets t m i r ≡ true → Meets t m i r
  unfolding meets
  meets_true r e = leb-true (capacity_at t m i + interference t m i r) r e

  meets_false : (r : ℕ) → meets t m i r ≡ false → Meets t m i r → ⊥
  unfolding meets
  meets_false r e h = omega (arith, leb-false (capacity_at t m i + interference t m i r) r e)

  is_met : (r : ℕ) → Meets t m i r → meets t m i r ≡ true
  unfolding meets
  is_met r h = le-leb (capacity_at t m i + interference t m i r) r h

  is_missed : (r : ℕ) → (Meets t m i r → ⊥) → meets t m i r ≡ false
  is_missed r h = elim (cases_Bool (meets t m i r)) [ inl e ↦ absurd (h (meets_true r e)) | inr e ↦ e ]

  -- the search with a capacity, and without
  searched : 0 < capacity_at t m i → response_at t m i ≡ least (meets t m i) 1 (period_at t i)
  unfolding response_at
  searched h = rw (ne_eqb (capacity_at t m i) 0 (λ e. omega arith))

  unsearched : capacity_at t m i ≡ 0 → response_at t m i ≡ Some 0
  unfolding response_at
  unsearched e = rw (eq-eqb (capacity_at t m i) 0 e)

  pub least_response : (r : ℕ) → 0 < capacity_at t m i → (response_at t m i ≡ Some r) ↔ LeastResponse t m i r
  least_response r h = (to, back)
    where
      to : response_at t m i ≡ Some r → LeastResponse t m i r
      to e =
          let f : least (meets t m i) 1 (period_at t i) ≡ Some r = sym (searched h) ∙ e in
          let p = found_passes (meets t m i) 1 (period_at t i) r f in
          record {
            from_one = p.1;
            to_period = omega (arith, p.2);
            meets = meets_true r p.0;
            none_below = λ x l u. meets_false x (found_first (meets t m i) 1 (period_at t i) r f x l u);
          }

      back : LeastResponse t m i r → response_at t m i ≡ Some r
      back l =
          searched h
          ∙ sym
          (is_least
          (meets t m i)
          1
          (period_at t i)
          (Some r)
          (hit r l.from_one (omega (arith, l.to_period)) (is_met r l.meets)
          (λ x k u. is_missed x (l.none_below x k u))))

  pub no_response : 0 < capacity_at t m i →
      (response_at t m i ≡ None) ↔ ((x : ℕ) → 1 ≤ x → x ≤ period_at t i → Meets t m i x → ⊥)
  no_response h = (to, back)
    where
      to : response_at t m i ≡ None → (x : ℕ) → 1 ≤ x → x ≤ period_at t i → Meets t m i x → ⊥
      to e x l u = meets_false x (none_passes (meets t m i) 1 (period_at t i) (sym (searched h) ∙ e) x l (omega arith))

      back : ((x : ℕ) → 1 ≤ x → x ≤ period_at t i → Meets t m i x → ⊥) → response_at t m i ≡ None
      back none =
          searched h
          ∙ sym (is_least (meets t m i) 1 (period_at t i) None (miss (λ x l u. is_missed x (none x l (omega arith)))))

  pub response_most : (r : ℕ) → response_at t m i ≡ Some r → r ≤ period_at t i
  response_most r e = go (le_or_lt (capacity_at t m i) 0)
    where
      go : (capacity_at t m i ≤ 0) ⊎ (0 < capacity_at t m i) → r ≤ period_at t i
      go (inl h) = let f : Some r ≡ Some 0 = sym e ∙ unsearched (omega arith) in let g : r ≡ 0 = cc in omega arith
      go (inr h) = ((least_response r h).0 e).to_period

  -- how the door is passed
  pub verdict_unsound : table_keeps t ≡ false → verdict_of t i m ≡ No Unsound
  unfolding verdict_of
  verdict_unsound e = rw e

  pub verdict_absent : table_keeps t ≡ true → t.nservers ≤ i → verdict_of t i m ≡ No NoServer
  unfolding verdict_of
  verdict_absent e h = rw (e, le-ltb i t.nservers h)

  pub verdict_told : table_keeps t ≡ true → i < t.nservers → verdict_of t i m ≡ told (response_at t m i)
  unfolding verdict_of
  verdict_told e h = rw (e, lt-ltb i t.nservers h)

-- the three ways to a verdict
data Way (t : Table) (m : Mode) (i : ℕ) : Type 0 where
  unsound : table_keeps t ≡ false → verdict_of t i m ≡ No Unsound → Way t m i
  absent : table_keeps t ≡ true → t.nservers ≤ i → verdict_of t i m ≡ No NoServer → Way t m i
  served : table_keeps t ≡ true → i < t.nservers → verdict_of t i m ≡ told (response_at t m i) → Way t m i

way : (t : Table) (m : Mode) (i : ℕ) → Way t m i
way t m i = go (cases_Bool (table_keeps t)) (le_or_lt t.nservers i)
  where
    go : (table_keeps t ≡ true) ⊎ (table_keeps t ≡ false) → (t.nservers ≤ i) ⊎ (i < t.nservers) → Way t m i
    go (inr e) q = unsound e (verdict_unsound t m i e)
    go (inl e) (inl h) = absent e h (verdict_absent t m i e h)
    go (inl e) (inr h) = served e h (verdict_told t m i e h)

told_no : (f : Option ℕ) (x : Refusal) → told f ≡ No x → ⊥
told_no (Some r) x e = let z : ◌≡◌ {A = ℕ} 0 1 = cc in omega arith
told_no None x e = let z : ◌≡◌ {A = ℕ} 0 1 = cc in omega arith

told_at_lem : (f : Option ℕ) (r : Ticks) → told f ≡ Response r → f ≡ Some r.0
told_at_lem (Some x) r e = let q : record { 0 = x } ≡ r = cc in ap (λ (y : Ticks). Some y.0) q
told_at_lem None r e = let z : ◌≡◌ {A = ℕ} 0 1 = cc in absurd (omega arith)

told_nothing : (f : Option ℕ) → told f ≡ Misses → f ≡ None
told_nothing (Some x) e = let z : ◌≡◌ {A = ℕ} 0 1 = cc in absurd (omega arith)
told_nothing None e = refl

module _ (t : Table) (m : Mode) (i : ℕ) where
  -- 13 exactly for a table that breaks the rules
  pub unsound_exactly : (verdict_of t i m ≡ No Unsound) ↔ (table_keeps t ≡ false)
  unsound_exactly = (go (way t m i), verdict_unsound t m i)
    where
      go : Way t m i → verdict_of t i m ≡ No Unsound → table_keeps t ≡ false
      go (unsound e f) v = e
      go (absent e h f) v = let z : ◌≡◌ {A = ℕ} 0 1 = cc in absurd (omega arith)
      go (served e h f) v = absurd (told_no (response_at t m i) Unsound (sym f ∙ v))

  -- 11 exactly for a row that a sound table lacks
  pub absent_exactly : (verdict_of t i m ≡ No NoServer) ↔ ((table_keeps t ≡ true) × (t.nservers ≤ i))
  absent_exactly = (go (way t m i), λ p. verdict_absent t m i p.0 p.1)
    where
      go : Way t m i → verdict_of t i m ≡ No NoServer → (table_keeps t ≡ true) × (t.nservers ≤ i)
      go (unsound e f) v = let z : ◌≡◌ {A = ℕ} 0 1 = cc in absurd (omega arith)
      go (absent e h f) v = (e, h)
      go (served e h f) v = absurd (told_no (response_at t m i) NoServer (sym f ∙ v))

  -- a response is given to a row of a sound table, and is the search's
  response_told : (r : Ticks) → verdict_of t i m ≡ Response r →
      (table_keeps t ≡ true) × (i < t.nservers) × (response_at t m i ≡ Some r.0)
  response_told r v = go (way t m i)
    where
      go : Way t m i → (table_keeps t ≡ true) × (i < t.nservers) × (response_at t m i ≡ Some r.0)
      go (unsound e f) = let z : ◌≡◌ {A = ℕ} 0 1 = cc in absurd (omega arith)
      go (absent e h f) = let z : ◌≡◌ {A = ℕ} 0 1 = cc in absurd (omega arith)
      go (served e h f) = (e, h, told_at_lem (response_at t m i) r (sym f ∙ v))

  -- the response given meets the inequality and none below it does, and whatever does so is given
  pub response_exactly : (r : Ticks) → 0 < capacity_at t m i →
      (verdict_of t i m ≡ Response r) ↔ (Served t m i × LeastResponse t m i r.0)
  response_exactly r h = (to, back)
    where
      to : verdict_of t i m ≡ Response r → Served t m i × LeastResponse t m i r.0
      to v =
          let p = response_told r v in
          (record { keeps = p.0; there = p.1; some = h }, (least_response t m i r.0 h).0 p.2)

      back : Served t m i × LeastResponse t m i r.0 → verdict_of t i m ≡ Response r
      back p = verdict_told t m i p.0.keeps p.0.there ∙ ap told ((least_response t m i r.0 h).1 p.1)

  -- "For capacity 0 the response is 0."
  pub response_for_none : table_keeps t ≡ true → i < t.nservers → capacity_at t m i ≡ 0 → verdict_of t i m ≡ Response (record { 0 = 0 })
  response_for_none e h z = verdict_told t m i e h ∙ ap told (unsearched t m i z)

  -- a response is at most the period
  pub response_in_period : (r : Ticks) → verdict_of t i m ≡ Response r → r.0 ≤ period_at t i
  response_in_period r v = response_most t m i r.0 (response_told r v).2

  -- "misses" exactly if none from 1 to the period meets the inequality
  pub misses_exactly :
      (verdict_of t i m ≡ Misses) ↔ (Served t m i × ((x : ℕ) → 1 ≤ x → x ≤ period_at t i → Meets t m i x → ⊥))
  misses_exactly = (go (way t m i), back)
    where
      some : response_at t m i ≡ None → (capacity_at t m i ≤ 0) ⊎ (0 < capacity_at t m i) → 0 < capacity_at t m i
      some e (inl h) = let f = unsearched t m i (omega arith) in let z : ◌≡◌ {A = ℕ} 0 1 = cc in absurd (omega arith)
      some e (inr h) = h

      go : Way t m i → verdict_of t i m ≡ Misses →
          Served t m i × ((x : ℕ) → 1 ≤ x → x ≤ period_at t i → Meets t m i x → ⊥)
      go (unsound e f) v = let z : ◌≡◌ {A = ℕ} 0 1 = cc in absurd (omega arith)
      go (absent e h f) v = let z : ◌≡◌ {A = ℕ} 0 1 = cc in absurd (omega arith)
      go (served e h f) v =
          let none = told_nothing (response_at t m i) (sym f ∙ v) in
          let c = some none (le_or_lt (capacity_at t m i) 0) in
          (record { keeps = e; there = h; some = c }, (no_response t m i c).0 none)

      back : Served t m i × ((x : ℕ) → 1 ≤ x → x ≤ period_at t i → Meets t m i x → ⊥) → verdict_of t i m ≡ Misses
      back p = verdict_told t m i p.0.keeps p.0.there ∙ ap told ((no_response t m i p.0.some).1 p.1)
