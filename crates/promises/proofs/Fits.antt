-- Request No. 5, proved: each statement of specs/Fits.antt from its facts. The answer says one of
-- three things and whatever says one of them is the answer (crate verdict, Fitting.antt). Assumes
-- nothing.
use Rattle.std.proofs.Common.{None, Option, Some}
use mathlib.Core.Path.{◌≡◌, refl, sym, ap, ◌∙◌}
use mathlib.Core.Bool.{Bool, true, false}
use mathlib.Core.List.{[], ◌∷◌}
use mathlib.Core.Logic.{◌⊎◌, inl, inr, ◌↔◌}
use Prim.Native.Nat.{ℕ, ◌≤◌, ◌<◌}
use native.Mathlib.Omega.{arith}
use lib.ListN.{length, get_or}
use Rattle.std.proofs.lemmas.Bool.{cases_Bool}
use Rattle.laws.proofs.Choice.{clash}
use Rattle.table.specs.declared.Mode.{Mode}
use Rattle.table.specs.declared.Mode.TheVariants.{N}
use Rattle.table.specs.declared.Table.{Table}
use Rattle.table.specs.Rows.{period_at, mode_value, mode_said}
use Rattle.table.specs.Rules.{table_keeps}
use Rattle.table.proofs.Rows.{mode_back}
use Rattle.table.proofs.Rules.{few_servers}
use Rattle.verdict.specs.declared.Verdict.TheVariants.{Response, Misses}
use Rattle.verdict.specs.declared.Fits.{Fits}
use Rattle.verdict.specs.declared.Fits.TheVariants.{Yes, Miss, No as NoFits}
use Rattle.verdict.specs.Verdict.{response_at, told, verdict_of}
use Rattle.verdict.specs.Fits.{fits_of, fits_number, fits_values}
use Rattle.verdict.proofs.Verdicts.{verdict_told, response_in_period, misses_exactly}
use Rattle.verdict.proofs.Fitting.{Answers, unsound, none, least_miss, LeastMiss, NoMiss}
use Rattle.verdict.proofs.Fitting.{fits_is, is_fits, fits_read, verdicts_at}
use Rattle.run.specs.Sound.{sound}
use Rattle.run.specs.Release.{fresh_run}
use Rattle.run.specs.Found.{taken_ticks}
use Rattle.run.proofs.Sound.{sound_table}
use Rattle.run.proofs.Refused.{start_run}
use Rattle.fitting.specs.Fits.{run_fits}
use Rattle.fitting.proofs.Fits.{run_unsound, run_as_table}
use Rattle.promises.specs.Fits.{Refused13, StateRefused13, StateAsTable, YesExactly, Earlier}
use Rattle.promises.specs.Fits.{MissExactly, ValuesTell, ReadFromAll, WithoutCapacityNever, AllRespond}
use Rattle.promises.specs.Fits.{FitsThenServed, FitsFromTheText}
use Rattle.promises.proofs.Bounds.{second_bound}

-- What an answer says of its table.
yes_says : (t : Table) (a : Fits) → a ≡ Yes → Answers t a → (table_keeps t ≡ true) × NoMiss t
yes_says t a q (unsound e) = let z : ◌≡◌ {A = ℕ} 0 1 = cc in absurd (omega arith)
yes_says t a q (none e f) = (e, f)
yes_says t a q (least_miss m i l) = let z : ◌≡◌ {A = ℕ} 0 1 = cc in absurd (omega arith)

miss_says : (t : Table) (m : Mode) (i : ℕ) (a : Fits) → a ≡ Miss m i → Answers t a → LeastMiss t m i
miss_says t m i a q (unsound e) = let z : ◌≡◌ {A = ℕ} 0 1 = cc in absurd (omega arith)
miss_says t m i a q (none e f) = let z : ◌≡◌ {A = ℕ} 0 1 = cc in absurd (omega arith)
miss_says t m i a q (least_miss n j l) =
    let x : n ≡ m = cc in
    let y : j ≡ i = cc in
    rw (← x, ← y) l

-- 13, and 0
number_says : (t : Table) (a : Fits) → Answers t a →
    ((fits_number a ≡ 13) × (table_keeps t ≡ false)) ⊎ ((fits_number a ≡ 0) × (table_keeps t ≡ true))
number_says t a (unsound e) = inl (refl, e)
number_says t a (none e f) = inr (refl, e)
number_says t a (least_miss m i l) = inr (refl, ((misses_exactly t m i).0 l.missed).0.keeps)

-- a number that is 13 or 0 by a test
by_test : (n : ℕ) (b : Bool) → ((n ≡ 13) × (b ≡ false)) ⊎ ((n ≡ 0) × (b ≡ true)) →
    ((n ≡ 13) ↔ (b ≡ false)) × ((n ≡ 0) ↔ (b ≡ true))
by_test n b (inl (p, q)) =
    ((λ e. q, λ e. p), (λ e. absurd (omega arith), λ e. absurd (clash b e q)))
by_test n b (inr (p, q)) =
    ((λ e. absurd (omega arith), λ e. absurd (clash b q e)), (λ e. q, λ e. p))

pub refused_13 : Refused13
refused_13 t = by_test (fits_number (fits_of t)) (table_keeps t) (number_says t (fits_of t) (fits_is t))

pub state_as_table : StateAsTable
state_as_table = run_as_table

pub state_refused_13 : StateRefused13
state_refused_13 r = by_test (fits_number (run_fits r)) (sound r) (go (cases_Bool (sound r)))
  where
    go : (sound r ≡ true) ⊎ (sound r ≡ false) →
        ((fits_number (run_fits r) ≡ 13) × (sound r ≡ false)) ⊎ ((fits_number (run_fits r) ≡ 0) × (sound r ≡ true))
    go (inr e) = inl (ap fits_number (run_unsound r e), e)
    go (inl e) = inr (ap fits_number (run_as_table r e) ∙ (refused_13 r.table).1.1 (sound_table r e), e)

pub yes_exactly : YesExactly
yes_exactly t e = (
  λ q m i h. (yes_says t (fits_of t) q (fits_is t)).1 m i,
  λ f. sym (is_fits t Yes (none e (λ m i v. f m i ((misses_exactly t m i).0 v).0.there v))),
)

pub miss_exactly : MissExactly
miss_exactly t m i e = (to, back)
  where
    sooner : (n : Mode) (j : ℕ) → LeastMiss t m i → Earlier n j m i → verdict_of t j n ≡ Misses → ⊥
    sooner n j l (inl h) = l.modes n j h
    sooner n j l (inr (p, h)) = rw p (l.rows j h)

    to : fits_of t ≡ Miss m i →
        (i < t.nservers) × (verdict_of t i m ≡ Misses) ×
        ((n : Mode) (j : ℕ) → Earlier n j m i → verdict_of t j n ≡ Misses → ⊥)
    to q =
        let l = miss_says t m i (fits_of t) q (fits_is t) in
        (((misses_exactly t m i).0 l.missed).0.there, l.missed, λ n j. sooner n j l)

    back : (i < t.nservers) × (verdict_of t i m ≡ Misses) ×
        ((n : Mode) (j : ℕ) → Earlier n j m i → verdict_of t j n ≡ Misses → ⊥) →
        fits_of t ≡ Miss m i
    back p =
        sym
        (is_fits t (Miss m i)
        (least_miss m i
        (record { missed = p.1; modes = λ n j h. p.2 n j (inl h); rows = λ j h. p.2 m j (inr (refl, h)) })))

-- the numbers of an answer tell it
told_yes : (a : Fits) → fits_values a ≡ 1 ∷ [] → a ≡ Yes
told_yes Yes e = refl
told_yes (Miss m i) e = let z : ◌≡◌ {A = ℕ} 0 1 = ap (λ l. get_or l 0 0) e in absurd (omega (arith, z))
told_yes (NoFits why) e = let z : ◌≡◌ {A = ℕ} 0 1 = ap (λ l. get_or l 0 0) e in absurd (omega (arith, z))

told_miss : (a : Fits) (m : Mode) (i : ℕ) → fits_values a ≡ 0 ∷ mode_value m ∷ i ∷ [] → a ≡ Miss m i
told_miss Yes m i e = let z : ◌≡◌ {A = ℕ} 1 0 = ap (λ l. get_or l 0 0) e in absurd (omega (arith, z))
told_miss (Miss n j) m i e =
    let x : n ≡ m = sym (mode_back n) ∙ ap (λ l. mode_said (get_or l 1 0)) e ∙ mode_back m in
    let y : j ≡ i = ap (λ l. get_or l 2 0) e in
    rw (x, y)
told_miss (NoFits why) m i e = let z : ◌≡◌ {A = ℕ} 0 3 = ap length e in absurd (omega (arith, z))

pub values_tell : ValuesTell
values_tell a = ((told_yes a, ap fits_values), λ m i. (told_miss a m i, ap fits_values))

pub read_from_all : ReadFromAll
read_from_all t e = (
  fits_read t e,
  λ i d h.
      rw (verdicts_at t i d (omega (arith, few_servers t e))) (record { n = refl; d1 = refl; d2 = refl }),
)

pub without_capacity_never : WithoutCapacityNever
without_capacity_never t m i z q =
    let l = miss_says t m i (fits_of t) q (fits_is t) in
    let s = ((misses_exactly t m i).0 l.missed).0 in
    omega (arith, s.some)

responds : (t : Table) (m : Mode) (i : ℕ) (f : Option ℕ) → verdict_of t i m ≡ told f →
    (verdict_of t i m ≡ Misses → ⊥) → (R : ℕ) × (verdict_of t i m ≡ Response (record { 0 = R })) × (R ≤ period_at t i)
responds t m i (Some r) e h = (r, e, response_in_period t m i (record { 0 = r }) e)
responds t m i None e h = absurd (h e)

pub all_respond : AllRespond
all_respond t m i q h =
    let p = yes_says t (fits_of t) q (fits_is t) in
    responds t m i (response_at t m i) (verdict_told t m i p.0 h) (p.1 m i)

pub fits_then_served : FitsThenServed
fits_then_served t es q i s T C h p k c n u w =
    let e = (yes_says t (fits_of t) q (fits_is t)).0 in
    let r = all_respond t N i q h in
    let b = second_bound t es (taken_ticks (fresh_run t) es) i s T C r.0 e refl h p k c r.1 n u w in
    (b.0, (r.0, r.1, rw p r.2, b.1))

pub fits_from_the_text : FitsFromTheText
fits_from_the_text text t es n q f = rw (start_run t) (fits_then_served t es f)
