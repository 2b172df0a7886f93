-- Why a response is kept. A row is to get C ticks from tick s on, and gets each that no higher row
-- takes. Look back from s to where the higher rows began to take every tick: from there on they
-- take at most what they ask of R ticks, which is R - C, so that of any R ticks in a row C are
-- left. In the prefix form, which is proved first: after x ticks at most R - x of the C are
-- missing. Nothing here says that a tick is taken by one row only. Assumes nothing.
use Rattle.std.specs.Prelude.{if◌then◌else◌}
use mathlib.Core.Path.{◌≡◌, refl}
use mathlib.Core.Bool.{Bool, true, false}
use mathlib.Core.Logic.{inl, inr}
use Prim.Native.Nat.{ℕ, zero, suc, ◌+◌, ◌*◌, ◌-◌, ◌≤◌, ◌<◌}
use native.Mathlib.Omega.{arith}
use native.Mathlib.Nat.{mul-le-mul_right}
use lib.Dec.{ltb}
use borrow.Author.Tests.{ltb-true, ltb-false}
use Rattle.laws.specs.Rows.{sum_below}
use Rattle.laws.specs.RoundUp.{up}
use Rattle.std.proofs.lemmas.Bool.{cases_Bool}
use Rattle.laws.proofs.Choice.{le_or_lt}
use Rattle.laws.proofs.Rows.{sum_le, sum_zero, sum_part}
use Rattle.laws.proofs.RoundUp.{up_mono}
use Rattle.bounds.proofs.Windows.{window, window_split, window_start, window_full, window_add, window_rows, window_none}
use Rattle.bounds.proofs.Ledger.{Course, Account, Clean, charges_kept, charges_clean, charges_period, used_low, used_since}
use Rattle.bounds.proofs.Split.{Begins, stretch}

-- what the rows above take of tick x, of n rows
unfoldable pub taken : ℕ → (ℕ → Bool) → (ℕ → ℕ → ℕ) → ℕ → ℕ
taken n above charge x = sum_below n (λ j. if above j then charge j x else 0)

-- a row above takes tick x
abbrev pub busy : ℕ → (ℕ → Bool) → (ℕ → ℕ → ℕ) → ℕ → Bool
busy n above charge x = ltb 0 (taken n above charge x)

-- where no row above takes a tick, none of them is charged
pub quiet : (n : ℕ) (above : ℕ → Bool) (charge : ℕ → ℕ → ℕ) (x : ℕ) → busy n above charge x ≡ false → (j : ℕ) → j < n →
    above j ≡ true → charge j x ≡ 0
unfolding taken
quiet n above charge x e j l a =
    let p = sum_part (λ j. if above j then charge j x else 0) n j l in
    let q : (if above j then charge j x else 0) ≡ charge j x = rw a in
    omega (arith, ltb-false 0 (taken n above charge x) e)

only_window : (b : Bool) (f : ℕ → ℕ) (s w : ℕ) →
    window (λ x. if b then f x else 0) s w ≡ (if b then window f s w else 0)
unfolding window
only_window true f s w = refl
only_window false f s w = sum_zero (λ x. 0) w (λ x l. refl)

-- at most so much do the rows above take in a window as each of them at most does
pub taken_most : (n : ℕ) (above : ℕ → Bool) (charge : ℕ → ℕ → ℕ) (asks : ℕ → ℕ) (s w : ℕ) →
    ((j : ℕ) → j < n → above j ≡ true → window (charge j) s w ≤ asks j) →
    window (taken n above charge) s w ≤ sum_below n (λ j. if above j then asks j else 0)
unfolding taken
taken_most n above charge asks s w h =
    rw
    (window_rows n (λ j x. if above j then charge j x else 0) s w)
    (sum_le
    (λ j. window (λ x. if above j then charge j x else 0) s w)
    (λ j. if above j then asks j else 0)
    n
    (λ j l. rw (only_window (above j) (charge j) s w) (go j (above j) (h j l))))
  where
    go : (j : ℕ) (b : Bool) → (b ≡ true → window (charge j) s w ≤ asks j) →
        (if b then window (charge j) s w else 0) ≤ (if b then asks j else 0)
    go j true f = f refl
    go j false f = omega arith

-- The counting, over what is taken (`high`) and what the row gets (`own`).
module _ (high : ℕ → ℕ) (own : ℕ → ℕ) (C R s x from gap : ℕ) (back : from + gap ≡ s)
    (all : (y : ℕ) → y < gap → 0 < high (from + y)) (each : (y : ℕ) → y < x → 0 < high (s + y) + own (s + y))
    (most : (y : ℕ) → y ≤ R → from + y ≤ s + x → C + window high from y ≤ R) where
  early : (y : ℕ) → y ≤ gap → y ≤ window high from y
  early y l = window_full high from y (λ z m. all z (omega arith))

  late : (y : ℕ) → y ≤ x → gap + y ≤ window high from (gap + y) + window own s y
  late y l =
      let f = window_full (λ z. high z + own z) s y (λ z m. each z (omega arith)) in
      let w = window_split high from gap y in
      let e = early gap (omega arith) in
      omega (arith, rw back at w, window_add high own s y)

  pub counted : x ≤ R → C ≤ window own s x + (R - x)
  counted r =
      elim (le_or_lt (gap + x) R) [
        | inl l ↦ omega (arith, late x (omega arith), most (gap + x) l (omega arith))
        | inr l ↦ elim (le_or_lt R gap) [
          | inl m ↦ omega (arith, early R m, most R (omega arith) (omega arith))
          | inr m ↦ at (R - gap) (omega arith) (omega arith)
        ]
      ]
    where
      at : (y : ℕ) → gap + y ≡ R → y ≤ x → C ≤ window own s x + (R - x)
      at y e l =
          omega (arith, late y l, most (gap + y) (omega arith) (omega arith), window_start own s y x l)

-- What a row asks of r ticks: a row that keeps its budget may spend it late in one period and early
-- in the next.
abbrev pub asked : Bool → ℕ → ℕ → ℕ → ℕ
asked true T C r = up r T * C
asked false T C r = up (r + (T - C)) T * C

-- The first len ticks of n rows, in which no capacity of row j passes C j; at tick 0 every period
-- begins.
pub record Rows (n len : ℕ) (T : ℕ → ℕ) (C : ℕ → ℕ) (k : ℕ → Course) : Type 0 where
  pub account : (j : ℕ) → j < n → Account (T j) len (k j)
  pub most : (j : ℕ) → j < n → (x : ℕ) → x < len → (k j).capacity x ≤ C j
  pub fits : (j : ℕ) → j < n → C j ≤ T j
  pub fresh : (j : ℕ) → j < n → 0 < len → (k j).elapsed 0 ≡ 0
  pub unused : (j : ℕ) → j < n → 0 < len → (k j).used 0 ≡ 0

abbrev pub charge_of : (ℕ → Course) → ℕ → ℕ → ℕ
charge_of k j = (k j).charge

module _ (n len : ℕ) (timed : ℕ → Bool) (T : ℕ → ℕ) (C : ℕ → ℕ) (k : ℕ → Course) (rows : Rows n len T C k)
    (above : ℕ → Bool)
    (spent : (j : ℕ) → j < n → above j ≡ true → timed j ≡ true → (x : ℕ) → suc x < len →
    busy n above (charge_of k) x ≡ false → Clean (C j) (k j) (suc x)) where
  -- where no row above took the tick before, a timed row above has nothing left
  clean : (j : ℕ) → j < n → above j ≡ true → timed j ≡ true → (x : ℕ) → x < len → Begins (busy n above (charge_of k)) x →
      Clean (C j) (k j) x
  clean j l a t zero h b = inl (rows.fresh j l h)
  clean j l a t (suc x) h b = spent j l a t x h b

  -- so a row above is charged at most what it asks
  charged_asked : (R j from y : ℕ) → j < n → above j ≡ true → Begins (busy n above (charge_of k)) from → y ≤ R →
      from + y ≤ len → window (k j).charge from y ≤ asked (timed j) (T j) (C j) R
  charged_asked R j from zero l a b h m = omega (arith, window_none (k j).charge from)
  charged_asked R j from (suc y) l a b h m = go (timed j) refl
    where
      cap : (x : ℕ) → x < suc y → (k j).capacity (from + x) ≤ C j
      cap x g = rows.most j l (from + x) (omega arith)

      pos : 0 < T j
      pos = omega (arith, (rows.account j l).inside from (omega arith))

      go : (b : Bool) → timed j ≡ b → window (k j).charge from (suc y) ≤ asked b (T j) (C j) R
      go true e =
          omega (
            arith,
            charges_clean (T j) (C j) len (k j) (rows.account j l) from (suc y) m
                (clean j l a e from (omega arith) b) cap,
            mul-le-mul_right (C j) (up_mono (suc y) R (T j) pos h),
          )
      go false e =
          omega (
            arith,
            charges_kept (T j) (C j) len (k j) (rows.account j l) from (suc y) m (rows.fits j l) cap,
            mul-le-mul_right (C j) (up_mono (suc y + (T j - C j)) (R + (T j - C j)) (T j) pos (omega arith)),
          )

  -- The prefix form: after x ticks of its period row i lacks at most R - x of its C i charges. It
  -- is charged in each of them that no row above takes, until it has them.
  pub kept : (i R s x : ℕ) → i < n → C i + sum_below n (λ j. if above j then asked (timed j) (T j) (C j) R else 0) ≤ R →
      (k i).elapsed s ≡ 0 → x ≤ T i → s + x ≤ len →
      ((y : ℕ) → y < x → window (k i).charge s y < C i → (k i).used (s + y) ≡ window (k i).charge s y →
      busy n above (charge_of k) (s + y) ≡ false → 0 < (k i).charge (s + y)) →
      C i ≤ window (k i).charge s x + (R - x)
  kept i R s x l v e f h serves =
      elim (le_or_lt x R) [
        | inl m ↦ upto x m (omega arith)
        | inr m ↦ omega (arith, upto R (omega arith) (omega arith), window_start (k i).charge s R x (omega arith))
      ]
    where
      high : ℕ → ℕ
      high = taken n above (charge_of k)

      own : ℕ → ℕ
      own = (k i).charge

      unused : s < len → (k i).used s ≡ 0
      unused g =
          let p : 0 < len = omega arith in
          let b : (k i).used 0 ≤ (k i).elapsed 0 = omega (arith, rows.fresh i l p, rows.unused i l p) in
          omega (arith, used_low (T i) len (k i) (rows.account i l) b s g)

      since : (y : ℕ) → y < x → (k i).used (s + y) ≡ window own s y
      since y g =
          used_since (T i) len (k i) (rows.account i l) s e (unused (omega arith)) y (omega arith) (omega arith)

      each : (y : ℕ) → y < x → window own s y < C i → 0 < high (s + y) + own (s + y)
      each y g c =
          elim (cases_Bool (busy n above (charge_of k) (s + y))) [
            | inl b ↦ omega (arith, ltb-true 0 (high (s + y)) b)
            | inr b ↦ omega (arith, serves y g c (since y g) b)
          ]

      room : (from y : ℕ) → Begins (busy n above (charge_of k)) from → y ≤ R → from + y ≤ len →
          window high from y ≤ sum_below n (λ j. if above j then asked (timed j) (T j) (C j) R else 0)
      room from y b p q =
          taken_most
          n
          above
          (charge_of k)
          (λ j. asked (timed j) (T j) (C j) R)
          from
          y
          (λ j o a. charged_asked R j from y o a b p q)

      upto : (y : ℕ) → y ≤ R → y ≤ x → C i ≤ window own s y + (R - y)
      upto y m g =
          elim (le_or_lt (C i) (window own s y)) [
            | inl c ↦ omega arith
            | inr c ↦
                (let b = stretch (busy n above (charge_of k)) s in
                counted
                high
                own
                (C i)
                R
                s
                y
                b.from
                (s - b.from)
                (omega (arith, b.before))
                (λ z q. ltb-true 0 (high (b.from + z)) (b.passes (b.from + z) (omega arith) (omega arith)))
                (λ z q. each z (omega arith) (omega (arith, window_start own s z y (omega arith))))
                (λ z p q. omega (arith, room b.from z b.begins p (omega arith)))
                m)
          ]

  -- A whole period: exactly C i charges, all within the first R ticks.
  pub kept_whole : (i R s : ℕ) → i < n →
      C i + sum_below n (λ j. if above j then asked (timed j) (T j) (C j) R else 0) ≤ R → R ≤ T i → (k i).elapsed s ≡ 0 →
      s + T i ≤ len →
      ((y : ℕ) → y < T i → window (k i).charge s y < C i → (k i).used (s + y) ≡ window (k i).charge s y →
      busy n above (charge_of k) (s + y) ≡ false → 0 < (k i).charge (s + y)) →
      (window (k i).charge s R ≡ C i) × (window (k i).charge s (T i) ≡ C i)
  kept_whole i R s l v r e h serves =
      let low = kept i R s R l v e r (omega arith) (λ y g. serves y (omega arith)) in
      let up = window_start (k i).charge s R (T i) r in
      let most : (x : ℕ) → x < T i → (k i).capacity (s + x) ≤ C i = λ x g. rows.most i l (s + x) (omega arith) in
      let top = charges_period (T i) (C i) len (k i) (rows.account i l) s (T i) h (omega arith) e most in
      omega arith
