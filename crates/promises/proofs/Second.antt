-- Towards the second bound: while the mode is normal, a timed row above that did not take a tick
-- has spent its capacity, a row with its budget left takes each tick that no row above takes, and
-- the rows above ask what the verdict's interference says. So the response that crate bounds shows
-- for functions of time is kept by the taken ticks. Assumes nothing.
use Rattle.std.specs.Prelude.{if◌then◌else◌}
use mathlib.Core.Path.{◌≡◌, refl, sym, ap, ◌∙◌}
use mathlib.Core.Bool.{Bool, true, false, ◌&&◌, ◌||◌}
use mathlib.Core.List.{List}
use mathlib.Core.Logic.{◌⊎◌, inl, inr}
use Prim.Native.Nat.{ℕ, zero, suc, ◌+◌, ◌-◌, ◌≤◌, ◌<◌}
use native.Mathlib.Omega.{arith}
use lib.Dec.{ltb, eqb}
use lib.ListN.{length, drop}
use borrow.Author.Tests.{leb-true, leb-false, le-leb, ltb-true, lt-ltb, eqb-true}
use Rattle.laws.specs.Rows.{sum_below}
use Rattle.std.specs.Cmp.{first_so, second_so}
use Rattle.std.proofs.lemmas.Bool.{or_cases, cases_Bool}
use Rattle.laws.proofs.Choice.{le_or_lt}
use Rattle.laws.proofs.Rows.{sum_cong}
use Rattle.bounds.proofs.Windows.{window, rows_fewer}
use Rattle.bounds.proofs.Ledger.{Next, goes, refills, Account, account_of, Clean}
use Rattle.bounds.proofs.Response.{Rows, charge_of, busy, quiet, asked, kept, kept_whole}
use Rattle.table.specs.declared.Kind.{Kind}
use Rattle.table.specs.declared.Kind.TheVariants.{Event as EventServer, Timed}
use Rattle.table.specs.declared.Mode.TheVariants.{N}
use Rattle.table.specs.declared.Table.{Table}
use Rattle.table.specs.Rows.{server_at, priority_at, period_at, phase_at, capacity_at, is_timed}
use Rattle.verdict.specs.Verdict.{demand, demand_at, interference}
use Rattle.verdict.proofs.Verdicts.{LeastResponse}
use Rattle.run.specs.declared.State.{State}
use Rattle.run.specs.State.{used_at, elapsed_at, started, in_force, waits, fresh}
use Rattle.events.specs.Answers.{charged}
use Rattle.run.specs.Tick.{able}
use Rattle.run.proofs.Tick.{timed_able, waiting_able, force_started, force_low}
use Rattle.run.specs.Found.{TakenTick}
use Rattle.promises.specs.Bounds.{in_row, charges, started_at, in_force_at, elapsed_first, started_first, normal, whole_period}
use Rattle.promises.specs.Bounds.{waits_until}
use Rattle.promises.proofs.Accepted.{Accepted, there}
use Rattle.promises.proofs.Ticks.{tick_at, course, force_told, started_told, Follows, account, first_used, first_elapsed}
use Rattle.promises.proofs.Ticks.{until_started, zeros}
use Rattle.promises.proofs.Lists.{charges_window, elapsed_first_lem, elapsed_in_row, started_first_lem, started_in_row}
use Rattle.promises.proofs.Lists.{in_row_taken, normal_at, waits_at_lem}
use Rattle.promises.proofs.Charged.{charged_unless}

-- row j is above row i
abbrev pub above : Table → ℕ → ℕ → Bool
above t i j = ltb (priority_at t i) (priority_at t j)

abbrev pub timed_at : Table → ℕ → Bool
timed_at t j = is_timed (server_at t j).kind

asked_is : (k : Kind) (T C r : ℕ) → asked (is_timed k) T C r ≡ demand k T C r
asked_is EventServer T C r = refl
asked_is Timed T C r = refl

-- what the rows above ask is the interference of the verdict
pub asked_above : (t : Table) (i R : ℕ) → there t ≤ t.nservers →
    sum_below (there t) (λ j. if above t i j then asked (timed_at t j) (period_at t j) (capacity_at t N j) R else 0) ≤
    interference t N i R
unfolding interference
asked_above t i R h =
    omega (
      arith,
      rows_fewer
          (λ j. if above t i j then asked (timed_at t j) (period_at t j) (capacity_at t N j) R else 0)
          (there t)
          t.nservers
          h,
      sum_cong
          (λ j. if above t i j then asked (timed_at t j) (period_at t j) (capacity_at t N j) R else 0)
          (λ j. if above t i j then demand_at t N R j else 0)
          t.nservers
          (λ j l.
          ap
          (λ x. if above t i j then x else 0)
          (asked_is (server_at t j).kind (period_at t j) (capacity_at t N j) R)),
    )

module _ (t : Table) (ms : List TakenTick) (f : Follows t fresh ms) (a : Accepted t) (len : ℕ) (h : len ≤ length ms)
    (n : (x : ℕ) → x < len → (tick_at ms x).answer.mode ≡ N) where
  account_there : (j : ℕ) → j < there t → Account (period_at t j) len (course t ms j)
  account_there j l =
      account_of
      (period_at t j)
      (length ms)
      len
      (course t ms j)
      (account t fresh ms f j (omega (arith, a.used)) (a.server j l).period_low (omega (arith, zeros 32 j)))
      h

  -- the capacity in force is the normal one, once a row has started
  found_mode : (j x : ℕ) → x < len → capacity_at t (tick_at ms x).found.mode j ≡ capacity_at t N j
  found_mode j x l = ap (λ m. capacity_at t m j) (sym (f.told x (omega arith)).mode ∙ n x l)

  most_force : (j x : ℕ) → x < len → in_force_at t j (tick_at ms x) ≤ capacity_at t N j
  most_force j x l =
      omega (
        arith,
        force_told t (tick_at ms x) (f.told x (omega arith)) j,
        force_low t (tick_at ms x).found j,
        found_mode j x l,
      )

  found_force : (j x : ℕ) → x < len → started t (tick_at ms x).found j ≡ true →
      in_force t (tick_at ms x).found j ≡ capacity_at t N j
  found_force j x l b = force_started t (tick_at ms x).found j b ∙ found_mode j x l

  rows : Rows (there t) len (period_at t) (capacity_at t N) (course t ms)
  rows =
      record {
        account = account_there;
        most = λ j l x m. most_force j x m;
        fits = λ j l. (a.server j l).capacity N;
        fresh = λ j l z. first_elapsed t ms f (omega arith) j (omega (arith, a.used));
        unused = λ j l z. first_used t ms f (omega arith) j (omega (arith, a.used));
      }

  module _ (i : ℕ) where
    -- a tick that no row above i takes
    Free : ℕ → Type 0
    Free x = busy (there t) (above t i) (charge_of (course t ms)) x ≡ false

    -- in it, an able row from i on up is charged
    charged_free : (j x : ℕ) → x < len → Free x → j < there t → priority_at t i ≤ priority_at t j →
        able t (tick_at ms x).found j ≡ true → charged (tick_at ms x).answer.turn j ≡ 1
    unfolding Free
    charged_free j x l q m p e =
        rw
        (f.told x (omega arith)).turn
        (charged_unless t a (tick_at ms x).found j (omega (arith, a.used)) e (λ v o u.
        rw
        (← (f.told x (omega arith)).turn)
        (quiet (there t) (above t i) (charge_of (course t ms)) x q v o
        (lt-ltb (priority_at t i) (priority_at t v) (omega arith)))))

    -- so a timed row above i has then spent its capacity, or its period ends, or it has not started
    spent : (j : ℕ) → j < there t → above t i j ≡ true → timed_at t j ≡ true → (x : ℕ) → suc x < len → Free x →
        Clean (capacity_at t N j) (course t ms j) (suc x)
    unfolding Free
    spent j l u k x m q =
        elim (cases_Bool (started t z j)) [
          | inl b ↦ go b (le_or_lt (capacity_at t N j) (used_at z j))
          | inr b ↦ inl (until_started t ms f j (omega (arith, a.used)) (a.server j l).period_low (suc x) (later b) (omega arith)).0
        ]
      where
        z : State
        z = (tick_at ms x).found

        on : capacity_at t N j ≤ used_at z j → Next (period_at t j) (course t ms j) x →
            Clean (capacity_at t N j) (course t ms j) (suc x)
        on c (goes e1 e2 e3) = inr (omega arith)
        on c (refills e1 e2 e3) = inl e2

        later : started t z j ≡ false → suc x ≤ phase_at t j
        later b = omega (arith, leb-false (phase_at t j) z.ticks.0 b, f.number x (omega arith))

        go : started t z j ≡ true → (capacity_at t N j ≤ used_at z j) ⊎ (used_at z j < capacity_at t N j) →
            Clean (capacity_at t N j) (course t ms j) (suc x)
        go b (inl c) = on c ((account_there j l).next x m)
        go b (inr c) =
            let e = timed_able t z j k (omega (arith, found_force j x (omega arith) b)) in
            let p = ltb-true (priority_at t i) (priority_at t j) u in
            absurd
            (omega (
              arith,
              charged_free j x (omega arith) q l (omega arith) e,
              quiet (there t) (above t i) (charge_of (course t ms)) x q j l u,
            ))

    -- and row i is charged, if it has started, has budget left and is timed or has a waiting job
    serves : (x : ℕ) → x < len → i < there t → started t (tick_at ms x).found i ≡ true → (timed_at t i ≡ true) ⊎ (waits t (tick_at ms x).found i ≡ true) →
        used_at (tick_at ms x).found i < capacity_at t N i → Free x → 0 < charged (tick_at ms x).answer.turn i
    serves x m l b w c q = omega (arith, charged_free i x m q l (omega arith) (go w))
      where
        go : (timed_at t i ≡ true) ⊎ (waits t (tick_at ms x).found i ≡ true) → able t (tick_at ms x).found i ≡ true
        go (inl k) = timed_able t (tick_at ms x).found i k (omega (arith, found_force i x m b))
        go (inr k) = waiting_able t (tick_at ms x).found i k (omega (arith, found_force i x m b))

    module _ (R s : ℕ) (l : i < there t) (v : capacity_at t N i + interference t N i R ≤ R)
        (e : elapsed_at (tick_at ms s).found i ≡ 0) (b : started t (tick_at ms s).found i ≡ true) where
      -- who has started stays so
      stays : (y : ℕ) → s + y < len → started t (tick_at ms (s + y)).found i ≡ true
      stays y m =
          le-leb (phase_at t i) (tick_at ms (s + y)).found.ticks.0
          (omega (
            arith,
            leb-true (phase_at t i) (tick_at ms s).found.ticks.0 b,
            f.number s (omega arith),
            f.number (s + y) (omega arith),
          ))

      fits : capacity_at t N i
          + sum_below (there t) (λ j. if above t i j then asked (timed_at t j) (period_at t j) (capacity_at t N j) R else 0) ≤ R
      fits = omega (arith, asked_above t i R a.used)

      -- After x ticks of its period row i lacks at most R - x of its charges, if until then it was
      -- timed or had a waiting job at each tick before the capacity was reached.
      pub prefix : (x : ℕ) → x ≤ period_at t i → s + x ≤ len →
          ((y : ℕ) → y < x → window (course t ms i).charge s y < capacity_at t N i →
          (timed_at t i ≡ true) ⊎ (waits t (tick_at ms (s + y)).found i ≡ true)) →
          capacity_at t N i ≤ window (course t ms i).charge s x + (R - x)
      unfolding Free
      prefix x p m w =
          kept
          (there t)
          len
          (timed_at t)
          (period_at t)
          (capacity_at t N)
          (course t ms)
          rows
          (above t i)
          spent
          i
          R
          s
          x
          l
          fits
          e
          p
          m
          (λ y q c u d. serves (s + y) (omega arith) l (stays y (omega arith)) (w y q c) (omega arith) d)

      -- A whole period: exactly the capacity, all within the first R ticks.
      pub whole : R ≤ period_at t i → s + period_at t i ≤ len →
          ((y : ℕ) → y < period_at t i → window (course t ms i).charge s y < capacity_at t N i →
          (timed_at t i ≡ true) ⊎ (waits t (tick_at ms (s + y)).found i ≡ true)) →
          (window (course t ms i).charge s R ≡ capacity_at t N i)
          × (window (course t ms i).charge s (period_at t i) ≡ capacity_at t N i)
      unfolding Free
      whole p m w =
          kept_whole
          (there t)
          len
          (timed_at t)
          (period_at t)
          (capacity_at t N)
          (course t ms)
          rows
          (above t i)
          spent
          i
          R
          s
          l
          fits
          p
          e
          m
          (λ y q c u d. serves (s + y) (omega arith) l (stays y (omega arith)) (w y q c) (omega arith) d)

-- The same of the counts of specs/Bounds.antt.

-- what a server needs at each tick of its period until its capacity is reached: to be timed, or a
-- waiting job
needs : (t : Table) (ms : List TakenTick) (i s x c : ℕ) → s + x ≤ length ms →
    (timed_at t i || waits_until t i c (in_row ms s x)) ≡ true → (y : ℕ) → y < x → window (course t ms i).charge s y < c →
    (timed_at t i ≡ true) ⊎ (waits t (tick_at ms (s + y)).found i ≡ true)
needs t ms i s x c h w y m u = go (or_cases (timed_at t i) (waits_until t i c (in_row ms s x)) w)
  where
    go : (timed_at t i ≡ true) ⊎ (waits_until t i c (in_row ms s x) ≡ true) →
        (timed_at t i ≡ true) ⊎ (waits t (tick_at ms (s + y)).found i ≡ true)
    go (inl k) = inl k
    go (inr k) = inr (waits_at_lem t i c ms s x k h y m u)

module _ (t : Table) (ms : List TakenTick) (f : Follows t fresh ms) (a : Accepted t) (i R s : ℕ) (l : i < t.nservers)
    (c : 1 ≤ capacity_at t N i) (v : LeastResponse t N i R) where
  row : i < there t
  row = a.some i N l c

  -- as its answer tells it
  begun : s < length ms → started_at t i (tick_at ms s) ≡ true → started t (tick_at ms s).found i ≡ true
  begun h b = sym (started_told t (tick_at ms s) (f.told s h) i) ∙ b

  pub charged_prefix : (x : ℕ) → x ≤ period_at t i → s + x ≤ length ms → elapsed_first i (drop s ms) ≡ 0 →
      started_first t i (drop s ms) ≡ true → normal (in_row ms 0 (s + x)) ≡ true → (timed_at t i || waits_until t i (capacity_at t N i) (in_row ms s x)) ≡ true →
      capacity_at t N i ≤ charges i (in_row ms s x) + (R - x)
  charged_prefix zero p h b g n w = omega (arith, v.meets)
  charged_prefix (suc x) p h b g n w =
      let d = sym (elapsed_first_lem i ms s (omega arith)) ∙ b in
      let y = begun (omega arith) (sym (started_first_lem t i ms s (omega arith)) ∙ g) in
      let z = prefix t ms f a (s + suc x) h (normal_at ms (s + suc x) n h) i R s row v.meets d y (suc x) p (omega arith) in
      rw (charges_window t i ms s (suc x) h) (z (needs t ms i s (suc x) (capacity_at t N i) h w))

  pub charged_whole : normal (in_row ms 0 (s + period_at t i)) ≡ true →
      whole_period t i (in_row ms s (period_at t i)) ≡ true →
      (timed_at t i || waits_until t i (capacity_at t N i) (in_row ms s (period_at t i))) ≡ true →
      (charges i (in_row ms s (period_at t i)) ≡ capacity_at t N i) × (charges i (in_row ms s R) ≡ capacity_at t N i)
  charged_whole n q w =
      let T = period_at t i in
      let o : 1 ≤ T = (a.server i row).period_low in
      let long = eqb (length (in_row ms s T)) T in
      let new = eqb (elapsed_first i (in_row ms s T)) 0 in
      let on = started_first t i (in_row ms s T) in
      let r = first_so (long && new) on q in
      let h : s + T ≤ length ms = in_row_taken ms s T (eqb-true (length (in_row ms s T)) T (first_so long new r)) o in
      let d = sym (elapsed_in_row i ms s T (omega arith) o) ∙ eqb-true (elapsed_first i (in_row ms s T)) 0 (second_so long new r) in
      let b = begun (omega arith) (sym (started_in_row t i ms s T (omega arith) o) ∙ second_so (long && new) on q) in
      let z = whole t ms f a (s + T) h (normal_at ms (s + T) n h) i R s row v.meets d b v.to_period (omega arith) in
      let y = z (needs t ms i s T (capacity_at t N i) h w) in
      (charges_window t i ms s T h ∙ y.1, charges_window t i ms s R (omega (arith, v.to_period)) ∙ y.0)
