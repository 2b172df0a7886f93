-- The taken ticks of a run, one after the other: each finds the counts that the one before left,
-- started afresh where the period is over, and says what step 5 chose. So every server keeps its
-- account (crate bounds) in the course of any events, from any state whose elapsed counts are
-- within the periods. Assumes nothing.
use Rattle.std.specs.Prelude.{if◌then◌else◌}
use mathlib.Core.Path.{◌≡◌, refl, sym, ap, ◌∙◌}
use mathlib.Core.Bool.{Bool, true, false}
use mathlib.Core.List.{List, [], ◌∷◌, ◌++◌}
use mathlib.Core.Logic.{inl, inr}
use Prim.Native.Nat.{ℕ, zero, suc, ◌+◌, ◌*◌, ◌-◌, ◌≤◌, ◌<◌}
use native.Mathlib.Omega.{arith}
use native.Mathlib.Nat.{add-zero, add-suc, zero-mul}
use native.Mathlib.Numerals.{add-one}
use lib.Dec.{eqb}
use lib.ListN.{length, get_or, replicate}
use borrow.Author.Tests.{le-leb, lt-leb, eqb-true, eqb-false, eq-eqb, ne_eqb}
use Rattle.laws.proofs.Choice.{if_ind}
use Rattle.bounds.proofs.Ledger.{Course, Next, goes, refills, Account}
use Rattle.table.specs.declared.Mode.TheVariants.{N}
use Rattle.table.specs.declared.Table.{Table}
use Rattle.units.specs.declared.Ticks.{Ticks}
use Rattle.table.specs.Rows.{period_at, phase_at}
use Rattle.run.specs.declared.State.{State}
use Rattle.run.specs.declared.Run.{Run}
use Rattle.events.specs.declared.Event.{Event}
use Rattle.events.specs.declared.Event.TheVariants.{Release, Tick}
use Rattle.events.specs.declared.Turn.TheVariants.{Idle}
use Rattle.events.specs.declared.Left.TheVariants.{Nobody}
use Rattle.events.specs.declared.Answered.{Answered}
use Rattle.run.specs.State.{used_at, elapsed_at, started, in_force, passes, fresh}
use Rattle.events.specs.Answers.{charged}
use Rattle.run.specs.Release.{with_job}
use Rattle.run.specs.Tick.{settle, choose, tick_taken}
use Rattle.run.proofs.Taken.{release_ind, tick_ind, release_taken, ticked_taken}
use Rattle.run.proofs.Shape.{Shaped, job_shaped, tick_shaped, settle_counts}
use Rattle.run.proofs.Tick.{used_settled, elapsed_settled, used_after, elapsed_after, answer_mode, answer_turn, charged_able}
use Rattle.run.proofs.Tick.{able_room, answer_tick, ticks_after, charged_passes, passes_most, passes_late}
use Rattle.events.proofs.Answers.{charged_is, charged_le}
use Rattle.run.specs.Found.{TakenTick, tick_taken_so, taken_by, taken_ticks}
use Rattle.promises.specs.Bounds.{started_at, in_force_at}

-- what stands where no tick was taken
abbrev pub no_tick : TakenTick
no_tick =
    record {
      found = fresh;
      discarded = λ k. 0;
      answer = record { tick = record { 0 = 0 }; mode = N; turn = Idle; left = Nobody; discarded = 0 };
    }

abbrev pub tick_at : List TakenTick → ℕ → TakenTick
tick_at ms x = get_or ms x no_tick

-- server i in these ticks
abbrev pub course : Table → List TakenTick → ℕ → Course
course t ms i =
    record {
      used = λ x. used_at (tick_at ms x).found i;
      elapsed = λ x. elapsed_at (tick_at ms x).found i;
      capacity = λ x. in_force_at t i (tick_at ms x);
      charge = λ x. charged (tick_at ms x).answer.turn i;
    }

-- a tick's answer tells the mode that step 5 found, what it chose, and the tick's number
pub record Told (t : Table) (m : TakenTick) : Type 0 where
  pub tick : m.answer.tick ≡ m.found.ticks
  pub turn : m.answer.turn ≡ choose t m.found
  pub mode : m.answer.mode ≡ m.found.mode

-- so it tells the capacity in force that step 5 found, and who has started
pub force_told : (t : Table) (m : TakenTick) → Told t m → (i : ℕ) → in_force t m.found i ≡ in_force_at t i m
unfolding in_force
force_told t m d i = rw (d.tick, d.mode)

pub started_told : (t : Table) (m : TakenTick) → Told t m → (i : ℕ) → started_at t i m ≡ started t m.found i
started_told t m d i = rw d.tick

-- server i has the counts u and e, or both began anew
pub record Refilled (t : Table) (i u e : ℕ) (z : State) : Type 0 where
  pub used : used_at z i ≡ (if eqb e (period_at t i) then 0 else u)
  pub elapsed : elapsed_at z i ≡ (if eqb e (period_at t i) then 0 else e)

pub record Follows (t : Table) (s : State) (ms : List TakenTick) : Type 0 where
  pub told : (x : ℕ) → x < length ms → Told t (tick_at ms x)
  pub number : (x : ℕ) → x < length ms → (tick_at ms x).found.ticks.0 ≡ s.ticks.0 + x
  pub first : 0 < length ms → (i : ℕ) → i < t.nservers → Refilled t i (used_at s i) (elapsed_at s i) (tick_at ms 0).found
  pub next : (x : ℕ) → suc x < length ms → (i : ℕ) → i < t.nservers →
      Refilled t i (used_at (tick_at ms x).found i + charged (tick_at ms x).answer.turn i)
      (elapsed_at (tick_at ms x).found i + passes t (tick_at ms x).found i)
      (tick_at ms (suc x)).found

follows_none : (t : Table) (s : State) → Follows t s []
follows_none t s =
    record {
      told = λ x h. absurd (omega arith);
      number = λ x h. absurd (omega arith);
      first = λ h. absurd (omega arith);
      next = λ x h. absurd (omega arith);
    }

-- the tick that a state takes
abbrev pub tick_on : Table → State → Bool → TakenTick
tick_on t s mark = tick_taken_so (settle t s mark) (tick_taken t s mark).answer

pub told_one : (t : Table) (s : State) (mark : Bool) → Told t (tick_on t s mark)
told_one t s mark =
    record {
      tick = answer_tick t s mark ∙ sym (settle_counts t s mark).0;
      turn = answer_turn t s mark;
      mode = answer_mode t s mark;
    }

pub told_more : (t : Table) (m : TakenTick) (ms : List TakenTick) → Told t m →
    ((x : ℕ) → x < length ms → Told t (tick_at ms x)) → (x : ℕ) → x < suc (length ms) → Told t (tick_at (m ∷ ms) x)
told_more t m ms d f zero h = d
told_more t m ms d f (suc x) h = f x (omega arith)

-- it, and the ticks that follow on the state after it
follows_one : (t : Table) (s : State) (mark : Bool) (ms : List TakenTick) → t.nservers ≤ 32 → Shaped s →
    Follows t (tick_taken t s mark).state ms → Follows t s (tick_on t s mark ∷ ms)
follows_one t s mark ms few shape f = record { told = says; number = counted; first = λ h. begun; next = on }
  where
    says : (x : ℕ) → x < suc (length ms) → Told t (tick_at (tick_on t s mark ∷ ms) x)
    says = told_more t (tick_on t s mark) ms (told_one t s mark) f.told

    counted : (x : ℕ) → x < suc (length ms) → (tick_at (tick_on t s mark ∷ ms) x).found.ticks.0 ≡ s.ticks.0 + x
    counted zero h = ap (λ (n : Ticks). n.0) (settle_counts t s mark).0 ∙ sym (add-zero s.ticks.0)
    counted (suc x) h = omega (arith, f.number x (omega arith), ticks_after t s mark)

    begun : (i : ℕ) → i < t.nservers → Refilled t i (used_at s i) (elapsed_at s i) (settle t s mark).state
    begun i l =
        record { used = used_settled t s mark i l few shape; elapsed = elapsed_settled t s mark i l few shape }

    on : (x : ℕ) → suc x < suc (length ms) → (i : ℕ) → i < t.nservers →
        Refilled t i
        (used_at (tick_at (tick_on t s mark ∷ ms) x).found i + charged (tick_at (tick_on t s mark ∷ ms) x).answer.turn i)
        (elapsed_at (tick_at (tick_on t s mark ∷ ms) x).found i + passes t (tick_at (tick_on t s mark ∷ ms) x).found i)
        (tick_at ms x).found
    on zero h i l =
        rw
        (answer_turn t s mark, ← used_after t s mark i l few shape, ← elapsed_after t s mark i l few shape)
        (f.first (omega arith) i l)
    on (suc x) h i l = f.next x (omega arith) i l

-- a release changes no count of a server
follows_job : (t : Table) (s : State) (k : ℕ) (ms : List TakenTick) → Follows t (with_job s k) ms → Follows t s ms
follows_job t s k ms f = record { told = f.told; number = f.number; first = f.first; next = f.next }

pub follows : (r : Run) (es : List Event) → r.table.nservers ≤ 32 → Shaped r.state →
    Follows r.table r.state (taken_ticks r es)
unfolding taken_ticks
follows r [] few shape = follows_none r.table r.state
follows r (Release k ∷ es) few shape =
    release_ind
    (λ (a : Answered Run). Follows r.table r.state (taken_ticks a.run es))
    r
    k
    (λ why. follows r es few shape)
    (λ y.
    follows_job
    r.table
    r.state
    k
    (taken_ticks (release_taken r k).run es)
    (follows (release_taken r k).run es few (job_shaped r.state k shape)))
follows r (Tick mark ∷ es) few shape =
    tick_ind
    (λ (a : Answered Run). Follows r.table r.state (taken_by r (Tick mark) a.answer ++ taken_ticks a.run es))
    r
    mark
    (λ why. follows r es few shape)
    (λ y.
    follows_one
    r.table
    r.state
    mark
    (taken_ticks (ticked_taken r mark).run es)
    few
    shape
    (follows (ticked_taken r mark).run es few (tick_shaped r.table r.state mark shape)))

-- the counts stay within a period
refilled_low : (t : Table) (i u e : ℕ) (z : State) → Refilled t i u e z → 1 ≤ period_at t i → e ≤ period_at t i →
    elapsed_at z i < period_at t i
refilled_low t i u e z r p h = go (eqb e (period_at t i)) refl r.elapsed
  where
    go : (b : Bool) → eqb e (period_at t i) ≡ b → elapsed_at z i ≡ (if b then 0 else e) → elapsed_at z i < period_at t i
    go true q k = omega arith
    go false q k = lower (eqb-false e (period_at t i) q) k
      where
        lower : (e ≡ period_at t i → ⊥) → elapsed_at z i ≡ e → elapsed_at z i < period_at t i
        lower n k = omega arith

refilled_next : (t : Table) (i : ℕ) (ms : List TakenTick) (x : ℕ) → Told t (tick_at ms x) →
    elapsed_at (tick_at ms x).found i < period_at t i →
    Refilled t i (used_at (tick_at ms x).found i + charged (tick_at ms x).answer.turn i)
    (elapsed_at (tick_at ms x).found i + passes t (tick_at ms x).found i) (tick_at ms (suc x)).found →
    Next (period_at t i) (course t ms i) x
refilled_next t i ms x d low r = go (eqb e (period_at t i)) refl r.used r.elapsed
  where
    now : State
    now = (tick_at ms x).found

    z : State
    z = (tick_at ms (suc x)).found

    u : ℕ
    u = used_at (tick_at ms x).found i + charged (tick_at ms x).answer.turn i

    e : ℕ
    e = elapsed_at now i + passes t now i

    least : charged (tick_at ms x).answer.turn i ≤ passes t now i
    least = rw d.turn (charged_passes t now i)

    go : (b : Bool) → eqb e (period_at t i) ≡ b → used_at z i ≡ (if b then 0 else u) →
        elapsed_at z i ≡ (if b then 0 else e) →
        Next (period_at t i) (course t ms i) x
    go true q v w = refills (omega (arith, eqb-true e (period_at t i) q, passes_most t now i)) w v
    go false q v w = goes (omega (arith, least)) (omega (arith, passes_most t now i)) v

module _ (t : Table) (s : State) (ms : List TakenTick) (f : Follows t s ms) where
  -- a charge needs used below the capacity in force
  has_room_lem : (i x : ℕ) → x < length ms → charged (tick_at ms x).answer.turn i ≤
      in_force_at t i (tick_at ms x) - used_at (tick_at ms x).found i
  has_room_lem i x h =
      elim (charged_is (tick_at ms x).answer.turn i) [
        | inl c ↦ omega arith
        | inr c ↦
            (let m = tick_at ms x in
            let d = ap (λ turn. charged turn i) (sym (f.told x h).turn) ∙ c in
            let a = able_room t m.found i (charged_able t m.found i d).1 in
            omega (arith, force_told t (tick_at ms x) (f.told x h) i))
      ]

  inside : (i : ℕ) → i < t.nservers → 1 ≤ period_at t i → elapsed_at s i ≤ period_at t i → (x : ℕ) → x < length ms →
      elapsed_at (tick_at ms x).found i < period_at t i
  inside i l p e zero h = refilled_low t i (used_at s i) (elapsed_at s i) (tick_at ms 0).found (f.first h i l) p e
  inside i l p e (suc x) h =
      refilled_low
      t
      i
      (used_at (tick_at ms x).found i + charged (tick_at ms x).answer.turn i)
      (elapsed_at (tick_at ms x).found i + passes t (tick_at ms x).found i)
      (tick_at ms (suc x)).found
      (f.next x h i l)
      p
      (omega (arith, inside i l p e x (omega arith), passes_most t (tick_at ms x).found i))

  pub account : (i : ℕ) → i < t.nservers → 1 ≤ period_at t i → elapsed_at s i ≤ period_at t i →
      Account (period_at t i) (length ms) (course t ms i)
  account i l p e =
      record {
        inside = inside i l p e;
        once = λ x h. charged_le (tick_at ms x).answer.turn i;
        room = has_room_lem i;
        next =
            λ x h.
            refilled_next t i ms x (f.told x (omega arith)) (inside i l p e x (omega arith)) (f.next x h i l);
      }

-- "A fresh run is in N, all counts 0."
pub zeros : (n j : ℕ) → ◌≡◌ {A = ℕ} (get_or (replicate n 0) j 0) 0
zeros zero j = refl
zeros (suc n) zero = refl
zeros (suc n) (suc j) = zeros n j

-- so its first tick finds them 0
module _ (t : Table) (ms : List TakenTick) (f : Follows t fresh ms) (h : 0 < length ms) (i : ℕ) (l : i < t.nservers) where
  pub first_used : used_at (tick_at ms 0).found i ≡ 0
  first_used =
      (f.first h i l).used
      ∙ if_ind (λ (n : ℕ). n ≡ 0) (eqb (elapsed_at fresh i) (period_at t i)) (λ e. refl) (λ e. zeros 32 i)

  pub first_elapsed : elapsed_at (tick_at ms 0).found i ≡ 0
  first_elapsed =
      (f.first h i l).elapsed
      ∙ if_ind (λ (n : ℕ). n ≡ 0) (eqb (elapsed_at fresh i) (period_at t i)) (λ e. refl) (λ e. zeros 32 i)

-- From a fresh start step 5 finds elapsed 0 up to tick F, the phase, and at tick F + q T, and one more
-- at each tick to the period's end.
module _ (t : Table) (ms : List TakenTick) (f : Follows t fresh ms) (i : ℕ) (l : i < t.nservers) (p : 1 ≤ period_at t i) where
  begun : (x : ℕ) → x < length ms → phase_at t i ≤ x → started t (tick_at ms x).found i ≡ true
  begun x h g = le-leb (phase_at t i) (tick_at ms x).found.ticks.0 (omega (arith, f.number x h))

  pub late : (x : ℕ) → x < length ms → x < phase_at t i → started t (tick_at ms x).found i ≡ false
  late x h g = lt-leb (phase_at t i) (tick_at ms x).found.ticks.0 (omega (arith, f.number x h))

  counts_on_lem : (x e : ℕ) → suc x < length ms → phase_at t i ≤ x → elapsed_at (tick_at ms x).found i ≡ e →
      suc e < period_at t i → elapsed_at (tick_at ms (suc x)).found i ≡ suc e
  counts_on_lem x e h g q m =
      (f.next x h i l).elapsed
      ∙ rw (begun x (omega arith) g, q, ne_eqb (e + 1) (period_at t i) (λ n. omega arith), add-one e)

  counts_anew : (x e : ℕ) → suc x < length ms → phase_at t i ≤ x → elapsed_at (tick_at ms x).found i ≡ e →
      suc e ≡ period_at t i → elapsed_at (tick_at ms (suc x)).found i ≡ 0
  counts_anew x e h g q m =
      (f.next x h i l).elapsed ∙ rw (begun x (omega arith) g, q, eq-eqb (e + 1) (period_at t i) (omega arith))

  counts : (s : ℕ) → phase_at t i ≤ s → elapsed_at (tick_at ms s).found i ≡ 0 → (y : ℕ) → y < period_at t i →
      s + y < length ms → elapsed_at (tick_at ms (s + y)).found i ≡ y
  counts s g e zero h m = rw (add-zero s) e
  counts s g e (suc y) h m =
      rw
      (add-suc s y)
      (counts_on_lem (s + y) y (omega (arith, add-suc s y)) (omega arith) (counts s g e y (omega arith) (omega arith))
      (omega arith))

  -- none is elapsed, and none used, until it has started
  pub until_started : (x : ℕ) → x ≤ phase_at t i → x < length ms →
      (elapsed_at (tick_at ms x).found i ≡ 0) × (used_at (tick_at ms x).found i ≡ 0)
  until_started zero g h = (first_elapsed t ms f h i l, first_used t ms f h i l)
  until_started (suc x) g h = go (until_started x (omega arith) (omega arith))
    where
      still : (b : Bool) (n : ℕ) → n ≡ 0 → (if b then 0 else n) ≡ 0
      still true n e = refl
      still false n e = e

      none : passes t (tick_at ms x).found i ≡ 0
      none = passes_late t (tick_at ms x).found i (late x (omega arith) (omega arith))

      free : charged (tick_at ms x).answer.turn i ≡ 0
      free =
          omega (
            arith,
            none,
            ap (λ u. charged u i) (f.told x (omega arith)).turn,
            charged_passes t (tick_at ms x).found i,
          )

      go : (elapsed_at (tick_at ms x).found i ≡ 0) × (used_at (tick_at ms x).found i ≡ 0) →
          (elapsed_at (tick_at ms (suc x)).found i ≡ 0) × (used_at (tick_at ms (suc x)).found i ≡ 0)
      go (e, u) =
          let z = (tick_at ms x).found in
          let over = eqb (elapsed_at z i + passes t z i) (period_at t i) in (
            (f.next x h i l).elapsed ∙ still over (elapsed_at z i + passes t z i) (omega (arith, e, none)),
            (f.next x h i l).used ∙ still over (used_at z i + charged (tick_at ms x).answer.turn i) (omega (arith, u, free)),
          )

  pub period_begins : (q : ℕ) → phase_at t i + q * period_at t i < length ms →
      elapsed_at (tick_at ms (phase_at t i + q * period_at t i)).found i ≡ 0
  period_begins zero h =
      rw (zero-mul (period_at t i), add-zero (phase_at t i)) (until_started (phase_at t i) (omega arith) (omega arith)).0
  period_begins (suc q) h =
      let T = period_at t i in
      let F = phase_at t i in
      let e : suc (F + q * T + (T - 1)) ≡ F + suc q * T = omega arith in
      let c = counts (F + q * T) (omega arith) (period_begins q (omega arith)) (T - 1) (omega arith) (omega arith) in
      rw (← e) (counts_anew (F + q * T + (T - 1)) (T - 1) (omega arith) (omega arith) c (omega arith))
