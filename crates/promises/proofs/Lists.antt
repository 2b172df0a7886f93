-- The counts of some taken ticks in a row, which are made over lists, as sums over windows of time;
-- and what a test that holds of them says of each. Assumes nothing.
use mathlib.Core.Path.{◌≡◌, refl, sym, ap, ◌∙◌}
use mathlib.Core.Bool.{true, false, ◌&&◌}
use mathlib.Core.List.{List, [], ◌∷◌, ◌++◌}
use Prim.Native.Nat.{ℕ, zero, suc, ◌+◌, ◌-◌, ◌≤◌, ◌<◌}
use native.Mathlib.Omega.{arith}
use lib.ListN.{length, get_or, take, drop, length-drop, length-take}
use lib.Seq.{take-suc, drop-cons, get_or-drop, get_or-take, take-take, length-take-le}
use borrow.Author.Tests.{ne_eqb}
use Rattle.std.specs.Cmp.{first_so, second_so}
use Rattle.laws.proofs.Choice.{clash, larger_left, larger_right}
use Rattle.bounds.proofs.Windows.{window, window_none, window_next}
use Rattle.table.specs.declared.Mode.{Mode}
use Rattle.table.specs.declared.Mode.TheVariants.{N, D1, D2}
use Rattle.table.specs.declared.Table.{Table}
use Rattle.run.specs.State.{elapsed_at, waits}
use Rattle.events.specs.Answers.{charged}
use Rattle.run.specs.Found.{TakenTick}
use Rattle.promises.specs.Bounds.{in_row, charges, started_at, in_force_at, largest_capacity, elapsed_first, started_first}
use Rattle.promises.specs.Bounds.{is_normal, normal, waits_until}
use Rattle.promises.proofs.Ticks.{no_tick, tick_at, course}

-- a tick of some in a row
pub in_row_at : (ms : List TakenTick) (s w x : ℕ) → x < w → tick_at (in_row ms s w) x ≡ tick_at ms (s + x)
in_row_at ms s w x h = get_or-take w (drop s ms) x no_tick h ∙ get_or-drop s ms x no_tick

pub in_row_length : (ms : List TakenTick) (s w : ℕ) → s + w ≤ length ms → length (in_row ms s w) ≡ w
in_row_length ms s w h = length-take-le w (drop s ms) (omega (arith, length-drop s ms))

-- as many as asked for are there only if they were taken
pub in_row_taken : (ms : List TakenTick) (s w : ℕ) → length (in_row ms s w) ≡ w → 1 ≤ w → s + w ≤ length ms
in_row_taken ms s w e h = omega (arith, length-take w (drop s ms), length-drop s ms)

charges_more : (i : ℕ) (ms ns : List TakenTick) → charges i (ms ++ ns) ≡ charges i ms + charges i ns
unfolding charges
charges_more i [] ns = omega arith
charges_more i (m ∷ ms) ns = omega (arith, charges_more i ms ns)

charges_one : (i : ℕ) (m : TakenTick) → charges i (m ∷ []) ≡ charged m.answer.turn i
unfolding charges
charges_one i m = omega arith

pub charges_window : (t : Table) (i : ℕ) (ms : List TakenTick) (s w : ℕ) → s + w ≤ length ms →
    charges i (in_row ms s w) ≡ window (course t ms i).charge s w
unfolding charges
charges_window t i ms s zero h = sym (window_none (course t ms i).charge s)
charges_window t i ms s (suc w) h =
    rw (
      take-suc (drop s ms) w no_tick (omega (arith, length-drop s ms)),
      charges_more i (take w (drop s ms)) (get_or (drop s ms) w no_tick ∷ []),
      charges_one i (get_or (drop s ms) w no_tick),
      get_or-drop s ms w no_tick,
      window_next (course t ms i).charge s w,
    )
    (omega (arith, charges_window t i ms s w (omega arith)))

-- the largest is none of them below
largest_at : (t : Table) (i : ℕ) (ms : List TakenTick) (x : ℕ) → x < length ms →
    in_force_at t i (tick_at ms x) ≤ largest_capacity t i ms
unfolding largest_capacity
largest_at t i [] x h = absurd (omega arith)
largest_at t i (m ∷ ms) zero h = larger_left (in_force_at t i m) (largest_capacity t i ms)
largest_at t i (m ∷ ms) (suc x) h =
    omega (
      arith,
      largest_at t i ms x (omega arith),
      larger_right (in_force_at t i m) (largest_capacity t i ms),
    )

pub largest_in_row : (t : Table) (i : ℕ) (ms : List TakenTick) (s w x : ℕ) → s ≤ x → x < s + w → x < length ms →
    in_force_at t i (tick_at ms x) ≤ largest_capacity t i (in_row ms s w)
largest_in_row t i ms s w x h k l = at (x - s) (omega arith)
  where
    at : (y : ℕ) → s + y ≡ x → in_force_at t i (tick_at ms x) ≤ largest_capacity t i (in_row ms s w)
    at y e =
        rw
        (ap (in_force_at t i) (ap (tick_at ms) (sym e) ∙ sym (in_row_at ms s w y (omega arith))))
        (largest_at t i (in_row ms s w) y (omega (arith, length-take w (drop s ms), length-drop s ms)))

-- the first of some ticks
pub elapsed_first_lem : (i : ℕ) (ms : List TakenTick) (x : ℕ) → x < length ms →
    elapsed_first i (drop x ms) ≡ elapsed_at (tick_at ms x).found i
elapsed_first_lem i ms x h = rw (drop-cons ms x no_tick h)

pub started_first_lem : (t : Table) (i : ℕ) (ms : List TakenTick) (x : ℕ) → x < length ms →
    started_first t i (drop x ms) ≡ started_at t i (tick_at ms x)
started_first_lem t i ms x h = rw (drop-cons ms x no_tick h)

pub elapsed_in_row : (i : ℕ) (ms : List TakenTick) (s w : ℕ) → s < length ms → 1 ≤ w →
    elapsed_first i (in_row ms s w) ≡ elapsed_at (tick_at ms s).found i
elapsed_in_row i ms s zero h l = absurd (omega arith)
elapsed_in_row i ms s (suc w) h l = rw (drop-cons ms s no_tick h)

pub started_in_row : (t : Table) (i : ℕ) (ms : List TakenTick) (s w : ℕ) → s < length ms → 1 ≤ w →
    started_first t i (in_row ms s w) ≡ started_at t i (tick_at ms s)
started_in_row t i ms s zero h l = absurd (omega arith)
started_in_row t i ms s (suc w) h l = rw (drop-cons ms s no_tick h)

-- each of the ticks is normal
is_normal_lem : (m : Mode) → is_normal m ≡ true → m ≡ N
is_normal_lem N e = refl
is_normal_lem D1 e = absurd (clash false e refl)
is_normal_lem D2 e = absurd (clash false e refl)

normal_each : (ms : List TakenTick) → normal ms ≡ true → (x : ℕ) → x < length ms → (tick_at ms x).answer.mode ≡ N
unfolding normal
normal_each [] e x h = absurd (omega arith)
normal_each (m ∷ ms) e zero h = is_normal_lem m.answer.mode (first_so (is_normal m.answer.mode) (normal ms) e)
normal_each (m ∷ ms) e (suc x) h = normal_each ms (second_so (is_normal m.answer.mode) (normal ms) e) x (omega arith)

pub normal_at : (ms : List TakenTick) (w : ℕ) → normal (in_row ms 0 w) ≡ true → w ≤ length ms → (x : ℕ) → x < w →
    (tick_at ms x).answer.mode ≡ N
normal_at ms w e h x l =
    ap (λ m. m.answer.mode) (sym (get_or-take w ms x no_tick l))
    ∙ normal_each (take w ms) e x (omega (arith, length-take-le w ms h))

-- a job waits at each tick until so many charges are reached
still : (t : Table) (i c : ℕ) (m : TakenTick) (ms : List TakenTick) → waits_until t i c (m ∷ ms) ≡ true → 0 < c →
    (waits t m.found i && waits_until t i (c - charged m.answer.turn i) ms) ≡ true
unfolding waits_until
still t i c m ms e h = rw (ne_eqb c 0 (λ q. omega arith)) at e

waits_each : (t : Table) (i c : ℕ) (ms : List TakenTick) → waits_until t i c ms ≡ true → (x : ℕ) → x < length ms →
    charges i (take x ms) < c → waits t (tick_at ms x).found i ≡ true
unfolding charges
waits_each t i c [] e x h l = absurd (omega arith)
waits_each t i c (m ∷ ms) e zero h l =
    first_so (waits t m.found i) (waits_until t i (c - charged m.answer.turn i) ms) (still t i c m ms e (omega arith))
waits_each t i c (m ∷ ms) e (suc x) h l =
    waits_each
    t
    i
    (c - charged m.answer.turn i)
    ms
    (second_so (waits t m.found i) (waits_until t i (c - charged m.answer.turn i) ms) (still t i c m ms e (omega arith)))
    x
    (omega arith)
    (omega arith)

pub waits_at_lem : (t : Table) (i c : ℕ) (ms : List TakenTick) (s w : ℕ) → waits_until t i c (in_row ms s w) ≡ true →
    s + w ≤ length ms → (x : ℕ) → x < w → window (course t ms i).charge s x < c →
    waits t (tick_at ms (s + x)).found i ≡ true
waits_at_lem t i c ms s w e h x l k =
    rw
    (← in_row_at ms s w x l)
    (waits_each
    t
    i
    c
    (in_row ms s w)
    e
    x
    (omega (arith, in_row_length ms s w h))
    (rw (take-take x w (drop s ms) (omega arith)) (omega (arith, charges_window t i ms s x (omega arith)))))
