-- From microseconds to ticks and back: a whole number of ticks comes back as it was, and a row
-- comes back from its line. Of a line only a task time may change on the way, and it does exactly
-- where it was not whole ticks, and a phase 0, which is left out. Assumes nothing.
use Rattle.std.specs.Prelude.{if◌then◌else◌, None, Option, Some}
use mathlib.Core.Path.{◌≡◌, refl, sym, ap}
use mathlib.Core.Bool.{Bool, true, false, not}
use mathlib.Core.List.{[], ◌∷◌}
use Prim.Native.Nat.{ℕ, ◌*◌, ◌/◌, ◌%◌, ◌<◌}
use native.Mathlib.Omega.{arith}
use native.Mathlib.Nat.{div-add-mod', mul-div_cancel, mul-mod_left, le_of_mul-le-mul_right, zero-div, zero-mul}
use lib.Dec.{eqb}
use borrow.Author.Tests.{eqb-true, eqb-false, eq-eqb, ne_eqb}
use Rattle.laws.specs.Choice.{every}
use Rattle.laws.specs.RoundUp.{up}
use Rattle.laws.proofs.Choice.{clash, every_at}
use Rattle.laws.proofs.RoundUp.{up_le, le_up}
use Rattle.units.specs.declared.Ticks.{Ticks}
use Rattle.units.specs.declared.Micros.{Micros}
use Rattle.table.specs.declared.Server.{Server}
use Rattle.table.specs.declared.Task.{Task}
use Rattle.text.specs.declared.ServerLine.{ServerLine}
use Rattle.text.specs.declared.Line.{Line}
use Rattle.text.specs.declared.Line.TheVariants.{OfTick, OfServer, OfTask, Malformed}
use Rattle.text.specs.Standing.{in_ticks, phase_said, server_of, rounded_up, task_of, whole, server_whole}
use Rattle.text.specs.Write.{in_micros, phase_back, server_back, task_back, task_times_whole, not_zero, phase_not_zero}

-- numbers
pub up_times : (n t : ℕ) → 0 < t → up (n * t) t ≡ n
up_times n t h =
    omega (arith, up_le (n * t) t n h (omega arith), le_of_mul-le-mul_right {m = n} {n = up (n * t) t} {k = t} (le_up (n * t) t h) h)

pub whole_div : (u t : ℕ) → u % t ≡ 0 → u / t * t ≡ u
whole_div u t e = omega (arith, div-add-mod' u t)

pub whole_up : (u t : ℕ) → 0 < t → u % t ≡ 0 → up u t * t ≡ u
whole_up u t h e = rw (← whole_div u t e, up_times (u / t) t h)

pub up_whole : (u t : ℕ) → up u t * t ≡ u → u % t ≡ 0
up_whole u t e = rw (← e) (mul-mod_left (up u t) t)

-- times
there : (t : ℕ) → 0 < t → (x : Ticks) → in_ticks t (in_micros t x) ≡ x
there t h x = rw (mul-div_cancel x.0 {n = t} h)

rounded_there : (t : ℕ) → 0 < t → (x : Ticks) → rounded_up t (in_micros t x) ≡ x
rounded_there t h x = rw (up_times x.0 t h)

back : (t : ℕ) (u : Micros) → whole t u ≡ true → in_micros t (in_ticks t u) ≡ u
back t u e = rw (whole_div u.0 t (eqb-true (u.0 % t) 0 e))

-- whole ticks are 0 exactly if the microseconds are
zero_same : (u t : ℕ) → u % t ≡ 0 → eqb (u / t) 0 ≡ eqb u 0
zero_same u t e = go (eqb (u / t) 0) refl
  where
    go : (b : Bool) → eqb (u / t) 0 ≡ b → b ≡ eqb u 0
    go true q =
        let z : u / t ≡ 0 = eqb-true (u / t) 0 q in
        let p : u / t * t ≡ 0 = rw z (zero-mul t) in
        sym (eq-eqb u 0 (omega (arith, p, whole_div u t e)))
    go false q = sym (ne_eqb u 0 (λ z. eqb-false (u / t) 0 q (rw z (zero-div t))))

-- a phase: what is written of it says it
pub phase_said_lem : (t : ℕ) (x : Ticks) → phase_said (phase_back t x) ≡ in_micros t x
phase_said_lem t x = go (eqb x.0 0) refl
  where
    go : (b : Bool) → eqb x.0 0 ≡ b → phase_said (if b then None else Some (in_micros t x)) ≡ in_micros t x
    go true e = rw (eqb-true x.0 0 e, zero-mul t)
    go false e = refl

-- and what it says is written, but for a phase 0, which is left out
unfoldable pub left_out : Option Micros → Option Micros
left_out None = None
left_out (Some u) = if eqb u.0 0 then None else Some u

pub said_left_out : (p : Option Micros) → phase_said (left_out p) ≡ phase_said p
unfolding left_out
said_left_out None = refl
said_left_out (Some u) = go (eqb u.0 0) refl
  where
    go : (b : Bool) → eqb u.0 0 ≡ b → phase_said (if b then None else Some u) ≡ u
    go true e = rw (← eqb-true u.0 0 e)
    go false e = refl

phase_back_lem : (t : ℕ) (p : Option Micros) → whole t (phase_said p) ≡ true → phase_back t (in_ticks t (phase_said p)) ≡ left_out p
unfolding left_out
phase_back_lem t None e = rw (zero_same 0 t (eqb-true (0 % t) 0 e))
phase_back_lem t (Some u) e = rw (zero_same u.0 t (eqb-true (u.0 % t) 0 e), back t u e)

not_zero_stays : (p : Option Micros) → not_zero p ≡ true → left_out p ≡ p
unfolding left_out
not_zero_stays None e = refl
not_zero_stays (Some u) e = go (eqb u.0 0) e
  where
    go : (b : Bool) → not b ≡ true → (if b then None else Some u) ≡ Some u
    go true q = absurd (clash false q refl)
    go false q = refl

stays_not_zero : (p : Option Micros) → left_out p ≡ p → not_zero p ≡ true
unfolding left_out
stays_not_zero None e = refl
stays_not_zero (Some u) e = go (eqb u.0 0) e
  where
    go : (b : Bool) → (if b then None else Some u) ≡ Some u → not b ≡ true
    go true q = let z : ◌≡◌ {A = ℕ} 0 1 = cc in absurd (omega arith)
    go false q = refl

-- rows: a row comes back from its line
pub server_there : (t : ℕ) → 0 < t → (s : Server) → server_of t (server_back t s) ≡ s
server_there t h s =
    rw (
      there t h s.period,
      there t h s.capacity.n,
      there t h s.capacity.d1,
      there t h s.capacity.d2,
      phase_said_lem t s.phase,
      there t h s.phase,
    )

pub task_there : (t : ℕ) → 0 < t → (k : Task) → task_of t (task_back t k) ≡ k
task_there t h k =
    rw (rounded_there t h k.limit.n, rounded_there t h k.limit.d1, rounded_there t h k.limit.d2)

-- and a server's line from its row, since its times are whole ticks, without a phase 0
abbrev pub server_left_out : ServerLine → ServerLine
server_left_out s =
    record {
      partition = s.partition;
      kind = s.kind;
      priority = s.priority;
      period = s.period;
      capacity = s.capacity;
      phase = left_out s.phase;
    }

pub server_back_lem : (t : ℕ) (s : ServerLine) → every (server_whole t s) ≡ true →
    server_back t (server_of t s) ≡ server_left_out s
unfolding server_whole
server_back_lem t s e =
    let w = every_at (server_whole t s) e in
    rw (
      back t s.period (w 4),
      back t s.capacity.n (w 5),
      back t s.capacity.d1 (w 6),
      back t s.capacity.d2 (w 7),
      phase_back_lem t s.phase (w 8),
    )

-- a line with its task times rounded up to a tick, and without a phase 0
unfoldable pub rounded : ℕ → Line → Line
rounded t (OfTick u) = OfTick u
rounded t (OfServer s) = OfServer (server_left_out s)
rounded t (OfTask k) = OfTask (task_back t (task_of t k))
rounded t (Malformed word field) = Malformed word field

time_stays : (t : ℕ) → 0 < t → (u : Micros) → whole t u ≡ true → in_micros t (rounded_up t u) ≡ u
time_stays t h u e = rw (whole_up u.0 t h (eqb-true (u.0 % t) 0 e))

time_whole : (t : ℕ) (u : Micros) → in_micros t (rounded_up t u) ≡ u → whole t u ≡ true
time_whole t u e = eq-eqb (u.0 % t) 0 (up_whole u.0 t (ap (λ x. x.0) e))

pub whole_stays : (t : ℕ) → 0 < t → (l : Line) → task_times_whole t l ≡ true → phase_not_zero l ≡ true → rounded t l ≡ l
unfolding rounded every
whole_stays t h (OfTick u) e z = refl
whole_stays t h (OfServer s) e z = rw (not_zero_stays s.phase z)
whole_stays t h (OfTask k) e z =
    let w = every_at (whole t k.limit.n ∷ whole t k.limit.d1 ∷ whole t k.limit.d2 ∷ []) e in
    rw (time_stays t h k.limit.n (w 0), time_stays t h k.limit.d1 (w 1), time_stays t h k.limit.d2 (w 2))
whole_stays t h (Malformed word field) e z = refl

pub stays_whole : (t : ℕ) (l : Line) → rounded t l ≡ l → task_times_whole t l ≡ true
unfolding rounded every
stays_whole t (OfTick u) e = refl
stays_whole t (OfServer s) e = refl
stays_whole t (OfTask k) e =
    let q : task_back t (task_of t k) ≡ k = cc in
    rw (
      time_whole t k.limit.n (ap (λ x. x.limit.n) q),
      time_whole t k.limit.d1 (ap (λ x. x.limit.d1) q),
      time_whole t k.limit.d2 (ap (λ x. x.limit.d2) q),
    )
stays_whole t (Malformed word field) e = refl

pub stays_phase : (t : ℕ) (l : Line) → rounded t l ≡ l → phase_not_zero l ≡ true
unfolding rounded
stays_phase t (OfTick u) e = refl
stays_phase t (OfServer s) e =
    let q : server_left_out s ≡ s = cc in
    stays_not_zero s.phase (ap (λ x. x.phase) q)
stays_phase t (OfTask k) e = refl
stays_phase t (Malformed word field) e = refl
