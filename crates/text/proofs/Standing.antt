-- Lines that keep the rules where they stand, and the rows that they make: a line is taken exactly
-- if its row keeps the rules of a table, so rows that keep them come of lines that do, and the
-- other way round. Nothing here knows a byte. Assumes nothing.
use Rattle.std.proofs.Common.{None, Option, Some, Ok}
use mathlib.Core.Path.{◌≡◌, refl, ap}
use mathlib.Core.Bool.{Bool, true, false}
use mathlib.Core.List.{List, [], ◌∷◌, ◌++◌, append_assoc, append-nil, map-append}
use mathlib.Core.Logic.{inl, inr}
use Prim.Native.Nat.{ℕ, suc, ◌+◌, ◌*◌, ◌/◌, ◌%◌, ◌≤◌, ◌<◌}
use native.Mathlib.Omega.{arith}
use native.Mathlib.Nat.{mul-le-mul_right, le_of_mul-le-mul_right, mul-mod_left}
use lib.Dec.{leb, ltb}
use lib.ListN.{length, get_or, length-append, get_or-append}
use lib.Seq.{get_or-append_seam}
use borrow.Author.Tests.{eqb-true, leb-true, ltb-true, le-leb, lt-ltb}
use Rattle.laws.specs.Choice.{unless◌say◌else◌, every, within}
use Rattle.laws.specs.Search.{first_failed}
use Rattle.std.specs.Cmp.{second_so}
use Rattle.laws.proofs.Choice.{clash, every_at, within_low, within_high, is_within, le_or_lt}
use Rattle.laws.proofs.RoundUp.{div_mono}
use Rattle.laws.proofs.Search.{failed_none}
use Rattle.units.specs.declared.Micros.{Micros}
use Rattle.table.specs.declared.Server.{Server}
use Rattle.table.specs.declared.Task.{Task}
use Rattle.table.specs.declared.Refusal.{Refusal}
use Rattle.table.specs.declared.Refusal.TheVariants.{Malformed as MalformedWhy, OutOfBounds, NotWhole}
use Rattle.table.specs.Rows.{Rows, no_rows, no_server, no_task}
use Rattle.table.specs.Rules.{server_keeps, task_keeps, task_stands}
use Rattle.table.proofs.Rules.{rows_there, stands}
use Rattle.text.specs.declared.ServerLine.{ServerLine}
use Rattle.text.specs.declared.TaskLine.{TaskLine}
use Rattle.text.specs.declared.Word.{Word}
use Rattle.text.specs.declared.Line.{Line}
use Rattle.text.specs.declared.Line.TheVariants.{OfTick, OfServer, OfTask, Malformed}
use Rattle.text.specs.Standing.{is_nil, phase_said, server_of, limits_of, task_of, placed, server_bounds, task_bounds, bounds, server_whole, wholes, fault, tell◌at◌or◌, standing, grown}
use Rattle.text.specs.Line.{word_of, malformed_at}
use Rattle.text.specs.Write.{server_back, task_back, server_lines, task_lines, lines_of}
use Rattle.text.proofs.Lines.{Short, ShortLast, Writable}
use Rattle.text.proofs.Ticks.{whole_div, phase_said_lem, server_left_out, server_back_lem, rounded}
use Rattle.text.proofs.Bounds.{tick_within, server_within, within_server, task_within}
use Rattle.table.specs.Refusals.{breaks, Standing}

-- the tests of a line in their order: kept is kept of each
pub unless_kept : (b : Bool) (why : Refusal) (field : ℕ) (r : Standing) → (unless b say breaks why field else r) ≡ Ok tt →
    (b ≡ true) × (r ≡ Ok tt)
unless_kept true why field r e = (refl, e)
unless_kept false why field r e = let c : ◌≡◌ {A = ℕ} 0 1 = cc in absurd (omega arith)

pub tell_kept : (x : Option ℕ) (why : Refusal) (r : Standing) → (tell why at x or r) ≡ Ok tt → (x ≡ None) × (r ≡ Ok tt)
tell_kept (Some field) why r e = let c : ◌≡◌ {A = ℕ} 0 1 = cc in absurd (omega arith)
tell_kept None why r e = (refl, e)

pub record Keeps (n : ℕ) (a : Rows) (l : Line) : Type 0 where
  pub stands : placed n a (word_of l) ≡ true
  pub formed : malformed_at l ≡ None
  pub bounded : every (bounds a l) ≡ true
  pub whole : every (wholes a l) ≡ true
  pub fits : fault a l ≡ Ok tt

pub standing_keeps : (n : ℕ) (a : Rows) (l : Line) → standing n a l ≡ Ok tt → Keeps n a l
unfolding standing
standing_keeps n a l e =
    let p = unless_kept (placed n a (word_of l)) MalformedWhy 0 _ e in
    let f = tell_kept (malformed_at l) MalformedWhy _ p.1 in
    let q = tell_kept (first_failed (bounds a l)) OutOfBounds _ f.1 in
    let r = tell_kept (first_failed (wholes a l)) NotWhole _ q.1 in
    record {
      stands = p.0;
      formed = f.0;
      bounded = (failed_none (bounds a l)).0 q.0;
      whole = (failed_none (wholes a l)).0 r.0;
      fits = r.1;
    }

pub keeps_standing : (n : ℕ) (a : Rows) (l : Line) → Keeps n a l → standing n a l ≡ Ok tt
unfolding standing
keeps_standing n a l k =
    rw (
      k.stands,
      k.formed,
      (failed_none (bounds a l)).1 k.bounded,
      (failed_none (wholes a l)).1 k.whole,
    )
    k.fits

-- the bounds of a task are its room and table's own rule
pub task_keeps_lem : (rows t : ℕ) (k : TaskLine) → every (task_bounds rows t k) ≡ true → every (task_keeps (task_of t k)) ≡ true
unfolding task_bounds task_keeps every
task_keeps_lem rows t k e = second_so (ltb rows 64) (every (task_keeps (task_of t k))) e

pub task_bounded : (rows t : ℕ) (k : TaskLine) → rows < 64 → every (task_keeps (task_of t k)) ≡ true →
    every (task_bounds rows t k) ≡ true
unfolding task_bounds task_keeps every
task_bounded rows t k l e = rw (lt-ltb rows 64 l) e

-- bounds in microseconds, and the same in ticks
period_ticks : (t u : ℕ) → 0 < t → u % t ≡ 0 → t ≤ u → u ≤ 1000000 * t → within 1 1000000 (u / t) ≡ true
period_ticks t u h e l g =
    let low : 1 * t ≤ u / t * t = omega (arith, whole_div u t e) in
    let high : u / t * t ≤ 1000000 * t = omega (arith, whole_div u t e) in
    is_within 1 1000000 (u / t) (le_of_mul-le-mul_right low h) (le_of_mul-le-mul_right high h)

capacity_ticks : (t c u : ℕ) → 0 < t → c ≤ u → leb (c / t) (u / t) ≡ true
capacity_ticks t c u h l = le-leb (c / t) (u / t) (div_mono c u t h l)

capacity_micros : (t c p : ℕ) → leb c p ≡ true → c * t ≤ p * t
capacity_micros t c p e = mul-le-mul_right t (leb-true c p e)

-- a phase above the period less one tick in microseconds is one not below the period in ticks
phase_ticks : (t p u : ℕ) → 0 < t → p % t ≡ 0 → u % t ≡ 0 → p + t ≤ u → ltb (p / t) (u / t) ≡ true
phase_ticks t p u h d e l =
    let m : suc (p / t) * t ≤ u / t * t = omega (arith, whole_div p t d, whole_div u t e) in
    lt-ltb (p / t) (u / t) (omega (arith, le_of_mul-le-mul_right m h))

phase_micros : (t x p : ℕ) → ltb x p ≡ true → x * t + t ≤ p * t
phase_micros t x p e = omega (arith, mul-le-mul_right {m = suc x} {n = p} t (omega (arith, ltb-true x p e)))

-- a server's line that is taken has a row that keeps the rules
pub server_keeps_lem : (rows t : ℕ) (s : ServerLine) → 0 < t → every (server_bounds rows t s) ≡ true →
    every (server_whole t s) ≡ true →
    every (server_keeps (server_of t s)) ≡ true
unfolding server_whole server_keeps every
server_keeps_lem rows t s h b w =
    let p = server_within rows t s b in
    let q = every_at (server_whole t s) w in
    rw (
      is_within 0 15 s.partition (omega arith) p.partition,
      is_within 1 255 s.priority p.priority_low p.priority_high,
      period_ticks t s.period.0 h (eqb-true (s.period.0 % t) 0 (q 4)) p.period_low p.period_high,
      capacity_ticks t s.capacity.n.0 s.period.0 h p.n,
      capacity_ticks t s.capacity.d1.0 s.period.0 h p.d1,
      capacity_ticks t s.capacity.d2.0 s.period.0 h p.d2,
      phase_ticks t (phase_said s.phase).0 s.period.0 h (eqb-true ((phase_said s.phase).0 % t) 0 (q 8))
          (eqb-true (s.period.0 % t) 0 (q 4)) p.phase,
    )

-- and a row that keeps them has a line that is taken
pub server_bounded : (rows t : ℕ) (s : Server) → rows < 32 → every (server_keeps s) ≡ true →
    every (server_bounds rows t (server_back t s)) ≡ true
unfolding server_keeps
server_bounded rows t s l e =
    let p = every_at (server_keeps s) e in
    let low : 1 * t ≤ s.period.0 * t = mul-le-mul_right t (within_low 1 1000000 s.period.0 (p 2)) in
    within_server rows t (server_back t s)
    (record {
      room = l;
      partition = within_high 0 15 s.partition (p 0);
      priority_low = within_low 1 255 s.priority (p 1);
      priority_high = within_high 1 255 s.priority (p 1);
      period_low = omega arith;
      period_high = mul-le-mul_right t (within_high 1 1000000 s.period.0 (p 2));
      n = capacity_micros t s.capacity.n.0 s.period.0 (p 3);
      d1 = capacity_micros t s.capacity.d1.0 s.period.0 (p 4);
      d2 = capacity_micros t s.capacity.d2.0 s.period.0 (p 5);
      phase = rw (phase_said_lem t s.phase) (phase_micros t s.phase.0 s.period.0 (p 6));
    })

pub server_whole_lem : (t : ℕ) (s : Server) → every (server_whole t (server_back t s)) ≡ true
unfolding server_whole every
server_whole_lem t s =
    rw (
      mul-mod_left s.period.0 t,
      mul-mod_left s.capacity.n.0 t,
      mul-mod_left s.capacity.d1.0 t,
      mul-mod_left s.capacity.d2.0 t,
      phase_said_lem t s.phase,
      mul-mod_left s.phase.0 t,
    )

-- Rows that keep the rules so far, as lines are read: what `keeps` says of each row, but not yet
-- that there is one, nor that priorities differ.
pub record Good (a : Rows) : Type 0 where
  pub low : 1 ≤ a.tick.0
  pub high : a.tick.0 ≤ 10000
  pub servers_high : length a.servers ≤ 32
  pub tasks_high : length a.tasks ≤ 64
  pub server : (i : ℕ) → i < length a.servers → every (server_keeps (get_or a.servers i no_server)) ≡ true
  pub task : (k : ℕ) → k < length a.tasks → task_stands a.servers (get_or a.tasks k no_task) ≡ true

-- one row more
pub each_more : {A : Type 0} (P : A → Type 0) (xs : List A) (x d : A) → ((i : ℕ) → i < length xs → P (get_or xs i d)) → P x →
    (i : ℕ) → i < length (xs ++ (x ∷ [])) → P (get_or (xs ++ (x ∷ [])) i d)
each_more P xs x d f p i h =
    elim (le_or_lt (length xs) i) [ inl l ↦ last l | inr l ↦ rw (get_or-append xs (x ∷ []) d i l) (f i l) ]
  where
    last : length xs ≤ i → P (get_or (xs ++ (x ∷ [])) i d)
    last l = let e : i ≡ length xs = omega (arith, length-append xs (x ∷ [])) in rw (e, get_or-append_seam xs x [] d) p

-- each line, as it is read
pub tick_line : (t : Micros) → Keeps 1 no_rows (OfTick t) → Good (grown no_rows (OfTick t))
unfolding grown
tick_line t k =
    let b = tick_within no_rows t k.bounded in
    record {
      low = b.0;
      high = b.1;
      servers_high = omega arith;
      tasks_high = omega arith;
      server = λ i h. absurd (omega arith);
      task = λ i h. absurd (omega arith);
    }

pub is_nil_lem : {A : Type 0} (xs : List A) → is_nil xs ≡ true → xs ≡ []
is_nil_lem [] e = refl
is_nil_lem (x ∷ xs) e = absurd (clash false e refl)

pub not_nil : {A : Type 0} (xs : List A) → 1 ≤ length xs → is_nil xs ≡ false
not_nil [] h = absurd (omega arith)
not_nil (x ∷ xs) h = refl

no_task_lem : (a : Rows) (n : ℕ) (s : ServerLine) → Keeps n a (OfServer s) → a.tasks ≡ []
unfolding placed
no_task_lem a n s k = is_nil_lem a.tasks (second_so (ltb 1 n) (is_nil a.tasks) k.stands)

pub server_line_lem : (n : ℕ) (a : Rows) (s : ServerLine) → Good a → Keeps n a (OfServer s) → Good (grown a (OfServer s))
unfolding bounds wholes grown
server_line_lem n a s g k =
    let t = a.tick.0 in
    let none : length a.tasks ≡ 0 = ap length (no_task_lem a n s k) in
    let room = (server_within (length a.servers) t s k.bounded).room in
    record {
      low = g.low;
      high = g.high;
      servers_high = omega (arith, length-append a.servers (server_of t s ∷ []));
      tasks_high = g.tasks_high;
      server =
          each_more (λ x. every (server_keeps x) ≡ true) a.servers (server_of t s) no_server g.server
          (server_keeps_lem (length a.servers) t s g.low k.bounded k.whole);
      task = λ i h. absurd (omega arith);
    }

pub task_line_lem : (n : ℕ) (a : Rows) (x : TaskLine) → Good a → Keeps n a (OfTask x) → Good (grown a (OfTask x))
unfolding bounds fault grown
task_line_lem n a x g k =
    let t = a.tick.0 in
    let room = (task_within (length a.tasks) t x g.low k.bounded).room in
    record {
      low = g.low;
      high = g.high;
      servers_high = g.servers_high;
      tasks_high = omega (arith, length-append a.tasks (task_of t x ∷ []));
      server = g.server;
      task =
          each_more (λ y. task_stands a.servers y ≡ true) a.tasks (task_of t x) no_task g.task
          (stands a.servers (task_of t x) (task_keeps_lem (length a.tasks) t x k.bounded) k.fits);
    }

-- such a line has a text: its numbers are short
pub tick_writable : (n : ℕ) (a : Rows) (t : Micros) → Keeps n a (OfTick t) → Writable (OfTick t)
tick_writable n a t k = omega (arith, (tick_within a t k.bounded).1)

last_short : (p : Option Micros) → Short (phase_said p).0 → ShortLast p
last_short None h = tt
last_short (Some u) h = h

server_writable : (n : ℕ) (a : Rows) (s : ServerLine) → Good a → Keeps n a (OfServer s) → Writable (OfServer s)
unfolding bounds
server_writable n a s g k =
    let w = server_within (length a.servers) a.tick.0 s k.bounded in (
      omega (arith, w.partition),
      omega (arith, w.priority_high),
      omega (arith, g.high, w.period_high),
      (
        omega (arith, g.high, w.period_high, w.n),
        omega (arith, g.high, w.period_high, w.d1),
        omega (arith, g.high, w.period_high, w.d2),
      ),
      last_short s.phase (omega (arith, g.high, w.period_high, w.phase)),
    )

task_writable : (n : ℕ) (a : Rows) (x : TaskLine) → Good a → Keeps n a (OfTask x) → Writable (OfTask x)
unfolding bounds fault
task_writable n a x g k =
    let r = rows_there a.servers x.home x.degraded (limits_of a.tick.0 x.limit) k.fits in
    let w = task_within (length a.tasks) a.tick.0 x g.low k.bounded in (
      omega (arith, g.servers_high, r.0),
      omega (arith, g.servers_high, r.1),
      omega (arith, w.priority_high),
      (
        omega (arith, g.high, w.n_high),
        omega (arith, g.high, w.d1_high),
        omega (arith, g.high, w.d2_high),
      ),
    )

-- a malformed line stands nowhere
pub no_form : (n : ℕ) (a : Rows) (word : Word) (field : ℕ) → Keeps n a (Malformed word field) → ⊥
no_form n a word field k =
    let e : Some field ≡ None = k.formed in let c : ◌≡◌ {A = ℕ} 0 1 = cc in omega arith

-- the `tick` line stands first, and no other does
pub stands_first : (l : Line) → Keeps 1 no_rows l → (t : Micros) × (l ≡ OfTick t)
unfolding placed
stands_first (OfTick t) k = (t, refl)
stands_first (OfServer s) k = absurd (clash false k.stands refl)
stands_first (OfTask x) k = absurd (clash false k.stands refl)
stands_first (Malformed word field) k = absurd (no_form 1 no_rows word field k)

no_tick_lem : (n : ℕ) (a : Rows) (t : Micros) → 1 < n → Keeps n a (OfTick t) → ⊥
unfolding placed
no_tick_lem n a t h k = let e : n ≡ 1 = eqb-true n 1 k.stands in omega arith

-- what a line after the first does: its row is the last of its kind, and its text is what the rows'
-- text gains
pub record Stepped (a : Rows) (l : Line) : Type 0 where
  pub good : Good (grown a l)
  pub same_tick : (grown a l).tick ≡ a.tick
  pub writable : Writable l
  pub lines : lines_of (grown a l) ≡ lines_of a ++ (rounded a.tick.0 l ∷ [])

server_lines_more : (t : ℕ) (ss : List Server) (s : Server) →
    server_lines t (ss ++ (s ∷ [])) ≡ server_lines t ss ++ (OfServer (server_back t s) ∷ [])
unfolding server_lines
server_lines_more t ss s = map-append (λ x. OfServer (server_back t x)) ss (s ∷ [])

task_lines_more : (t : ℕ) (ks : List Task) (k : Task) →
    task_lines t (ks ++ (k ∷ [])) ≡ task_lines t ks ++ (OfTask (task_back t k) ∷ [])
unfolding task_lines
task_lines_more t ks k = map-append (λ x. OfTask (task_back t x)) ks (k ∷ [])

no_task_lines : (t : ℕ) (ks : List Task) → ks ≡ [] → task_lines t ks ≡ []
unfolding task_lines
no_task_lines t ks e = rw e

pub stepped : (n : ℕ) (a : Rows) (l : Line) → 1 < n → Good a → Keeps n a l → Stepped a l
unfolding grown lines_of rounded wholes
stepped n a (OfTick t) h g k = absurd (no_tick_lem n a t h k)
stepped n a (OfServer s) h g k =
    let t = a.tick.0 in
    record {
      good = server_line_lem n a s g k;
      same_tick = refl;
      writable = server_writable n a s g k;
      lines =
          rw (
            server_lines_more t a.servers (server_of t s),
            server_back_lem t s k.whole,
            no_task_lines t a.tasks (no_task_lem a n s k),
            append-nil (server_lines t a.servers ++ (OfServer (server_left_out s) ∷ [])),
            append-nil (server_lines t a.servers),
          );
    }
stepped n a (OfTask x) h g k =
    let t = a.tick.0 in
    record {
      good = task_line_lem n a x g k;
      same_tick = refl;
      writable = task_writable n a x g k;
      lines =
          rw (
            task_lines_more t a.tasks (task_of t x),
            append_assoc (server_lines t a.servers) (task_lines t a.tasks) (OfTask (task_back t (task_of t x)) ∷ []),
          );
    }
stepped n a (Malformed word field) h g k = absurd (no_form n a word field k)
