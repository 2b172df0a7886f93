-- The table that is being read: it holds the rows above a line, and with that line's row it holds
-- those above the next. Assumes nothing.
pub mod Fields
use Rattle.std.proofs.Common.{Ok}
use mathlib.Core.Path.{◌≡◌, refl, sym, ap, ◌∙◌}
use mathlib.Core.Bool.{true}
use mathlib.Core.List.{List, [], ◌∷◌, ◌++◌, append_assoc}
use mathlib.Core.Logic.{inl, inr}
use Prim.Native.Nat.{ℕ, suc, ◌+◌, ◌-◌, ◌≤◌, ◌<◌}
use native.Mathlib.Omega.{arith}
use lib.Dec.{ltb, eqb}
use lib.ListN.{length, set, replicate, length-append}
use lib.Seq.{set-append_seam}
use borrow.Author.Tests.{ltb-true, eqb-true, eq-eqb, ne_eqb, not-true}
use Rattle.laws.specs.Choice.{every}
use Rattle.std.specs.Cmp.{first_so}
use Rattle.laws.proofs.Choice.{clash, within_low, le_or_lt}
use Rattle.units.specs.declared.Micros.{Micros}
use Rattle.table.specs.declared.Server.{Server}
use Rattle.table.specs.declared.Task.{Task}
use Rattle.table.specs.declared.Table.{Table}
use Rattle.table.specs.Rows.{Rows, no_rows, no_server, no_task, rows_of, table_of, padded}
use Rattle.table.specs.Rules.{tick_keeps, task_keeps}
use Rattle.text.specs.declared.ServerLine.{ServerLine}
use Rattle.text.specs.declared.TaskLine.{TaskLine}
use Rattle.text.specs.declared.Word.{Word}
use Rattle.text.specs.declared.Word.TheVariants.{ATick, AServer, ATask, Unknown}
use Rattle.text.specs.declared.Line.{Line}
use Rattle.text.specs.declared.Line.TheVariants.{OfTick, OfServer, OfTask, Malformed}
use Rattle.text.specs.Standing.{is_nil, placed, server_bounds, bounds, fault, standing, grown}
use Rattle.text.specs.Standing.{server_of, limits_of, task_of}
use Rattle.reader.specs.Inner.{Above, placed_by}
use Rattle.text.proofs.Bounds.{server_within, task_within}
use Rattle.table.proofs.Rules.{rows_there}
use Rattle.text.proofs.Standing.{standing_keeps, task_keeps_lem, no_form}
use Rattle.text.proofs.RoundTrip.{table_rows, table_sized}

-- a row put where there is room
pub padded_more : {A : Type 0} (n : ℕ) (z x : A) (xs : List A) → length xs < n →
    set (padded n z xs) (length xs) x ≡ padded n z (xs ++ (x ∷ []))
padded_more n z x xs h =
    go
    (n - (length xs + 1))
    (n - length (xs ++ (x ∷ [])))
    (n - length xs)
    (omega arith)
    (omega (arith, length-append xs (x ∷ [])))
  where
    go : (r q p : ℕ) → p ≡ suc r → q ≡ r → set (xs ++ replicate p z) (length xs) x ≡ (xs ++ (x ∷ [])) ++ replicate q z
    go r q p e f = rw (e, f, append_assoc xs (x ∷ []) (replicate r z)) (set-append_seam xs z (replicate r z) x)

pub nil_is : {A : Type 0} (xs : List A) → is_nil xs ≡ eqb (length xs) 0
nil_is [] = refl
nil_is (x ∷ xs) = sym (ne_eqb (suc (length xs)) 0 (λ e. omega arith))

-- a table that holds its rows and nothing else: its counts are theirs
module _ (t : Table) (whole : t ≡ table_of (rows_of t)) where
  pub servers_count : length (rows_of t).servers ≡ t.nservers
  unfolding table_of
  servers_count = sym (ap (λ (x : Table). x.nservers) whole)

  pub tasks_count : length (rows_of t).tasks ≡ t.ntasks
  unfolding table_of
  tasks_count = sym (ap (λ (x : Table). x.ntasks) whole)

  pub tasks_nil : is_nil (rows_of t).tasks ≡ eqb t.ntasks 0
  tasks_nil = rw (nil_is (rows_of t).tasks, tasks_count)

  -- a row has a place in the table's array
  pub servers_length : t.nservers ≤ 32 → t.ntasks ≤ 64 → length t.servers ≡ 32
  servers_length h g =
      ap (λ (x : Table). length x.servers) whole
      ∙ (table_sized (rows_of t) (omega (arith, servers_count)) (omega (arith, tasks_count))).servers

  -- what is asked of the rows above is how many there are
  pub placed_by_lem : (n : ℕ) (word : Word) →
      placed_by n t.nservers t.ntasks word ≡ placed n (rows_of t) word
  unfolding placed
  placed_by_lem n ATick = refl
  placed_by_lem n AServer = rw tasks_nil
  placed_by_lem n ATask = rw (nil_is (rows_of t).servers, servers_count)
  placed_by_lem n Unknown = refl

-- the `tick` line stands above wherever a `server` or a `task` line is placed, so the tick is known
pub server_below : (n servers tasks : ℕ) → placed_by n servers tasks AServer ≡ true → 1 < n
server_below n servers tasks e = ltb-true 1 n (first_so (ltb 1 n) (eqb tasks 0) e)

pub task_below : (n servers tasks : ℕ) → (n ≤ 1 → servers ≡ 0) →
    placed_by n servers tasks ATask ≡ true → 1 < n
task_below n servers tasks first e =
    elim (le_or_lt n 1) [
      | inl k ↦ absurd (clash _ (eq-eqb servers 0 (first k)) (not-true _ e))
      | inr k ↦ k
    ]

module _ (n : ℕ) (t : Table) (r : Above n t) where
  tick_low : 1 < n → 0 < t.tick.0
  tick_low h = within_low 1 10000 t.tick.0 (r.below h)

  server_placed : placed n (rows_of t) AServer ≡ true → 1 < n
  server_placed e = server_below n t.nservers t.ntasks (placed_by_lem t r.whole n AServer ∙ e)

  task_placed : placed n (rows_of t) ATask ≡ true → 1 < n
  task_placed e =
      task_below n t.nservers t.ntasks r.first (placed_by_lem t r.whole n ATask ∙ e)

-- a line's row put into the table
module _ (a : Rows) where
  server_put : (s : ServerLine) → length a.servers < 32 →
      (record {
        tick = a.tick;
        nservers = length a.servers + 1;
        ntasks = length a.tasks;
        servers = set (padded 32 no_server a.servers) (length a.servers) (server_of a.tick.0 s);
        tasks = padded 64 no_task a.tasks;
      }) ≡ table_of (grown a (OfServer s))
  unfolding table_of grown
  server_put s h =
      rw (
        padded_more 32 no_server (server_of a.tick.0 s) a.servers h,
        length-append a.servers (server_of a.tick.0 s ∷ []),
      )

  task_put : (k : TaskLine) → length a.tasks < 64 →
      (record {
        tick = a.tick;
        nservers = length a.servers;
        ntasks = length a.tasks + 1;
        servers = padded 32 no_server a.servers;
        tasks = set (padded 64 no_task a.tasks) (length a.tasks) (task_of a.tick.0 k);
      }) ≡ table_of (grown a (OfTask k))
  unfolding table_of grown
  task_put k h =
      rw (
        padded_more 64 no_task (task_of a.tick.0 k) a.tasks h,
        length-append a.tasks (task_of a.tick.0 k ∷ []),
      )

module _ (t : Table) (a : Rows) (whole : t ≡ table_of a) (l : Line) where
  pub put_tick : (u : Micros) → l ≡ OfTick u →
      (record { tick = u; nservers = t.nservers; ntasks = t.ntasks; servers = t.servers; tasks = t.tasks })
      ≡ table_of (grown a l)
  unfolding table_of grown
  put_tick u told = rw (told, whole)

  pub put_server : (s : ServerLine) (row : Server) → l ≡ OfServer s → t.nservers < 32 →
      row ≡ server_of t.tick.0 s →
      (record {
        tick = t.tick;
        nservers = t.nservers + 1;
        ntasks = t.ntasks;
        servers = set t.servers t.nservers row;
        tasks = t.tasks;
      }) ≡ table_of (grown a l)
  unfolding table_of
  put_server s row told h e = rw (told, e, whole) (server_put a s (rw whole at h))

  pub put_task : (k : TaskLine) (row : Task) → l ≡ OfTask k → t.ntasks < 64 →
      row ≡ task_of t.tick.0 k →
      (record {
        tick = t.tick;
        nservers = t.nservers;
        ntasks = t.ntasks + 1;
        servers = t.servers;
        tasks = set t.tasks t.ntasks row;
      }) ≡ table_of (grown a l)
  unfolding table_of
  put_task k row told h e = rw (told, e, whole) (task_put a k (rw whole at h))

  pub put_none : (word : Word) (field : ℕ) → l ≡ Malformed word field → t ≡ table_of (grown a l)
  unfolding grown
  put_none word field told = rw told whole

-- a line that is kept has room for its row, and its numbers in the row
pub record ServerGrows (t : Table) (s : ServerLine) : Type 0 where
  pub tick : 0 < t.tick.0
  pub bounded : every (server_bounds t.nservers t.tick.0 s) ≡ true
  pub room : t.nservers < 32

pub record TaskGrows (t : Table) (k : TaskLine) : Type 0 where
  pub tick : 0 < t.tick.0
  pub keeps : every (task_keeps (task_of t.tick.0 k)) ≡ true
  pub home : k.home < 32
  pub degraded : k.degraded < 32
  pub room : t.ntasks < 64

module _ (n : ℕ) (t : Table) (r : Above n t) where
  pub server_grows : (s : ServerLine) → standing n (rows_of t) (OfServer s) ≡ Ok tt → ServerGrows t s
  unfolding bounds
  server_grows s e =
      let p = standing_keeps n (rows_of t) (OfServer s) e in
      let b = rw (servers_count t r.whole) at p.bounded in
      record {
        tick = tick_low n t r (server_placed n t r p.stands);
        bounded = b;
        room = (server_within t.nservers t.tick.0 s b).room;
      }

  pub task_grows : (k : TaskLine) → standing n (rows_of t) (OfTask k) ≡ Ok tt → TaskGrows t k
  unfolding bounds fault
  task_grows k e =
      let p = standing_keeps n (rows_of t) (OfTask k) e in
      let limit = limits_of t.tick.0 k.limit in
      let h = rows_there (rows_of t).servers k.home k.degraded limit p.fits in
      let b = rw (tasks_count t r.whole) at p.bounded in
      let g = tick_low n t r (task_placed n t r p.stands) in
      record {
        tick = g;
        keeps = task_keeps_lem t.ntasks t.tick.0 k b;
        home = omega (arith, h.0, servers_count t r.whole, r.servers);
        degraded = omega (arith, h.1, servers_count t r.whole, r.servers);
        room = (task_within t.ntasks t.tick.0 k g b).room;
      }

-- and the table with it stands before the next line
above_rows : (n : ℕ) (a : Rows) → length a.servers ≤ 32 → length a.tasks ≤ 64 →
    (n ≤ 1 → length a.servers ≡ 0) → (1 < n → tick_keeps a.tick.0 ≡ true) → Above n (table_of a)
unfolding table_of
above_rows n a s k f b =
    record { whole = ap table_of (sym (table_rows a)); servers = s; tasks = k; first = f; below = b }

pub above_first : Above 1 (table_of no_rows)
above_first = above_rows 1 no_rows (omega arith) (omega arith) (λ h. refl) (λ h. absurd (omega arith))

pub above_next : (n : ℕ) (t : Table) (l : Line) → Above n t → standing n (rows_of t) l ≡ Ok tt →
    Above (n + 1) (table_of (grown (rows_of t) l))
unfolding placed bounds grown every
above_next n t (OfTick u) r e =
    let p = standing_keeps n (rows_of t) (OfTick u) e in
    let o = eqb-true n 1 p.stands in
    above_rows
    (n + 1)
    (grown (rows_of t) (OfTick u))
    (omega (arith, servers_count t r.whole, r.servers))
    (omega (arith, tasks_count t r.whole, r.tasks))
    (λ h. servers_count t r.whole ∙ r.first (omega arith))
    (λ h. first_so (tick_keeps u.0) true p.bounded)
above_next n t (OfServer s) r e =
    let p = standing_keeps n (rows_of t) (OfServer s) e in
    let h = server_placed n t r p.stands in
    let w = server_within (length (rows_of t).servers) t.tick.0 s p.bounded in
    above_rows
    (n + 1)
    (grown (rows_of t) (OfServer s))
    (omega (arith, w.room, length-append (rows_of t).servers (server_of t.tick.0 s ∷ [])))
    (omega (arith, tasks_count t r.whole, r.tasks))
    (λ g. absurd (omega arith))
    (λ g. r.below h)
above_next n t (OfTask k) r e =
    let p = standing_keeps n (rows_of t) (OfTask k) e in
    let h = task_placed n t r p.stands in
    let w = task_within (length (rows_of t).tasks) t.tick.0 k (tick_low n t r h) p.bounded in
    above_rows
    (n + 1)
    (grown (rows_of t) (OfTask k))
    (omega (arith, servers_count t r.whole, r.servers))
    (omega (arith, w.room, length-append (rows_of t).tasks (task_of t.tick.0 k ∷ [])))
    (λ g. absurd (omega arith))
    (λ g. r.below h)
above_next n t (Malformed word field) r e =
    absurd (no_form n (rows_of t) word field (standing_keeps n (rows_of t) (Malformed word field) e))
