-- Which texts the reader takes: exactly those whose lines, each closed, all keep the rules where
-- they stand. Rows that keep the rules are the rows of such lines, and the rows' own lines are
-- those with the task times rounded up and no phase 0. Assumes nothing.
use Rattle.std.proofs.Common.{None, Ok}
use mathlib.Core.Path.{◌≡◌, refl, sym, ap, ◌∙◌, subst}
use mathlib.Core.Bool.{true, not}
use mathlib.Core.List.{List, [], ◌∷◌, ◌++◌, map, append_assoc, append-nil}
use Prim.Native.Nat.{ℕ, suc, ◌+◌, ◌≤◌, ◌<◌}
use native.Mathlib.Omega.{arith}
use lib.Dec.{ltb}
use lib.ListN.{length, get_or, length-append}
use borrow.Author.Tests.{lt-ltb}
use Rattle.laws.specs.Choice.{every, within, unless◌say◌else◌}
use Rattle.laws.specs.Rows.{all_below}
use Rattle.laws.specs.Search.{first_failed}
use Rattle.laws.proofs.Choice.{every_at, within_low, within_high, is_within}
use Rattle.laws.proofs.Rows.{all_at, all_build}
use Rattle.units.specs.declared.Micros.{Micros}
use Rattle.table.specs.declared.Server.{Server}
use Rattle.table.specs.declared.Task.{Task}
use Rattle.table.specs.Rows.{Rows, no_rows, no_server, no_task}
use Rattle.table.specs.Rules.{tick_keeps, priority_keeps, limit_keeps, server_keeps, task_fault, task_stands, differ, keeps}
use Rattle.table.proofs.Rules.{rows_there, stands_keeps}
use Rattle.table.specs.declared.Refusal.TheVariants.{Malformed as MalformedWhy, OutOfBounds, NotWhole}
use Rattle.table.specs.Pairs.{equal_servers, equal_tasks}
use Rattle.table.proofs.Pairs.{differ_pair, pair_differ}
use Rattle.text.specs.declared.Line.{Line}
use Rattle.text.specs.declared.Line.TheVariants.{OfTick, OfServer, OfTask, Malformed}
use Rattle.text.specs.Standing.{is_nil, anything, task_of, placed, bounds, server_bounds, task_bounds, wholes, server_whole, fault, tell◌at◌or◌, standing, grown}
use Rattle.text.specs.Allowed.{KeptFrom, grown_by, Allowed}
use Rattle.text.specs.Write.{server_back, task_back, server_lines, task_lines, lines_of}
use Rattle.text.proofs.Lines.{Writable}
use Rattle.text.proofs.Ticks.{said_left_out, server_there, task_there, rounded}
use Rattle.text.proofs.Bounds.{within_tick}
use Rattle.text.proofs.Standing.{not_nil, standing_keeps, keeps_standing, server_bounded, server_whole_lem, task_bounded, Good, stepped, stands_first, tick_line, tick_writable}
use Rattle.text.specs.Line.{read_line}
use Rattle.text.specs.TableText.{rows_grown}
use Rattle.text.specs.Read.{ReadRows, taken, pair_said, compared, ended, table_text, read}
use Rattle.text.proofs.TableText.{taken_not, unless_not, pair_taken, kept_ends, not_refused_kept}
use Rattle.table.specs.Refusals.{breaks}

abbrev pub AllWritable : List Line → Type 0
AllWritable [] = Unit {0}
AllWritable (l ∷ ls) = Writable l × AllWritable ls

-- rounding a task's times up to a tick and leaving a phase 0 out change nothing that is judged
rounded_standing : (n : ℕ) (a : Rows) (l : Line) → 0 < a.tick.0 → standing n a (rounded a.tick.0 l) ≡ standing n a l
unfolding rounded standing placed bounds server_bounds task_bounds wholes server_whole fault
rounded_standing n a (OfTick t) h = refl
rounded_standing n a (OfServer s) h = rw (said_left_out s.phase)
rounded_standing n a (OfTask k) h =
    let t = a.tick.0 in
    ap
    (λ (x : Task).
    unless not (is_nil a.servers) say breaks MalformedWhy 0
    else tell OutOfBounds at first_failed
    (ltb (length a.tasks) 64
    ∷ anything
    ∷ anything
    ∷ priority_keeps x.priority
    ∷ anything
    ∷ limit_keeps x.limit.n.0
    ∷ limit_keeps x.limit.d1.0
    ∷ limit_keeps x.limit.d2.0
    ∷ [])
    or tell NotWhole at first_failed []
    or task_fault a.servers x.home x.degraded x.limit)
    (task_there t h (task_of t k))
rounded_standing n a (Malformed word field) h = refl

-- the lines after the `tick` line
pub record Through (a : Rows) (ls : List Line) : Type 0 where
  pub good : Good (grown_by a ls)
  pub same_tick : (grown_by a ls).tick ≡ a.tick
  pub writable : AllWritable ls
  pub rounded_writable : AllWritable (map (rounded a.tick.0) ls)
  pub lines : lines_of (grown_by a ls) ≡ lines_of a ++ map (rounded a.tick.0) ls

pub through : (n : ℕ) (a : Rows) (ls : List Line) → 1 < n → Good a → KeptFrom n a ls → Through a ls
unfolding rows_grown
through n a [] h g k =
    record { good = g; same_tick = refl; writable = tt; rounded_writable = tt; lines = sym (append-nil (lines_of a)) }
through n a (l ∷ ls) h g k =
    let t = a.tick.0 in
    let s = stepped n a l h g (standing_keeps n a l k.0) in
    let r = stepped n a (rounded t l) h g (standing_keeps n a (rounded t l) (rounded_standing n a l g.low ∙ k.0)) in
    let ih = through (n + 1) (grown a l) ls (omega arith) s.good k.1 in
    record {
      good = ih.good;
      same_tick = ih.same_tick ∙ s.same_tick;
      writable = (s.writable, ih.writable);
      rounded_writable = (r.writable, rw s.same_tick at ih.rounded_writable);
      lines =
          ih.lines ∙ ap (λ u. lines_of (grown a l) ++ map (rounded u.0) ls) s.same_tick ∙
          rw s.lines (append_assoc (lines_of a) (rounded t l ∷ []) (map (rounded t) ls));
    }

-- all lines, the `tick` line too, of a text that has a task
pub record Told (ls : List Line) : Type 0 where
  pub good : Good (grown_by no_rows ls)
  pub writable : AllWritable ls
  pub rounded_writable : AllWritable (map (rounded (grown_by no_rows ls).tick.0) ls)
  pub lines : lines_of (grown_by no_rows ls) ≡ map (rounded (grown_by no_rows ls).tick.0) ls

told_tick : (t : Micros) (ls : List Line) → KeptFrom 1 no_rows (OfTick t ∷ ls) → Told (OfTick t ∷ ls)
unfolding rows_grown grown lines_of rounded server_lines task_lines
told_tick t ls k =
    let c = standing_keeps 1 no_rows (OfTick t) k.0 in
    let ih = through 2 (grown no_rows (OfTick t)) ls (omega arith) (tick_line t c) k.1 in
    record {
      good = ih.good;
      writable = (tick_writable 1 no_rows t c, ih.writable);
      rounded_writable = (
        tick_writable 1 no_rows t c,
        subst (λ (u : Micros). AllWritable (map (rounded u.0) ls)) (sym ih.same_tick) ih.rounded_writable,
      );
      lines = ih.lines ∙ ap (λ u. OfTick t ∷ map (rounded u.0) ls) (sym ih.same_tick);
    }

pub told : (ls : List Line) → KeptFrom 1 no_rows ls → 0 < length (grown_by no_rows ls).tasks → Told ls
unfolding rows_grown
told [] k h = absurd (omega arith)
told (l ∷ ls) k h =
    go (stands_first l (standing_keeps 1 no_rows l k.0)).0 l (stands_first l (standing_keeps 1 no_rows l k.0)).1 k
  where
    go : (t : Micros) (l : Line) → l ≡ OfTick t → KeptFrom 1 no_rows (l ∷ ls) → Told (l ∷ ls)
    go t (OfTick u) e k = told_tick u ls k
    go t (OfServer s) e k = let z : ◌≡◌ {A = ℕ} 0 1 = cc in absurd (omega arith)
    go t (OfTask x) e k = let z : ◌≡◌ {A = ℕ} 0 1 = cc in absurd (omega arith)
    go t (Malformed word field) e k = let z : ◌≡◌ {A = ℕ} 0 1 = cc in absurd (omega arith)

-- Rows that keep the rules, by what is asked of them.
pub record RowsKeep (a : Rows) : Type 0 where
  pub good : Good a
  pub servers_low : 1 ≤ length a.servers
  pub tasks_low : 1 ≤ length a.tasks
  pub servers_differ : differ (length a.servers) (λ i. (get_or a.servers i no_server).priority) ≡ true
  pub tasks_differ : differ (length a.tasks) (λ k. (get_or a.tasks k no_task).priority) ≡ true

-- a task's home is a server, so where there is a task there is one
home_there : (a : Rows) → Good a → 1 ≤ length a.tasks → 1 ≤ length a.servers
home_there a g h =
    let x = get_or a.tasks 0 no_task in
    let f = (stands_keeps a.servers x (g.task 0 h)).1 in
    omega (arith, (rows_there a.servers x.home x.degraded x.limit f).0)

pub good_keeps : (a : Rows) → Good a → 1 ≤ length a.tasks →
    differ (length a.servers) (λ i. (get_or a.servers i no_server).priority) ≡ true →
    differ (length a.tasks) (λ k. (get_or a.tasks k no_task).priority) ≡ true → keeps a ≡ true
unfolding keeps every
good_keeps a g h p q =
    let ss = a.servers in
    let ks = a.tasks in
    rw (
      is_within 1 10000 a.tick.0 g.low g.high,
      is_within 1 32 (length ss) (home_there a g h) g.servers_high,
      is_within 1 64 (length ks) h g.tasks_high,
      all_build (λ i. every (server_keeps (get_or ss i no_server))) (length ss) g.server,
      all_build (λ k. task_stands ss (get_or ks k no_task)) (length ks) g.task,
      p,
      q,
    )

pub keeps_rows : (a : Rows) → keeps a ≡ true → RowsKeep a
unfolding keeps
keeps_rows a e =
    let ss = a.servers in
    let ks = a.tasks in
    let t =
    every_at
    (tick_keeps a.tick.0
    ∷ within 1 32 (length ss)
    ∷ within 1 64 (length ks)
    ∷ all_below (length ss) (λ i. every (server_keeps (get_or ss i no_server)))
    ∷ all_below (length ks) (λ k. task_stands ss (get_or ks k no_task))
    ∷ differ (length ss) (λ i. (get_or ss i no_server).priority)
    ∷ differ (length ks) (λ k. (get_or ks k no_task).priority)
    ∷ [])
    e in
    record {
      good =
          record {
            low = within_low 1 10000 a.tick.0 (t 0);
            high = within_high 1 10000 a.tick.0 (t 0);
            servers_high = within_high 1 32 (length ss) (t 1);
            tasks_high = within_high 1 64 (length ks) (t 2);
            server = λ i l. all_at (λ j. every (server_keeps (get_or ss j no_server))) (length ss) i (t 3) l;
            task = λ k l. all_at (λ j. task_stands ss (get_or ks j no_task)) (length ks) k (t 4) l;
          };
      servers_low = within_low 1 32 (length ss) (t 1);
      tasks_low = within_low 1 64 (length ks) (t 2);
      servers_differ = t 5;
      tasks_differ = t 6;
    }

-- The lines of rows that keep the rules: each is taken, and the rows come back.
abbrev with : Micros → List Server → List Task → Rows
with t ss ks = record { tick = t; servers = ss; tasks = ks }

server_taken : (n : ℕ) (t : Micros) (ss : List Server) (s : Server) → 1 < n → length ss < 32 →
    every (server_keeps s) ≡ true →
    standing n (with t ss []) (OfServer (server_back t.0 s)) ≡ Ok tt
unfolding placed bounds wholes fault
server_taken n t ss s h l e =
    keeps_standing n (with t ss []) (OfServer (server_back t.0 s))
    (record {
      stands = rw (lt-ltb 1 n h);
      formed = refl;
      bounded = server_bounded (length ss) t.0 s l e;
      whole = server_whole_lem t.0 s;
      fits = refl;
    })

task_taken : (n : ℕ) (t : Micros) (ss : List Server) (ks : List Task) (k : Task) → 0 < t.0 → 0 < length ss →
    length ks < 64 →
    task_stands ss k ≡ true → standing n (with t ss ks) (OfTask (task_back t.0 k)) ≡ Ok tt
unfolding placed bounds wholes fault every
task_taken n t ss ks k p h l e =
    let y = stands_keeps ss k e in
    keeps_standing n (with t ss ks) (OfTask (task_back t.0 k))
    (record {
      stands = rw (not_nil ss h);
      formed = refl;
      bounded = task_bounded (length ks) t.0 (task_back t.0 k) l (rw (task_there t.0 p k) y.0);
      whole = refl;
      fits = ap (λ (x : Task). task_fault ss x.home x.degraded x.limit) (task_there t.0 p k) ∙ y.1;
    })

-- each of some rows, and each of the rest
each_rest : {A : Type 0} (P : A → Type 0) (x : A) (xs : List A) (d : A) →
    ((i : ℕ) → i < length (x ∷ xs) → P (get_or (x ∷ xs) i d)) →
    (i : ℕ) → i < length xs → P (get_or xs i d)
each_rest P x xs d f i h = f (suc i) (omega arith)

servers_taken : (t : Micros) (ss more : List Server) (rest : List Line) → 0 < t.0 → length ss + length more ≤ 32 →
    ((i : ℕ) → i < length more → every (server_keeps (get_or more i no_server)) ≡ true) →
    ((m : ℕ) → 1 < m → KeptFrom m (with t (ss ++ more) []) rest) → (n : ℕ) → 1 < n →
    KeptFrom n (with t ss []) (server_lines t.0 more ++ rest)
unfolding server_lines grown
servers_taken t ss [] rest p l e r n h = rw (← append-nil ss) (r n h)
servers_taken t ss (s ∷ more) rest p l e r n h = (
  server_taken n t ss s h (omega arith) (e 0 (omega arith)),
  rw (server_there t.0 p s)
      (servers_taken t (ss ++ (s ∷ [])) more rest p (omega (arith, length-append ss (s ∷ [])))
      (each_rest (λ x. every (server_keeps x) ≡ true) s more no_server e)
      (λ m g. rw (append_assoc ss (s ∷ []) more) (r m g)) (n + 1) (omega arith)),
)

tasks_taken : (t : Micros) (ss : List Server) (ks more : List Task) → 0 < t.0 → 0 < length ss →
    length ks + length more ≤ 64 →
    ((i : ℕ) → i < length more → task_stands ss (get_or more i no_task) ≡ true) →
    (n : ℕ) → KeptFrom n (with t ss ks) (task_lines t.0 more)
unfolding task_lines grown
tasks_taken t ss ks [] p q l e n = tt
tasks_taken t ss ks (k ∷ more) p q l e n = (
  task_taken n t ss ks k p q (omega arith) (e 0 (omega arith)),
  rw (task_there t.0 p k)
      (tasks_taken t ss (ks ++ (k ∷ [])) more p q (omega (arith, length-append ks (k ∷ [])))
      (each_rest (λ x. task_stands ss x ≡ true) k more no_task e) (n + 1)),
)

servers_grown : (t : Micros) (ss more : List Server) (rest : List Line) → 0 < t.0 →
    grown_by (with t ss []) (server_lines t.0 more ++ rest) ≡ grown_by (with t (ss ++ more) []) rest
unfolding server_lines grown rows_grown
servers_grown t ss [] rest p = rw (append-nil ss)
servers_grown t ss (s ∷ more) rest p =
    ap (λ x. grown_by (with t (ss ++ (x ∷ [])) []) (server_lines t.0 more ++ rest)) (server_there t.0 p s) ∙
    servers_grown t (ss ++ (s ∷ [])) more rest p ∙ rw (append_assoc ss (s ∷ []) more)

tasks_grown : (t : Micros) (ss : List Server) (ks more : List Task) → 0 < t.0 →
    grown_by (with t ss ks) (task_lines t.0 more) ≡ with t ss (ks ++ more)
unfolding task_lines grown rows_grown
tasks_grown t ss ks [] p = rw (append-nil ks)
tasks_grown t ss ks (k ∷ more) p =
    ap (λ x. grown_by (with t ss (ks ++ (x ∷ []))) (task_lines t.0 more)) (task_there t.0 p k) ∙
    tasks_grown t ss (ks ++ (k ∷ [])) more p ∙ rw (append_assoc ks (k ∷ []) more)

tick_taken_lem : (t : Micros) → 1 ≤ t.0 → t.0 ≤ 10000 → standing 1 no_rows (OfTick t) ≡ Ok tt
unfolding placed wholes fault every
tick_taken_lem t l h =
    keeps_standing 1 no_rows (OfTick t)
    (record { stands = refl; formed = refl; bounded = within_tick no_rows t l h; whole = refl; fits = refl })

pub lines_taken : (a : Rows) → RowsKeep a → KeptFrom 1 no_rows (lines_of a)
unfolding lines_of grown
lines_taken a k =
    let t = a.tick in
    let g = k.good in (
      tick_taken_lem t g.low g.high,
      servers_taken t [] a.servers (task_lines t.0 a.tasks) g.low (omega (arith, g.servers_high)) g.server
          (λ m h. tasks_taken t a.servers [] a.tasks g.low k.servers_low (omega (arith, g.tasks_high)) g.task m)
          (1 + 1) (omega arith),
    )

pub lines_grown : (a : Rows) → RowsKeep a → grown_by no_rows (lines_of a) ≡ a
unfolding lines_of grown rows_grown
lines_grown a k =
    let t = a.tick in
    servers_grown t [] a.servers (task_lines t.0 a.tasks) k.good.low ∙
    tasks_grown t a.servers [] a.tasks k.good.low

-- the end of the text
pub some : {A : Type 0} (xs : List A) → not (is_nil xs) ≡ true → 1 ≤ length xs
some [] e = let z : ◌≡◌ {A = ℕ} 0 1 = cc in absurd (omega arith)
some (x ∷ xs) e = omega arith

record Ended (a : Rows) : Type 0 where
  task : 1 ≤ length a.tasks
  servers : equal_servers a.servers ≡ None
  tasks : equal_tasks a.tasks ≡ None

ended_taken : (n : ℕ) (a : Rows) → (ended n a).answer ≡ Ok tt → Ended a
unfolding ended compared
ended_taken n a e =
    let p = unless_not no_rows (not (is_nil a.tasks)) MalformedWhy n (compared a) (taken_not e) in
    let s = ap (λ (x : ReadRows). x.answer) (sym p.1) ∙ e in
    let tasks = pair_said (2 + length a.servers) (equal_tasks a.tasks) (taken a) in
    let q = pair_taken no_rows 2 (equal_servers a.servers) tasks s in
    let r = pair_taken no_rows (2 + length a.servers) (equal_tasks a.tasks) (taken a) q.1 in
    record { task = some a.tasks p.0; servers = q.0; tasks = r.0 }

taken_ended : (n : ℕ) (a : Rows) → Ended a → ended n a ≡ taken a
unfolding ended compared
taken_ended n a e = rw (not_nil a.tasks e.task, e.servers, e.tasks)

-- the whole text
pub allowed_taken : (text : List ℕ) (a : Rows) → Allowed text a → read text ≡ taken a
unfolding read
allowed_taken text a w =
    kept_ends table_text text
    (record { short = w.short; lines = w.lines; closes = w.closes; kept = w.kept })
    ∙ rw w.rows
    (taken_ended (1 + length w.lines) a
    (record {
      task = w.task;
      servers = differ_pair (length a.servers) (λ i. (get_or a.servers i no_server).priority) w.servers_differ;
      tasks = differ_pair (length a.tasks) (λ k. (get_or a.tasks k no_task).priority) w.tasks_differ;
    }))

pub taken_allowed : (text : List ℕ) → (read text).answer ≡ Ok tt → Allowed text (read text).rows
unfolding read
taken_allowed text e =
    let r = not_refused_kept table_text text (taken_not e) in
    let b = grown_by no_rows (map read_line r.lines) in
    let q : read text ≡ ended (1 + length r.lines) b = kept_ends table_text text r in
    let n = ended_taken (1 + length r.lines) b (ap (λ (x : ReadRows). x.answer) (sym q) ∙ e) in
    let z : read text ≡ taken b = q ∙ taken_ended (1 + length r.lines) b n in
    subst (Allowed text) (ap (λ (x : ReadRows). x.rows) (sym z))
    (record {
      short = r.short;
      lines = r.lines;
      closes = r.closes;
      kept = r.kept;
      rows = refl;
      task = n.task;
      servers_differ = pair_differ (length b.servers) (λ i. (get_or b.servers i no_server).priority) n.servers;
      tasks_differ = pair_differ (length b.tasks) (λ k. (get_or b.tasks k no_task).priority) n.tasks;
    })
