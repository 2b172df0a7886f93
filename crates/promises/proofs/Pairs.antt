-- Pairs of equal priority, by the lines of a text and by the rows: the lines of a kind stand one
-- below the other in the order of their rows, so the first pair of lines is the first pair of rows.
-- Assumes nothing.
use mathlib.Core.Path.{◌≡◌, refl, sym, ap, subst, ◌∙◌}
use mathlib.Core.Bool.{Bool, true, false}
use mathlib.Core.List.{List, [], ◌∷◌, ◌++◌}
use mathlib.Core.Logic.{◌⊎◌, inl, inr}
use Prim.Native.Nat.{ℕ, zero, suc, ◌+◌, ◌-◌, ◌≤◌, ◌<◌}
use native.Mathlib.Omega.{arith}
use lib.ListN.{length, get_or, length-map}
use lib.Seq.{get_or-append-add}
use Rattle.laws.proofs.Choice.{clash, le_or_lt}
use Rattle.table.specs.declared.Server.{Server}
use Rattle.table.specs.declared.Task.{Task}
use Rattle.table.specs.Rows.{Rows, no_server, no_task}
use Rattle.table.proofs.Pairs.{AllDiffer, IsFirst}
use Rattle.text.specs.declared.Line.{Line}
use Rattle.text.specs.declared.Line.TheVariants.{OfTick, OfServer, OfTask, Malformed}
use Rattle.text.specs.Line.{no_line}
use Rattle.text.specs.Write.{server_back, task_back, server_lines, task_lines, lines_of}
use Rattle.text.proofs.Ticks.{rounded}
use Rattle.promises.specs.Condition1.{line_at, is_server, is_task, priority_in, EqualLines}
use Rattle.promises.specs.Condition1.{NoneEqual, Before, FirstEqual}

-- the lines of one kind are n, the first being line `top`, and p has their priorities
pub record Stretch (of : Line → Bool) (text : List ℕ) (top n : ℕ) (p : ℕ → ℕ) : Type 0 where
  pub counted : 1 ≤ top
  pub there : (i : ℕ) → i < n → of (line_at text (top + i)) ≡ true
  pub worth : (i : ℕ) → i < n → priority_in (line_at text (top + i)) ≡ p i
  pub only : (m : ℕ) → 1 ≤ m → of (line_at text m) ≡ true → (top ≤ m) × (m < top + n)

module _ (of : Line → Bool) (text : List ℕ) (top n : ℕ) (p : ℕ → ℕ)
    (s : Stretch of text top n p) where
  rows_lines : (i j : ℕ) → i < j → j < n → p i ≡ p j → EqualLines of text (top + i) (top + j)
  rows_lines i j h l e =
      record {
        counted = omega (arith, s.counted);
        ordered = omega arith;
        smaller = s.there i (omega arith);
        larger = s.there j l;
        equal = s.worth i (omega arith) ∙ e ∙ sym (s.worth j l);
      }

  -- line x is row x - top
  row_worth : (x : ℕ) → top ≤ x → x < top + n → priority_in (line_at text x) ≡ p (x - top)
  row_worth x h l =
      let e : top + (x - top) ≡ x = omega arith in
      ap (λ m. priority_in (line_at text m)) (sym e) ∙ s.worth (x - top) (omega arith)

  lines_rows : (x y : ℕ) → EqualLines of text x y →
      (top ≤ x) × (x < y) × (y < top + n) × (p (x - top) ≡ p (y - top))
  lines_rows x y e =
      let h = e.ordered in
      let a = s.only x e.counted e.smaller in
      let b = s.only y (omega (arith, e.counted)) e.larger in
      (a.0, h, b.1, sym (row_worth x a.0 a.1) ∙ e.equal ∙ row_worth y b.0 b.1)

  pub none_lines : AllDiffer n p → NoneEqual of text
  none_lines d x y e =
      let r = lines_rows x y e in
      d (x - top) (y - top) (omega (arith, r.0, r.1)) (omega (arith, r.0, r.1, r.2)) r.3

  pub none_rows : NoneEqual of text → AllDiffer n p
  none_rows d i j h l e = d (top + i) (top + j) (rows_lines i j h l e)

  pub first_lines : (i j : ℕ) → IsFirst n p i j → FirstEqual of text (top + i) (top + j)
  first_lines i j f =
      record { pair = rows_lines i j f.ordered f.below f.equal; first = go }
    where
      go : (v w : ℕ) → Before v w (top + i) (top + j) → EqualLines of text v w → ⊥
      go v w (inl l) e =
          let r = lines_rows v w e in
          f.rows (v - top) (w - top) (omega (arith, r.0)) (omega (arith, r.0, r.1))
          (omega (arith, r.0, r.1, r.2)) r.3
      go v w (inr l) e =
          let r = lines_rows v w e in
          let q : v - top ≡ i = omega (arith, l.0) in
          f.row (w - top) (omega (arith, r.1, l.0)) (omega (arith, r.1, l.0, l.1))
          (ap p (sym q) ∙ r.3)

  pub first_rows : (x y : ℕ) → FirstEqual of text x y →
      (top ≤ x) × (x < y) × IsFirst n p (x - top) (y - top)
  first_rows x y f =
      let r = lines_rows x y f.pair in
      let q : top + (x - top) ≡ x = omega (arith, r.0) in (
        r.0,
        r.1,
        record {
          ordered = omega (arith, r.0, r.1);
          below = omega (arith, r.0, r.1, r.2);
          equal = r.3;
          rows =
              λ a b h g l e.
              f.first (top + a) (top + b) (inl (omega (arith, r.0))) (rows_lines a b g l e);
          row =
              λ b h g e.
              f.first (top + (x - top)) (top + b) (inr (q, omega (arith, r.0, r.1)))
              (rows_lines (x - top) b h (omega (arith, r.0, r.1, r.2)) e);
        },
      )

-- Where the lines of some rows stand: the tick's, the servers', the tasks'.
server_at_lem : (t : ℕ) (ss : List Server) (rest : List Line) (i : ℕ) → i < length ss →
    get_or (server_lines t ss ++ rest) i no_line ≡ OfServer (server_back t (get_or ss i no_server))
unfolding server_lines
server_at_lem t [] rest i h = absurd (omega arith)
server_at_lem t (s ∷ ss) rest zero h = refl
server_at_lem t (s ∷ ss) rest (suc i) h = server_at_lem t ss rest i (omega arith)

past_servers : (t : ℕ) (ss : List Server) (rest : List Line) (i : ℕ) →
    get_or (server_lines t ss ++ rest) (length ss + i) no_line ≡ get_or rest i no_line
unfolding server_lines
past_servers t ss rest i =
    let e = length-map ss (λ s. OfServer (server_back t s)) in
    rw (← e) (get_or-append-add (server_lines t ss) rest i no_line)

task_at_lem : (t : ℕ) (ks : List Task) (i : ℕ) → i < length ks →
    get_or (task_lines t ks) i no_line ≡ OfTask (task_back t (get_or ks i no_task))
unfolding task_lines
task_at_lem t [] i h = absurd (omega arith)
task_at_lem t (k ∷ ks) zero h = refl
task_at_lem t (k ∷ ks) (suc i) h = task_at_lem t ks i (omega arith)

task_only : (t : ℕ) (ks : List Task) (i : ℕ) → is_task (get_or (task_lines t ks) i no_line) ≡ true →
    i < length ks
unfolding task_lines
task_only t [] i e = absurd (clash false e refl)
task_only t (k ∷ ks) zero e = omega arith
task_only t (k ∷ ks) (suc i) e = omega (arith, task_only t ks i e)

no_server_lem : (t : ℕ) (ks : List Task) (i : ℕ) → is_server (get_or (task_lines t ks) i no_line) ≡ false
unfolding task_lines
no_server_lem t [] i = refl
no_server_lem t (k ∷ ks) zero = refl
no_server_lem t (k ∷ ks) (suc i) = no_server_lem t ks i

-- rounding task times changes neither kind nor priority
record Alike (l m : Line) : Type 0 where
  server : is_server l ≡ is_server m
  task : is_task l ≡ is_task m
  priority : priority_in l ≡ priority_in m

rounded_alike : (t : ℕ) (l : Line) → Alike l (rounded t l)
unfolding rounded
rounded_alike t (OfTick u) = record { server = refl; task = refl; priority = refl }
rounded_alike t (OfServer s) = record { server = refl; task = refl; priority = refl }
rounded_alike t (OfTask k) = record { server = refl; task = refl; priority = refl }
rounded_alike t (Malformed word field) = record { server = refl; task = refl; priority = refl }

-- The lines of a text that are those of the rows a, but for rounding.
module _ (text : List ℕ) (a : Rows)
    (is : (m : ℕ) → rounded a.tick.0 (line_at text (suc m)) ≡ get_or (lines_of a) m no_line) where
  abbrev t : ℕ
  t = a.tick.0

  abbrev ns : ℕ
  ns = length a.servers

  abbrev tasks : List Line
  tasks = task_lines t a.tasks

  -- line m is alike to line l
  abbrev Says : ℕ → Line → Type 0
  Says m l = Alike (line_at text m) l

  says : (m : ℕ) (l : Line) → get_or (lines_of a) m no_line ≡ l → Says (suc m) l
  says m l e = rw (← e, ← is m) (rounded_alike t (line_at text (suc m)))

  server_line_lem : (i : ℕ) → i < ns →
      Says (2 + i) (OfServer (server_back t (get_or a.servers i no_server)))
  unfolding lines_of
  server_line_lem i h =
      let e : 2 + i ≡ suc (suc i) = omega arith in
      let l = OfServer (server_back t (get_or a.servers i no_server)) in
      rw e (says (suc i) l (server_at_lem t a.servers tasks i h))

  past_line : (i : ℕ) → Says (2 + ns + i) (get_or tasks i no_line)
  unfolding lines_of
  past_line i =
      let e : 2 + ns + i ≡ suc (suc (ns + i)) = omega arith in
      rw e (says (suc (ns + i)) (get_or tasks i no_line) (past_servers t a.servers tasks i))

  tick_line : Says 1 (OfTick a.tick)
  unfolding lines_of
  tick_line = says 0 (OfTick a.tick) refl

  task_line_lem : (i : ℕ) → i < length a.tasks →
      Says (2 + ns + i) (OfTask (task_back t (get_or a.tasks i no_task)))
  task_line_lem i h = rw (← task_at_lem t a.tasks i h) (past_line i)

  -- every line is one of these
  data Place : ℕ → Type 0 where
    tick : Place 1
    server : (i : ℕ) → i < ns → Place (2 + i)
    past : (i : ℕ) → Place (2 + ns + i)

  place : (m : ℕ) → 1 ≤ m → Place m
  place m h = go (le_or_lt 2 m) (le_or_lt (2 + ns) m)
    where
      go : (2 ≤ m) ⊎ (m < 2) → (2 + ns ≤ m) ⊎ (m < 2 + ns) → Place m
      go (inr l) q = let z : m ≡ 1 = omega arith in rw z tick
      go (inl l) (inl g) =
          let z : 2 + ns + (m - (2 + ns)) ≡ m = omega arith in
          subst Place z (past (m - (2 + ns)))
      go (inl l) (inr g) =
          let z : 2 + (m - 2) ≡ m = omega arith in
          subst Place z (server (m - 2) (omega arith))

  server_within : (m : ℕ) → Place m → is_server (line_at text m) ≡ true → (2 ≤ m) × (m < 2 + ns)
  server_within m tick e = absurd (clash false (sym tick_line.server ∙ e) refl)
  server_within m (server i h) e = (omega arith, omega arith)
  server_within m (past i) e =
      absurd (clash false (sym ((past_line i).server ∙ no_server_lem t a.tasks i) ∙ e) refl)

  task_within : (m : ℕ) → Place m → is_task (line_at text m) ≡ true →
      (2 + ns ≤ m) × (m < 2 + ns + length a.tasks)
  task_within m tick e = absurd (clash false (sym tick_line.task ∙ e) refl)
  task_within m (server i h) e = absurd (clash false (sym (server_line_lem i h).task ∙ e) refl)
  task_within m (past i) e =
      let l = task_only t a.tasks i (sym (past_line i).task ∙ e) in
      (omega arith, omega (arith, l))

  pub servers_stretch : Stretch is_server text 2 ns (λ i. (get_or a.servers i no_server).priority)
  servers_stretch =
      record {
        counted = omega arith;
        there = λ i h. (server_line_lem i h).server;
        worth = λ i h. (server_line_lem i h).priority;
        only = λ m h. server_within m (place m h);
      }

  pub tasks-stretch :
      Stretch is_task text (2 + ns) (length a.tasks) (λ k. (get_or a.tasks k no_task).priority)
  tasks-stretch =
      record {
        counted = omega arith;
        there = λ i h. (task_line_lem i h).task;
        worth = λ i h. (task_line_lem i h).priority;
        only = λ m h. task_within m (place m h);
      }
